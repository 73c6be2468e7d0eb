-- Texts that are printed while a line is expected.
use Rattle.std.proofs.Common.{◌≡◌, ℕ, List, [], ◌∷◌, ◌++◌, Option, Some, None, refl, sym, ap, ◌∙◌, subst}
use Rattle.std.proofs.lemmas.List.{append_assoc}
use Rattle.std.specs.Prelude.{Result, Ok, Err, IsErrAnd}
use Rattle.std.specs.Io.KnownBytes.{Appends}
use Rattle.std.proofs.KnownBytes.{Appends-nil, Appends-trans}
use Rattle.dfu_link.specs.Expecting.{Expectation, MeetsExpectation, expectation_left, IsPrintFault}
use Rattle.dfu_link.specs.inside.Expected.{WriteEnds, TextPrinted, PrintEnds}
use Rattle.dfu_link.specs.declared.scripting.fault.ScriptFault.{ScriptFault}
use Rattle.dfu_link.specs.declared.scripting.fault.ScriptFault.TheVariants.{Expected, NoMemory, Write}
use Rattle.dfu_link.proofs.WriteLaws.{both_texts_fail}

-- The expectation after two texts is the same as after both joined.
expectation_left_of_joined : (e : Option Expectation) (xs ys : List ℕ) → expectation_left e (xs ++ ys)
    ≡ expectation_left (expectation_left e xs) ys
expectation_left_of_joined e [] ys = refl
expectation_left_of_joined e (x ∷ xs) [] = refl
expectation_left_of_joined e (x ∷ xs) (y ∷ ys) = refl

-- If two texts in a row meet the expectation, both joined meet it.
both_meet_expectation : (e : Option Expectation) (xs ys : List ℕ) → MeetsExpectation e xs → MeetsExpectation (expectation_left e xs) ys
    → MeetsExpectation e (xs ++ ys)
both_meet_expectation None xs ys h k = tt
both_meet_expectation (Some e) [] ys h k = k
both_meet_expectation (Some e) (x ∷ xs) ys h k = record {
  rest = h.rest ++ ys;
  is = ap (λ (zs : List ℕ). zs ++ ys) h.is ∙ append_assoc _ h.rest ys;
}

-- An empty text meets each expectation.
empty_text_meets_expectation : (e : Option Expectation) → MeetsExpectation e []
empty_text_meets_expectation None = tt
empty_text_meets_expectation (Some e) = tt

-- An empty text is printed without any write.
pub empty_text_is_printed : (e : Option Expectation) (old : Option (List ℕ)) → TextPrinted e old [] e old
empty_text_is_printed e old = record { told = Appends-nil old; meets = empty_text_meets_expectation e; left = refl }

-- If two texts are printed one after the other, both joined are printed as one text.
pub printed_texts_join : {e e' e'' : Option Expectation} {old mid new : Option (List ℕ)} {xs ys : List ℕ} → TextPrinted e old xs e' mid
    → TextPrinted e' mid ys e'' new → TextPrinted e old (xs ++ ys) e'' new
printed_texts_join {e = e} {old = old} {mid = mid} {new = new} {xs = xs} {ys = ys} h k = record {
  told = Appends-trans old mid new xs ys h.told k.told;
  meets = both_meet_expectation e xs ys h.meets (subst (λ (x : Option Expectation). MeetsExpectation x ys) h.left k.meets);
  left = k.left ∙ (ap (λ (x : Option Expectation). expectation_left x ys) h.left ∙ sym (expectation_left_of_joined e xs ys));
}

-- If the writer fails in a text, the printing of the text fails with the writer's fault.
failed_writer_prints_prefix : (r : Result Unit ScriptFault) (e e' : Option Expectation) (old new : Option (List ℕ)) (text : List ℕ) (f :
    ScriptFault)
    → WriteEnds text old new r → IsErrAnd r (λ g. g ≡ f) → PrintEnds e old text e' new r
failed_writer_prints_prefix (Ok done) e e' old new text f h same = absurd same
failed_writer_prints_prefix (Err g) e e' old new text f h same = record {
  ok = tt;
  err = h.err;
  fault = subst (λ (x : ScriptFault). IsPrintFault e text old new x) (sym h.fault) tt;
}

-- If the writer fails in a prefix of a text, the printing of the text fails.
pub prefix_fault_fails_text : {e e' : Option Expectation} {old new : Option (List ℕ)} {xs text : List ℕ} {f : ScriptFault} {r : Result Unit
    ScriptFault}
    (ys : List ℕ) → WriteEnds xs old new (Err f) → IsErrAnd r (λ g. g ≡ f) → text ≡ xs ++ ys → PrintEnds e old text e' new r
prefix_fault_fails_text {e = e} {e' = e'} {old = old} {new = new} {text = text} {f = f} {r = r} ys h same is =
    failed_writer_prints_prefix r e e' old new text f (both_texts_fail ys h same is) same

-- If no line is expected, only the writer can fail; the writer's fault is a print fault of every text and every expectation.
writer_fault_fails_any_print : (e : Option Expectation) (xs ys : List ℕ) (f : ScriptFault) (a b a' b' : Option (List ℕ)) →
    IsPrintFault None xs a b f
    → IsPrintFault e ys a' b' f
writer_fault_fails_any_print e xs ys Write a b a' b' h = tt
writer_fault_fails_any_print e xs ys f a b a' b' h = absurd h

-- If a text fails to print after an empty text was written, it fails to print without the empty text too.
nothing_then_fault_fails : (e : Expectation) (ys : List ℕ) (f : ScriptFault) (old mid new : Option (List ℕ)) → Appends old mid []
    → IsPrintFault (Some e) ys mid new f → IsPrintFault (Some e) ys old new f
nothing_then_fault_fails e ys Write old mid new told h = tt
nothing_then_fault_fails e ys NoMemory old mid new told h = tt
nothing_then_fault_fails e ys (Expected n) old mid new told h = (
  h.0,
  record {
    front = h.1.front;
    last = h.1.last;
    whole = h.1.whole;
    other = h.1.other;
    told = Appends-trans old mid new [] h.1.front told h.1.told;
  },
)
nothing_then_fault_fails e ys f old mid new told h = absurd h

-- If a text fails to print after another one was written, both joined fail to print.
prefix_then_fault_fails : (e : Option Expectation) (xs ys : List ℕ) (f : ScriptFault) (old mid new : Option (List ℕ)) → Appends old mid xs
    → IsPrintFault (expectation_left e xs) ys mid new f → IsPrintFault e (xs ++ ys) old new f
prefix_then_fault_fails None [] ys f old mid new told h = writer_fault_fails_any_print None ys ys f mid new old new h
prefix_then_fault_fails (Some e) [] ys f old mid new told h = nothing_then_fault_fails e ys f old mid new told h
prefix_then_fault_fails e (x ∷ xs) ys f old mid new told h = writer_fault_fails_any_print e ys (x ∷ (xs ++ ys)) f mid new old new h

-- If a text fails to print after another one was printed, both joined fail to print.
pub text_then_fault_fails : {e e' : Option Expectation} {old mid : Option (List ℕ)} {xs : List ℕ} (ys : List ℕ)
    (new : Option (List ℕ)) (f : ScriptFault)
    → TextPrinted e old xs e' mid
    → IsPrintFault e' ys mid new f → IsPrintFault e (xs ++ ys) old new f
text_then_fault_fails {e = e} {old = old} {mid = mid} {xs = xs} ys new f h fails =
    prefix_then_fault_fails e xs ys f old mid new h.told (subst (λ (x : Option Expectation). IsPrintFault x ys mid new f) h.left fails)
