-- Texts that are written one after the other, completely or up to a failure.
use Rattle.std.proofs.Common.{◌≡◌, ℕ, List, [], ◌++◌, length-append, Option, sym, ap, ◌∙◌, subst, arith}
use Rattle.std.proofs.lemmas.List.{append_assoc}
use Rattle.std.specs.Io.KnownBytes.{Appends}
use Rattle.std.specs.Prelude.{Result, Ok, Err, IsErrAnd}
use Rattle.std.proofs.KnownBytes.{Appends-nil, Appends-trans}
use Rattle.dfu_suffix.specs.Writing.{IsPartlyWritten}
use Rattle.dfu_link.specs.declared.scripting.fault.ScriptFault.{ScriptFault}
use Rattle.dfu_link.specs.inside.Expected.{WriteEnds}

-- An empty text is written without any write.
pub no_text_is_written : (old : Option (List ℕ)) → WriteEnds [] old old (Ok tt)
no_text_is_written old = record { ok = Appends-nil old; err = tt; fault = tt }

-- If the writing of a text stops partway, the writing of a longer text that begins with it stops partway too.
pub longer_text_breaks_off : (old new : Option (List ℕ)) (xs ys : List ℕ) → IsPartlyWritten old new xs → IsPartlyWritten old new (xs ++ ys)
longer_text_breaks_off old new xs ys b =
    record {
      front = b.front;
      rest = b.rest ++ ys;
      left = omega (arith, b.left, length-append b.rest ys);
      whole = ap (λ (zs : List ℕ). zs ++ ys) b.whole ∙ append_assoc b.front b.rest ys;
      told = b.told;
    }

-- If one text is written completely and the next one in part, both joined are written in part.
pub second_text_breaks_both : (old mid new : Option (List ℕ)) (xs ys : List ℕ) → Appends old mid xs → IsPartlyWritten mid new ys
    → IsPartlyWritten old new (xs ++ ys)
second_text_breaks_both old mid new xs ys h b =
    record {
      front = xs ++ b.front;
      rest = b.rest;
      left = b.left;
      whole = ap (λ (zs : List ℕ). xs ++ zs) b.whole ∙ sym (append_assoc xs b.front b.rest);
      told = Appends-trans old mid new xs b.front h b.told;
    }

-- If one text was written completely, the result of writing another one after it is the result of writing both joined.
written_texts_join : (r : Result Unit ScriptFault) (old mid new : Option (List ℕ)) (xs ys : List ℕ) → Appends old mid xs →
    WriteEnds ys mid new r
    → WriteEnds (xs ++ ys) old new r
written_texts_join (Ok done) old mid new xs ys h k = record { ok = Appends-trans old mid new xs ys h k.ok; err = tt; fault = tt }
written_texts_join (Err f) old mid new xs ys h k =
    record { ok = tt; err = second_text_breaks_both old mid new xs ys h k.err; fault = k.fault }

-- If a text was written, the result of writing a second text after it is the result of writing both joined.
pub both_texts_are_written : {old mid new : Option (List ℕ)} {xs ys text : List ℕ} {done : Unit {0}} {r : Result Unit ScriptFault}
    → WriteEnds xs old mid (Ok done) → WriteEnds ys mid new r → text ≡ xs ++ ys → WriteEnds text old new r
both_texts_are_written {old = old} {mid = mid} {new = new} {xs = xs} {ys = ys} {r = r} h k e =
    subst (λ (zs : List ℕ). WriteEnds zs old new r) (sym e) (written_texts_join r old mid new xs ys h.ok k)

-- If the writer fails in a text, it fails in that text followed by another.
first_text_stops_both : (r : Result Unit ScriptFault) (old new : Option (List ℕ)) (xs ys : List ℕ) (f : ScriptFault) →
    WriteEnds xs old new (Err f)
    → IsErrAnd r (λ e. e ≡ f) → WriteEnds (xs ++ ys) old new r
first_text_stops_both (Ok done) old new xs ys f h same = absurd same
first_text_stops_both (Err e) old new xs ys f h same = record {
  ok = tt;
  err = longer_text_breaks_off old new xs ys h.err;
  fault = same
      ∙ h.fault;
}

-- If the writer fails in a text, it fails in that text followed by any other.
pub both_texts_fail : {old new : Option (List ℕ)} {xs text : List ℕ} {f : ScriptFault} {r : Result Unit ScriptFault} (ys : List ℕ)
    → WriteEnds xs old new (Err f) → IsErrAnd r (λ e. e ≡ f) → text ≡ xs ++ ys → WriteEnds text old new r
both_texts_fail {old = old} {new = new} {xs = xs} {f = f} {r = r} ys h same e =
    subst (λ (zs : List ℕ). WriteEnds zs old new r) (sym e) (first_text_stops_both r old new xs ys f h same)
