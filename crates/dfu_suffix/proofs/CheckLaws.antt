-- The result of a check is the one that the grammar requires.
use Rattle.std.proofs.Common.{◌≡◌, ℕ, ◌+◌, ◌-◌, ◌<◌, ◌≤◌, Bool, true, cond, ltb, List, [], ◌∷◌, length, drop, Some, Result, Ok, Err, refl, sym, ap, ◌∙◌, subst, arith}
use Rattle.std.specs.Prelude.{find}
use Rattle.std.proofs.lemmas.Bool.Decides.{nat_tests}
use Rattle.byteorder.specs.Endian.{little_number}
use Rattle.dfu_suffix.specs.Register.{register}
use Rattle.dfu_suffix.specs.Grammar.{Content, IsFile, First, before_crc, has_fault}
use Rattle.dfu_suffix.specs.inside.Reading.{read_content}
use Rattle.dfu_suffix.specs.inside.TailChecks.{checked_by_register}
use Rattle.dfu_suffix.specs.Checking.{CheckResult, UnlessReadFault, summary_of}
use Rattle.dfu_suffix.specs.Laws.{AreBytes}
use Rattle.dfu_suffix.proofs.OneReading.{fault_of_reading_is_first, file_bytes_have_no_fault, one_reading}
use Rattle.dfu_wire.specs.declared.ids.Ids.{Ids}
use Rattle.dfu_suffix.specs.declared.summary.Summary.{Summary}
use Rattle.dfu_suffix.specs.declared.fault.SuffixFault.{SuffixFault}
use Rattle.dfu_suffix.specs.declared.fault.SuffixFault.TheVariants.{TooShort, NoSignature, BadLength, DfuSe, BadCrc, AlreadySuffixed, TooLarge, NoMemory, Read, Write}
use Rattle.dfu_suffix.proofs.FileLaws.{file_ends_in_its_crc, read_content_is_of_file}
use Rattle.dfu_suffix.proofs.JudgeLaws.{parts_determine_summaries, summary_of_content, summary_result_of_reading, window_check_is_reading}
use Rattle.dfu_suffix.proofs.Windows.{window_of}

-- For a file of the grammar, the required result is its summary.
file_is_accepted : (p : List ℕ) (i : Ids) (d : ℕ) (x b : List ℕ) → IsFile p i d x b → CheckResult b (Ok (summary_of p i d x))
file_is_accepted p i d x b h = record {
  found = (p, x, h, refl);
  only = λ q j e y k. let same = one_reading b p q i j d e x y h k in cc;
  fault = λ f. (λ e. cc, λ first. absurd (file_bytes_have_no_fault b f (p, i, d, x, h) first));
}

-- For a file of the grammar, the required result is the summary of its content.
content_summary_is_check_result : (b : List ℕ) (c : Content) (extra : List ℕ) → IsFile c.payload c.ids c.dfu extra b →
    c.suffix ≡ 16 + length extra → CheckResult b (Ok (summary_of_content b c))
content_summary_is_check_result b c extra h long =
    subst (λ (s : Summary). CheckResult b (Ok s))
    (sym (parts_determine_summaries (length c.payload) (length c.payload) c.suffix (16 + length extra) c.dfu
    (little_number 4 (drop (length b - 4) b)) (register (before_crc c.payload c.ids c.dfu extra)) c.ids refl long
    (file_ends_in_its_crc c.payload c.ids c.dfu extra b h))) (file_is_accepted c.payload c.ids c.dfu extra b h)

-- For bytes with a first fault, the required result is this fault.
first_fault_is_check_result : (b : List ℕ) (f : SuffixFault) → First f b → CheckResult b (Err f)
first_fault_is_check_result b f first = record {
  found = tt;
  only = λ p i d x h. absurd (file_bytes_have_no_fault b f (p, i, d, x, h) first);
  fault = λ g. (
    λ e. let same : f ≡ g = cc in subst (λ (z : SuffixFault). First z b) same first,
    λ other. let same : Some f
        ≡ Some g = sym first ∙ other in cc,
  );
}

-- For bytes over the limit, the required result is TooLarge.
pub large_file_is_too_large : (b : List ℕ) → 16777216 < length b → CheckResult b (Err TooLarge)
large_file_is_too_large b h =
    let yes : ltb 16777216 (length b) ≡ true = grind (arith, nat_tests) in
    first_fault_is_check_result b TooLarge (ap (λ (t : Bool).
    cond t (Some TooLarge) (find (has_fault b) (TooShort ∷ NoSignature ∷ BadLength ∷ DfuSe ∷ BadCrc ∷ []))) yes)

-- The required result of a check is the summary of the content that reading returns, or the fault of reading.
reading_summary_is_check_result : (b : List ℕ) (r : Result Content SuffixFault) → AreBytes b → read_content b ≡ r →
    CheckResult b (summary_result_of_reading b r)
reading_summary_is_check_result b (Ok c) f e = let (extra, is_file, long) =
    read_content_is_of_file b c f e in content_summary_is_check_result b c
    extra is_file long
reading_summary_is_check_result b (Err x) f e = first_fault_is_check_result b x ((fault_of_reading_is_first b x).0 e)

-- For bytes within the limit, the result from their window, count and register is the required result of a check.
pub window_check_is_check_result : (s : List ℕ) → AreBytes s → length s ≤ 16777216 →
    CheckResult s (checked_by_register (window_of s) (length s) (register s))
window_check_is_check_result s f small = subst (λ (r : Result Summary SuffixFault). CheckResult s r) (sym (window_check_is_reading s f
    small))
    (reading_summary_is_check_result s (read_content s) f refl)

-- If `P` holds, `UnlessReadFault r P` holds for any result `r`.
pub fact_holds_unless_read : (r : Result Summary SuffixFault) (P : Type 0) → P → UnlessReadFault r P
fact_holds_unless_read (Ok s) P p = p
fact_holds_unless_read (Err TooShort) P p = p
fact_holds_unless_read (Err NoSignature) P p = p
fact_holds_unless_read (Err BadLength) P p = p
fact_holds_unless_read (Err DfuSe) P p = p
fact_holds_unless_read (Err BadCrc) P p = p
fact_holds_unless_read (Err AlreadySuffixed) P p = p
fact_holds_unless_read (Err TooLarge) P p = p
fact_holds_unless_read (Err NoMemory) P p = p
fact_holds_unless_read (Err Read) P p = tt
fact_holds_unless_read (Err Write) P p = p
