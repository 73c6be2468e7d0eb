-- Invariant of the loop over `read`, which checks the bytes of a reader.
use Rattle.std.proofs.Common.{◌≡◌, ℕ, ◌+◌, ◌^◌, ◌<◌, ◌≤◌, List, ◌++◌, length, drop, get_or, bit_xor, Option, Some, IfSome, Result, Err, sym, ap, ◌∙◌, subst, arith, length-append}
use Rattle.std.proofs.KnownBytes.{Consumes-trans}
use Rattle.std.specs.Io.KnownBytes.{Consumes, IsAtEnd}
use Rattle.byteorder.specs.Endian.{little_number}
use Rattle.dfu_suffix.specs.Register.{register, shifts}
use Rattle.dfu_suffix.specs.inside.TailChecks.{checked_by_register}
use Rattle.dfu_suffix.specs.Checking.{CheckResult, FindingsOfFile, UnlessReadFault}
use Rattle.dfu_suffix.specs.Laws.{AreBytes}
use Rattle.dfu_suffix.specs.declared.summary.Summary.{Summary}
use Rattle.dfu_suffix.specs.declared.findings.Findings.{Findings}
use Rattle.dfu_suffix.specs.declared.fault.SuffixFault.{SuffixFault}
use Rattle.dfu_suffix.specs.declared.fault.SuffixFault.TheVariants.{TooLarge}
use Rattle.dfu_suffix.proofs.Bytes.{AreBytes-append}
use Rattle.dfu_suffix.proofs.CheckLaws.{window_check_is_check_result, large_file_is_too_large, fact_holds_unless_read}
use Rattle.dfu_suffix.proofs.ReadLaws.{each_value_gives_if_some, consumed_at_end_is_all, consumed_at_most_all}
use Rattle.dfu_suffix.proofs.Windows.{window_of, window_slides_over_piece, long_window_is_tail, tail_ends_in_last_four}
use Rattle.dfu_suffix.proofs.LawProofs.{register_before_four_is_unique}

-- The reader returned the bytes `seen`, at least one in each of `turn` reads, and they are within the limit of a file. The register, the
-- count and the window are those of `seen`.
pub record IsCheckStateOf (old new : Option (List ℕ)) (turn crc count : ℕ) (window seen : List ℕ) : Type 0 where
  pub given : Consumes old new seen
  pub bytes : AreBytes seen
  pub crc_is : crc ≡ register seen
  pub count_is : count ≡ length seen
  pub window_is_of_seen : window ≡ window_of seen
  pub small : length seen ≤ 16777216
  pub turns : turn ≤ length seen

-- The register, the count and the window are those of the bytes that the reader returned so far.
abbrev pub IsCheckState : Option (List ℕ) → Option (List ℕ) → ℕ → ℕ → ℕ → List ℕ → Type 0
IsCheckState old new turn crc count window = (seen : List ℕ) × IsCheckStateOf old new turn crc count window seen

-- After another piece that isn't empty and stays within the limit, the register, the count and the window are those of the bytes so far and
-- this piece.
pub further_piece_keeps_check_state : (old mid new : Option (List ℕ)) (turn crc count crc' count' : ℕ) (window window' more : List ℕ) →
    IsCheckState old mid turn crc count window → Consumes mid new more → AreBytes more → 0 < length more →
    ((before : List ℕ) → crc ≡ register before → crc' ≡ register (before ++ more)) →
    count' ≡ count + length more → window' ≡ drop (length more) (window ++ more) → count + length more ≤ 16777216 →
    IsCheckState old new (turn + 1) crc' count' window'
further_piece_keeps_check_state old mid new turn crc count crc' count' window window' more
    (seen, k) given bytes some crc_is count_is window_is_of_seen
    small = (
      seen ++ more,
      record {
        given = Consumes-trans old mid new seen more k.given given;
        bytes = AreBytes-append seen more k.bytes bytes;
        crc_is = crc_is seen k.crc_is;
        count_is = count_is ∙ (ap (λ (n : ℕ). n + length more) k.count_is ∙ sym (length-append seen more));
        window_is_of_seen = window_is_of_seen ∙ (ap (λ (w : List ℕ). drop (length more) (w ++ more)) k.window_is_of_seen
            ∙ window_slides_over_piece seen more);
        small = omega (arith, length-append seen more, k.count_is);
        turns = omega (arith, length-append seen more, k.turns);
      },
    )

-- At the end of the reader, the result from the register, the count and the window is the result of checking all bytes, unless it is
-- `Read`.
pub end_check_is_check_of_all : (old new : Option (List ℕ)) (turn crc count value : ℕ) (window : List ℕ) (r : Result Summary SuffixFault) →
    IsCheckState old new turn crc count window → IsAtEnd new → r ≡ checked_by_register window count value → value ≡ crc →
    IfSome old (λ all. UnlessReadFault r (CheckResult all r))
end_check_is_check_of_all old new turn crc count value window r (seen, k) e j v =
    let same : checked_by_register window count value ≡ checked_by_register (window_of seen) (length seen) (register seen) =
    ap (λ (w : List ℕ). checked_by_register w count value) k.window_is_of_seen
    ∙ (ap (λ (n : ℕ). checked_by_register (window_of seen) n value) k.count_is
    ∙ ap (checked_by_register (window_of seen) (length seen)) (v ∙ k.crc_is)) in
    let checks : CheckResult seen r = subst (λ (a : Result Summary SuffixFault). CheckResult seen a) (sym (j ∙ same))
    (window_check_is_check_result seen k.bytes k.small) in
    each_value_gives_if_some old (λ all. UnlessReadFault r (CheckResult all r)) (λ all o. fact_holds_unless_read r (CheckResult all r)
    (subst (λ (xs : List ℕ). CheckResult xs r) (consumed_at_end_is_all old new seen all k.given e o) checks))

-- At the end of the reader, the findings from the window, the count and the register are those of all bytes, if there are 16 or more.
pub end_findings_are_of_all : (old new : Option (List ℕ)) (turn crc count value : ℕ) (window : List ℕ) (r : Result Summary SuffixFault)
    (f : Findings) → IsCheckState old new turn crc count window → IsAtEnd new → f.count ≡ count → f.suffix ≡ get_or window 11 0 →
    f.crc ≡ little_number 4 (drop 12 window) → f.register < 2 ^ 32 → shifts 32 (bit_xor f.register f.crc) ≡ value → value ≡ crc →
    IfSome old (λ all. UnlessReadFault r (FindingsOfFile all f))
end_findings_are_of_all old new turn crc count value window r f (seen, k) e many said written fits before v =
    each_value_gives_if_some old (λ all. UnlessReadFault r (FindingsOfFile all f)) (λ all o. fact_holds_unless_read r (FindingsOfFile all f)
    (subst (λ (xs : List ℕ). FindingsOfFile xs f) (consumed_at_end_is_all old new seen all k.given e o)
    (λ long small. let tail = k.window_is_of_seen ∙ long_window_is_tail seen long in
    let number = written ∙ ap (little_number 4) (ap (drop 12) tail ∙ tail_ends_in_last_four seen long) in
    record {
      count = many ∙ k.count_is;
      suffix = said ∙ ap (λ (w : List ℕ). get_or w 11 0) tail;
      crc = number;
      register = register_before_four_is_unique seen f.register f.crc k.bytes (omega arith) fits number (before ∙ (v ∙ k.crc_is));
    })))

-- If the bytes so far and another piece exceed the limit, all bytes of the reader exceed it.
all_exceed_limit_by_piece : (old mid new : Option (List ℕ)) (turn crc count : ℕ) (window more all : List ℕ) →
    IsCheckState old mid turn crc count window → Consumes mid new more → 16777216 < count + length more → old ≡ Some all →
    16777216 < length all
all_exceed_limit_by_piece old mid new turn crc count window more all (seen, k) given over o =
    omega (
      arith,
      k.count_is,
      length-append seen more,
      consumed_at_most_all old new (seen ++ more) all (Consumes-trans old mid new seen more k.given given) o,
    )

-- If another piece exceeds the limit, the result of checking all bytes is `TooLarge`.
pub piece_over_limit_is_too_large : (old mid new : Option (List ℕ)) (turn crc count : ℕ) (window more : List ℕ) →
    IsCheckState old mid turn crc count window → Consumes mid new more → 16777216 < count + length more →
    IfSome old (λ all. UnlessReadFault {T = Summary} (Err TooLarge) (CheckResult all (Err TooLarge)))
piece_over_limit_is_too_large old mid new turn crc count window more s given over =
    each_value_gives_if_some old (λ all. UnlessReadFault {T = Summary} (Err TooLarge) (CheckResult all (Err TooLarge))) (λ all o.
    large_file_is_too_large all (all_exceed_limit_by_piece old mid new turn crc count window more all s given over o))

-- If another piece exceeds the limit, the contract doesn't restrict the findings.
pub no_findings_over_limit : (old mid new : Option (List ℕ)) (turn crc count : ℕ) (window more : List ℕ) (f : Findings) →
    IsCheckState old mid turn crc count window → Consumes mid new more → 16777216 < count + length more →
    IfSome old (λ all. UnlessReadFault {T = Summary} (Err TooLarge) (FindingsOfFile all f))
no_findings_over_limit old mid new turn crc count window more f s given over =
    each_value_gives_if_some old (λ all. UnlessReadFault {T = Summary} (Err TooLarge) (FindingsOfFile all f)) (λ all o long small.
    absurd (omega (arith, all_exceed_limit_by_piece old mid new turn crc count window more all s given over o)))
