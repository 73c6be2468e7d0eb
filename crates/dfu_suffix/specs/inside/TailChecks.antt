-- Result of checking the last 16 bytes of a file, which agrees with the grammar (proofs/CheckLaws.antt).
use Rattle.std.specs.Prelude.{ℕ, ◌-◌, ◌==◌, ◌||◌, Bool, not, nat_lt, if◌then◌else◌, List, drop, slice_index, Result, Ok, Err}
use Rattle.byteorder.specs.Endian.{little_number}
use Rattle.dfu_suffix.specs.Grammar.{is_signed}
use Rattle.dfu_suffix.specs.inside.Reading.{tail_ids}
use Rattle.dfu_suffix.specs.declared.summary.Summary.{Summary}
use Rattle.dfu_suffix.specs.declared.fault.SuffixFault.{SuffixFault}
use Rattle.dfu_suffix.specs.declared.fault.SuffixFault.TheVariants.{TooShort, NoSignature, BadLength, DfuSe, BadCrc}

-- Summary of a file of `count` bytes, from its last 16.
abbrev pub summary_of_tail : List ℕ → ℕ → Summary
summary_of_tail tail count = record {
  payload = count - slice_index tail 11;
  suffix = slice_index tail 11;
  ids = tail_ids tail;
  dfu = little_number 2 (drop 6 tail);
  crc = little_number 4 (drop 12 tail);
}

-- Summary of a file of `count` bytes, from its last 16, or the first fault in them. TooLarge and BadCrc are not tested.
unfoldable pub tail_summary : List ℕ → ℕ → Result Summary SuffixFault
tail_summary tail count =
    if nat_lt count 16 then Err TooShort
    else if not (is_signed tail) then Err NoSignature
    else if nat_lt (slice_index tail 11) 16 || nat_lt count (slice_index tail 11) then Err BadLength
    else if little_number 2 (drop 6 tail) == 0x011A then Err DfuSe
    else Ok (summary_of_tail tail count)

-- The result, or BadCrc if it has no fault but dwCRC is wrong.
abbrev pub result_unless_bad_crc : {T : Type 0} → Bool → Result T SuffixFault → Result T SuffixFault
result_unless_bad_crc intact (Ok said) = if intact then Ok said else Err BadCrc
result_unless_bad_crc intact (Err fault) = Err fault

-- Result of checking a file within the limit, from its last 16 bytes, its length, and the register over all of it.
abbrev pub checked_by_register : List ℕ → ℕ → ℕ → Result Summary SuffixFault
checked_by_register tail count register = result_unless_bad_crc (register == 0) (tail_summary tail count)
