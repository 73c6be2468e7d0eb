-- Result of checking a file.
use Rattle.std.specs.Prelude.{◌≡◌, ◌↔◌, ℕ, ◌+◌, ◌-◌, ◌≤◌, List, length, take, drop, slice_index, IfOk, Result, Ok, Err, ⊤}
use Rattle.byteorder.specs.Endian.{little_number}
use Rattle.dfu_suffix.specs.Register.{register}
use Rattle.dfu_suffix.specs.Grammar.{IsFile, First, before_crc, tail_of}
use Rattle.dfu_suffix.specs.declared.summary.Summary.{Summary}
use Rattle.dfu_suffix.specs.declared.findings.Findings.{Findings}
use Rattle.dfu_wire.specs.declared.ids.Ids.{Ids}
use Rattle.dfu_suffix.specs.declared.fault.SuffixFault.{SuffixFault}
use Rattle.dfu_suffix.specs.declared.fault.SuffixFault.TheVariants.{Read}

-- Summary of a file with this payload, these fields and these extra bytes.
abbrev pub summary_of : List ℕ → Ids → ℕ → List ℕ → Summary
summary_of payload ids dfu extra = record {
  payload = length payload;
  suffix = 16 + length extra;
  ids = ids;
  dfu = dfu;
  crc = register (before_crc payload ids dfu extra);
}

-- An accepted file follows the grammar, and the result is its summary. Every file that follows the grammar is accepted. For any other file,
-- the result is its first fault.
pub record CheckResult (bytes : List ℕ) (answer : Result Summary SuffixFault) : Type 0 where
  pub found : IfOk answer (λ s. (payload : List ℕ) × (extra : List ℕ) × IsFile payload s.ids s.dfu extra bytes
      × (s ≡ summary_of payload s.ids s.dfu extra))
  pub only : (payload : List ℕ) (ids : Ids) (dfu : ℕ) (extra : List ℕ) → IsFile payload ids dfu extra bytes →
      answer ≡ Ok (summary_of payload ids dfu extra)
  pub fault : (fault : SuffixFault) → (answer ≡ Err fault) ↔ First fault bytes

-- `P` holds, unless the result is Read.
abbrev pub UnlessReadFault : {T : Type 0} → Result T SuffixFault → Type 0 → Type 0
UnlessReadFault (Err Read) P = ⊤
UnlessReadFault r P = P

-- The findings are those of the bytes: their count, bLength, dwCRC, and the register over the bytes before dwCRC.
pub record FindingsOf (bytes : List ℕ) (findings : Findings) : Type 0 where
  pub count : findings.count ≡ length bytes
  pub suffix : findings.suffix ≡ slice_index (tail_of bytes) 11
  pub crc : findings.crc ≡ little_number 4 (drop (length bytes - 4) bytes)
  pub register : findings.register ≡ register (take (length bytes - 4) bytes)

-- If there are 16 to 16,777,216 bytes, the findings are those of these bytes.
abbrev pub FindingsOfFile : List ℕ → Findings → Type 0
FindingsOfFile bytes findings = 16 ≤ length bytes → length bytes ≤ 16777216 → FindingsOf bytes findings
