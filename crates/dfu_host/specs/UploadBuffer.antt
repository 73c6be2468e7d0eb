-- Bytes of an upload's parts that a session's caller keeps in memory.
use Rattle.std.specs.Prelude.{◌≡◌, ℕ, ◌<◌, Bool, true, false, IsTrue, List, ◌++◌, length}
use Rattle.dfu_host.specs.declared.phase.Phase.{Phase}
use Rattle.dfu_host.specs.declared.phase.Phase.TheVariants as phase
use Rattle.dfu_host.specs.declared.seen.Seen.{Seen}
use Rattle.dfu_host.specs.declared.seen.Seen.TheVariants as seen
use Rattle.dfu_host.specs.InParts.{bytes_kept_for_part}
use Rattle.dfu_host.specs.Wire.{is_part_to_be_kept, NeedsRoom}

-- Part k was appended to the bytes kept before it, or was refused. A part of 0 bytes can't be refused.
abbrev pub PartAppendedOrRefused : (k : ℕ) → (part : List ℕ) → (refused : Bool) → (memory memory' : List ℕ) → Type 0
PartAppendedOrRefused k part false memory memory' = memory' ≡ bytes_kept_for_part k memory ++ part
PartAppendedOrRefused k part true memory memory' = 0 < length part

-- If part k is to be kept and was not refused, it was appended to the kept bytes. Only a part that needs memory can be refused.
abbrev pub AnswerKeptOrRefused : (t k : ℕ) → (part : List ℕ) → (refused : Bool) → (memory memory' : List ℕ) → Type 0
AnswerKeptOrRefused t k part false memory memory' = IsTrue (is_part_to_be_kept t k (length part))
    → memory' ≡ bytes_kept_for_part k memory ++ part
AnswerKeptOrRefused t k part true memory memory' = NeedsRoom t k (length part)

-- The bytes of an answer change the memory only in a phase that fetches a part.
abbrev pub MemoryAfterBytes : (t : ℕ) → Phase → (bytes : List ℕ) → (refused : Bool) → (memory memory' : List ℕ) → Type 0
MemoryAfterBytes t (phase.Fetch k) bytes refused memory memory' = AnswerKeptOrRefused t k bytes refused memory memory'
MemoryAfterBytes t other bytes refused memory memory' = memory' ≡ memory

-- A result changes the memory only if it is a part that the host requested in this phase.
abbrev pub MemoryAfterSeen : (t : ℕ) → Phase → Seen → (refused : Bool) → (memory memory' : List ℕ) → Type 0
MemoryAfterSeen t phase (seen.Bytes bytes) refused memory memory' = MemoryAfterBytes t phase bytes.now refused memory memory'
MemoryAfterSeen t phase seen.Ack refused memory memory' = memory' ≡ memory
MemoryAfterSeen t phase seen.Stall refused memory memory' = memory' ≡ memory
MemoryAfterSeen t phase seen.Nothing refused memory memory' = memory' ≡ memory
MemoryAfterSeen t phase seen.Waited refused memory memory' = memory' ≡ memory
MemoryAfterSeen t phase seen.WasReset refused memory memory' = memory' ≡ memory
MemoryAfterSeen t phase seen.Restarted refused memory memory' = memory' ≡ memory
MemoryAfterSeen t phase seen.Left refused memory memory' = memory' ≡ memory
