-- Parts of an upload that its caller keeps in a room of fixed size.
use Rattle.std.specs.Prelude.{◌≡◌, ◌↔◌, ℕ, ◌+◌, nat_lt, ◌&&◌, Bool, if◌then◌else◌, IsTrue, List, length}
use Rattle.std.specs.Borrow.{Bor}
use Rattle.dfu_host.specs.declared.report.Report.TheVariants as report
use Rattle.dfu_host.specs.declared.seen.Seen.{Seen}
use Rattle.dfu_host.specs.declared.seen.Seen.TheVariants as seen
use Rattle.dfu_host.specs.Phases.{Phase, Fetch, Over, Heard, Part, NoRoom}
use Rattle.dfu_host.specs.PhaseClasses.{Common, Sending, Closing, Manifesting, Fetching, Comparing, Ending, EndingUpload, Ended, EndedUpload, class_of}
use Rattle.dfu_host.specs.Wire.{is_part_to_be_kept}
use Rattle.dfu_host.specs.Host.{HostState, after}

-- True if part k overflows the room: the part must be kept, but the kept bytes and the part have more bytes than the room.
abbrev pub part_overflows : (room t k : ℕ) → (kept part : List ℕ) → Bool
part_overflows room t k kept part = is_part_to_be_kept t k (length part) && nat_lt room (length kept + length part)

-- Meaning of part k: NoRoom if the part overflows the room, else the part.
abbrev pub heard_in : (room t k : ℕ) → (kept part : List ℕ) → Heard
heard_in room t k kept part = if part_overflows room t k kept part then NoRoom else Part part

-- A host takes the bytes of part k as NoRoom if the part overflows the room, else as the part. Other results are not constrained here.
abbrev pub PartResultIn : (room : ℕ) → HostState → (k : ℕ) → (kept : List ℕ) → Seen → HostState → Type 0
PartResultIn room h k kept (seen.Bytes bytes) h' = h' ≡ after h (heard_in room h.task.transfer k kept bytes.now)
PartResultIn room h k kept seen.Ack h' = Unit {0}
PartResultIn room h k kept seen.Stall h' = Unit {0}
PartResultIn room h k kept seen.Nothing h' = Unit {0}
PartResultIn room h k kept seen.Waited h' = Unit {0}
PartResultIn room h k kept seen.WasReset h' = Unit {0}
PartResultIn room h k kept seen.Restarted h' = Unit {0}
PartResultIn room h k kept seen.Left h' = Unit {0}

-- In a phase that fetches part k, a host takes a result as `PartResultIn` requires for a room of `room` bytes. Other phases are not
-- constrained here.
abbrev pub FetchResultIn : (room : ℕ) → HostState → Phase → Seen → HostState → Type 0
FetchResultIn room h phase seen h' = elim (class_of phase) [
  | Common ↦ Unit {0}
  | Sending n ↦ Unit {0}
  | Closing ↦ Unit {0}
  | Manifesting ↦ Unit {0}
  | Fetching k kept ↦ PartResultIn room h k kept seen h'
  | Comparing k ↦ Unit {0}
  | Ending report ↦ Unit {0}
  | EndingUpload kept ↦ Unit {0}
  | Ended report ↦ Unit {0}
  | EndedUpload kept ↦ Unit {0}
]

-- An upload that receives a part ends with NoMemory exactly if that part overflows the room.
abbrev pub NoMemoryExactlyOnOverflow : Type 0
NoMemoryExactlyOnOverflow = (room : ℕ) (h h' : HostState) (k : ℕ) (kept : List ℕ) (bytes : Bor (List ℕ))
    → h.phase ≡ Fetch k kept → FetchResultIn room h h.phase (seen.Bytes bytes) h'
    → (h'.phase ≡ Over report.NoMemory) ↔ IsTrue (part_overflows room h.task.transfer k kept bytes.now)
