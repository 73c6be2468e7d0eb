-- Refusals of an upload, and the bytes that it keeps.
use Rattle.std.specs.Prelude.{◌≡◌, ◌⊎◌, ℕ, ◌==◌, not, Bool, false, List, [], ◌∷◌, length, find, Option}
use Rattle.dfu_wire.specs.declared.functionals.Functional.{Functional}
use Rattle.dfu_host.specs.declared.fault.HostFault.{HostFault}
use Rattle.dfu_host.specs.declared.fault.HostFault.TheVariants as fault
use Rattle.dfu_host.specs.declared.seen.Seen.{Seen}
use Rattle.dfu_host.specs.declared.seen.Seen.TheVariants as seen
use Rattle.dfu_host.specs.Phases.{Phase, FetchGoal, Part, NoRoom}
use Rattle.dfu_host.specs.PhaseClasses.{Common, Sending, Closing, Manifesting, Fetching, Comparing, Ending, EndingUpload, Ended, EndedUpload, class_of}
use Rattle.dfu_host.specs.Wire.{NeedsRoom}
use Rattle.dfu_host.specs.Host.{HostState, after}

-- True if an upload is refused with this fault. An upload has no payload and no file, and downloads nothing.
abbrev pub refuses_upload : Functional → HostFault → Bool
refuses_upload functional fault.EmptyPayload = false
refuses_upload functional fault.WrongTarget = false
refuses_upload functional fault.CannotDownload = false
refuses_upload functional fault.CannotUpload = not functional.can_upload
refuses_upload functional fault.BadDescriptor = functional.transfer == 0

-- Faults for which an upload is refused, in the order in which they are checked.
abbrev pub upload_faults : List HostFault
upload_faults = fault.CannotUpload ∷ fault.BadDescriptor ∷ []

-- The first fault for which an upload is refused; None if there is none.
abbrev pub first_upload_fault : Functional → Option HostFault
first_upload_fault functional = find (refuses_upload functional) upload_faults

-- A host takes the bytes of part k as the part, or as NoRoom if its goal is an upload and the part needs memory. Other results are not
-- constrained here.
abbrev pub PartResult : HostState → (k : ℕ) → Seen → HostState → Type 0
PartResult h k (seen.Bytes bytes) h' =
    (h' ≡ after h (Part bytes.now)) ⊎ ((h' ≡ after h NoRoom) × (h.task.goal ≡ FetchGoal) × NeedsRoom h.task.transfer k (length bytes.now))
PartResult h k seen.Ack h' = Unit {0}
PartResult h k seen.Stall h' = Unit {0}
PartResult h k seen.Nothing h' = Unit {0}
PartResult h k seen.Waited h' = Unit {0}
PartResult h k seen.WasReset h' = Unit {0}
PartResult h k seen.Restarted h' = Unit {0}
PartResult h k seen.Left h' = Unit {0}

-- In a phase that fetches part k, a host takes a result as `PartResult` requires. Other phases are not constrained here.
abbrev pub FetchResult : HostState → Phase → Seen → HostState → Type 0
FetchResult h phase seen h' = elim (class_of phase) [
  | Common ↦ Unit {0}
  | Sending n ↦ Unit {0}
  | Closing ↦ Unit {0}
  | Manifesting ↦ Unit {0}
  | Fetching k kept ↦ PartResult h k seen h'
  | Comparing k ↦ Unit {0}
  | Ending report ↦ Unit {0}
  | EndingUpload kept ↦ Unit {0}
  | Ended report ↦ Unit {0}
  | EndedUpload kept ↦ Unit {0}
]

-- Bytes that an upload keeps in a phase: all parts since the fetching last began. A host that returns to Find keeps none.
abbrev pub kept_bytes_in_phase : Phase → List ℕ
kept_bytes_in_phase phase = elim (class_of phase) [
  | Common ↦ []
  | Sending n ↦ []
  | Closing ↦ []
  | Manifesting ↦ []
  | Fetching k kept ↦ kept
  | Comparing k ↦ []
  | Ending report ↦ []
  | EndingUpload kept ↦ kept
  | Ended report ↦ []
  | EndedUpload kept ↦ kept
]
