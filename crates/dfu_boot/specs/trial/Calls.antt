-- Results of the calls of a trial.
use Rattle.std.specs.Prelude.{◌≡◌, ℕ, ◌+◌, ◌*◌, ◌≤◌, ◌<◌, ◌==◌, nat_lt, ◌%◌, Option, Some, None, length, slice_range, if◌then◌else◌}
use Rattle.dfu_slots.specs.Units.{Grain, gate_room, IsMultiple}
use Rattle.dfu_slots.specs.Medium.{MediumState, IsWritable}
use Rattle.dfu_slots.specs.Image.{gate_of, HasImage, active_at}
use Rattle.dfu_boot.specs.trial.Marks.{mark_size, mark_at, is_marked, is_mark_set, recorded_starts}
use Rattle.dfu_boot.specs.trial.Trial.{IsOnTrial, HasTrial}
use Rattle.dfu_boot.specs.declared.trial.tries.TriesFault.{TriesFault}
use Rattle.dfu_boot.specs.declared.trial.tries.TriesFault.TheVariants.{NoSectors, TooFew, TooMany}
use Rattle.dfu_boot.specs.declared.trial.operation.Operation.{Operation}
use Rattle.dfu_boot.specs.declared.trial.operation.Operation.TheVariants.{Mark, Close}
use Rattle.dfu_boot.specs.declared.trial.standing.Settled.{Settled}
use Rattle.dfu_boot.specs.declared.trial.standing.Standing.{Standing}
use Rattle.dfu_boot.specs.declared.trial.standing.Standing.TheVariants as standing
use Rattle.dfu_boot.specs.declared.trial.starting.Starting.{Starting}
use Rattle.dfu_boot.specs.declared.trial.confirming.Confirmation.{Confirmation}
use Rattle.dfu_boot.specs.declared.trial.confirming.Confirmation.TheVariants as confirm

-- First reason for which this number of tries is refused.
abbrev pub IsTriesFault : TriesFault → Grain → ℕ → Type 0
IsTriesFault NoSectors grain tries = grain.sector ≡ 0
IsTriesFault TooFew grain tries = (0 < grain.sector) × (tries < 2)
IsTriesFault TooMany grain tries = (0 < grain.sector) × (2 ≤ tries) × (grain.sector < (tries + 2) * mark_size grain)

-- No image is on trial. `s` contains the slot of the active image, and a flag that is true if this image is confirmed.
pub record IsSettledSlot (m : MediumState) (s : Settled) : Type 0 where
  pub has : HasImage m
  pub slot : s.slot ≡ active_at (gate_of m) m.bytes
  pub none : ¬ HasTrial m
  pub confirmed : s.is_confirmed ≡ is_mark_set m s.slot 0

-- The images of a medium have this standing, with this number of tries.
abbrev pub IsStanding : MediumState → ℕ → Standing → Type 0
IsStanding m tries (standing.Settled s) = IsSettledSlot m s
IsStanding m tries (standing.OnTrial t) = IsOnTrial m t.slot t.base × (t.starts ≡ recorded_starts m tries t.slot)

-- Operation that sets mark i of a slot.
abbrev pub mark_op : Grain → ℕ → ℕ → Operation
mark_op grain at i = Mark (mark_at grain at i) (mark_size grain)

-- Result of `start`. If no image is on trial, the active image runs, without an operation. On trial, the mark of the next start is set
-- first, and if it does not read as set, the confirmed image runs. Without a try left, the trial ends, and the confirmed image runs.
abbrev pub trial_start : Grain → ℕ → Standing → Starting
trial_start grain tries (standing.Settled s) = record { operation = None; slot = s.slot; otherwise = s.slot }
trial_start grain tries (standing.OnTrial t) =
    if nat_lt t.starts tries
    then record { operation = Some (mark_op grain t.slot (t.starts + 1)); slot = t.slot; otherwise = t.base }
    else record { operation = Some (Close t.slot); slot = t.base; otherwise = t.base }

-- Slot that runs after the operation of a start, for any outcome of the operation.
abbrev pub runs_in : MediumState → Starting → Option Operation → ℕ
runs_in m s (Some (Mark at len)) = if is_marked (slice_range m.bytes at (at + len)) then s.slot else s.otherwise
runs_in m s (Some (Close at)) = s.slot
runs_in m s None = s.slot

-- Offset at which the image of a slot begins.
abbrev pub image_place : Grain → ℕ → ℕ
image_place grain slot = slot + 2 * gate_room grain

-- Result of `confirm` for the image that begins at an offset. If no image is on trial, the active image is confirmed already or by its mark
-- 0. On trial, mark 0 confirms the image on trial, and the other image is confirmed already. No image runs at any other offset.
abbrev pub trial_confirmation : Grain → Standing → ℕ → Confirmation
trial_confirmation grain (standing.Settled s) at =
    if at == image_place grain s.slot
    then (if s.is_confirmed then confirm.Confirmed else confirm.By (mark_op grain s.slot 0))
    else confirm.Elsewhere
trial_confirmation grain (standing.OnTrial t) at =
    if at == image_place grain t.slot
    then confirm.By (mark_op grain t.slot 0)
    else (if at == image_place grain t.base then confirm.Confirmed else confirm.Elsewhere)

-- Operation that ends a trial by closing the gate of the slot on trial. Without a trial there is none.
abbrev pub end_of_trial : Standing → Option Operation
end_of_trial (standing.Settled s) = None
end_of_trial (standing.OnTrial t) = Some (Close t.slot)

-- Operation that must come before an upload: if no try is left, the end of the trial, as at the next start. Otherwise there is none.
abbrev pub upload_operation : ℕ → Standing → Option Operation
upload_operation tries (standing.Settled s) = None
upload_operation tries (standing.OnTrial t) = if nat_lt t.starts tries then None else Some (Close t.slot)

-- Slot of the active image, which an upload reads.
abbrev pub upload_slot : Standing → ℕ
upload_slot (standing.Settled s) = s.slot
upload_slot (standing.OnTrial t) = t.slot

-- A medium accepts an operation. The range of the operation lies in the medium. The range of a mark consists of whole write units, and is
-- blank. An erase begins at a sector.
abbrev pub MediumAccepts : MediumState → Operation → Type 0
MediumAccepts m (Mark at len) = (at + len ≤ length m.bytes) × IsMultiple m.grain.unit at × IsMultiple m.grain.unit len × IsWritable m at len
MediumAccepts m (Close at) = (at + m.grain.sector ≤ length m.bytes) × (at % m.grain.sector ≡ 0)

-- The range of a mark lies within the medium, and has at most 256 bytes. An erase satisfies this without a condition.
abbrev pub MarkIsWithin : MediumState → Operation → Type 0
MarkIsWithin m (Mark at len) = (at + len ≤ length m.bytes) × (len ≤ 256)
MarkIsWithin m (Close at) = Unit {0}

-- A medium accepts the operation of a confirmation, if there is one.
abbrev pub ConfirmationAccepted : MediumState → Confirmation → Type 0
ConfirmationAccepted m (confirm.By operation) = MediumAccepts m operation × MarkIsWithin m operation
ConfirmationAccepted m confirm.Confirmed = Unit {0}
ConfirmationAccepted m confirm.Elsewhere = Unit {0}
