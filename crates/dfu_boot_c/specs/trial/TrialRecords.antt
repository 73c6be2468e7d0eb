-- Records that describe a trial to a program in C.
use Rattle.std.specs.Prelude.{◌≡◌, ℕ, ℤ, pos, ◌-◌, ◌+◌, ◌==◌, Bool, nat_le, ◌&&◌, List, length, replicate, slice_range, Option, Some, None, if◌then◌else◌}
use Rattle.dfu_slots.specs.Medium.{MediumState}
use Rattle.dfu_slots.specs.Layout.{header_length}
use Rattle.dfu_slots.specs.Image.{slot_of}
use Rattle.dfu_boot.specs.trial.Marks.{is_marked}
use Rattle.dfu_boot.specs.trial.Calls.{image_place}
use Rattle.dfu_boot.specs.declared.trial.operation.Operation.{Operation}
use Rattle.dfu_boot.specs.declared.trial.operation.Operation.TheVariants.{Mark, Close}
use Rattle.dfu_boot.specs.declared.trial.standing.Standing.{Standing}
use Rattle.dfu_boot.specs.declared.trial.standing.Standing.TheVariants.{Settled, OnTrial}
use Rattle.dfu_boot.specs.declared.trial.starting.Starting.{Starting}
use Rattle.dfu_core.specs.declared.records.DfuAsk.{DfuAsk}
use Rattle.dfu_core.specs.declared.records.DfuPlace.{DfuPlace}
use Rattle.dfu_core.specs.Numbers.{WRITE_PENDING_NUMBER}
use Rattle.dfu_boot_c.specs.declared.trial.told.DfuStanding.{DfuStanding}
use Rattle.dfu_boot_c.specs.declared.trial.told.DfuStarting.{DfuStarting}

-- Offset of the image in a slot, and its length by the slot's header.
abbrev pub image_in : MediumState → ℕ → DfuPlace
image_in m slot = record { at = image_place m.grain slot; length = header_length (slot_of m slot) }

-- Record of a standing for a program in C. If no image is on trial, `base` is the active image, and `left` is 0.
abbrev pub standing_told : MediumState → ℕ → Standing → DfuStanding
standing_told m tries (Settled s) = record {
  active = image_in m s.slot;
  base = image_in m s.slot;
  on_trial = 0;
  left = 0;
  is_confirmed = if s.is_confirmed then 1 else 0;
}
standing_told m tries (OnTrial t) = record {
  active = image_in m t.slot;
  base = image_in m t.base;
  on_trial = 1;
  left = tries - t.starts;
  is_confirmed = 0;
}

-- Record of a start: the image to run, and the image to run instead if the mark of this start doesn't read as set.
abbrev pub starting_told : MediumState → Starting → DfuStarting
starting_told m s = record { run = image_in m s.slot; otherwise = image_in m s.otherwise }

-- The operation is written into `after`, and the call returns DFU_WRITE_PENDING: zeros are programmed, or a sector of this size is erased.
-- Without an operation the call returns 0, and `after` equals `before`.
abbrev pub TrialOpInAsk : ℕ → Option Operation → ℤ → DfuAsk → DfuAsk → Type 0
TrialOpInAsk sector None result before after = (result ≡ pos 0) × (after ≡ before)
TrialOpInAsk sector (Some (Mark at len)) result before after =
    (result ≡ WRITE_PENDING_NUMBER) × (after ≡ record { kind = 2; at = at; length = len; bytes = replicate 256 0 })
TrialOpInAsk sector (Some (Close at)) result before after =
    (result ≡ WRITE_PENDING_NUMBER) × (after ≡ record { kind = 1; at = at; length = sector; bytes = before.bytes })

-- True if the mark in an operation reads as set: its range is within the flash, and one of its bytes is not FFh.
abbrev pub mark_reads_as_set : List ℕ → DfuAsk → Bool
mark_reads_as_set flash ask = nat_le (ask.at + ask.length) (length flash) && is_marked (slice_range flash ask.at (ask.at + ask.length))

-- Image that runs after an operation was carried out or failed: `otherwise` if the operation programs a mark that does not read as set,
-- else `run`.
abbrev pub run_place_of_operation : List ℕ → DfuAsk → DfuStarting → DfuPlace
run_place_of_operation flash ask s = if ask.kind == 2 then (if mark_reads_as_set flash ask then s.run else s.otherwise) else s.run
