-- Images of a medium after an operation that succeeds, fails, is cut off, or is reported wrongly.
use Rattle.std.specs.Prelude.{◌≡◌, ◌⊎◌, ℕ, ◌+◌, ◌≤◌, ◌<◌, true, false, List, slice_range, replicate, Option, Some, None}
use Rattle.dfu_slots.specs.declared.fault.WriteFault.TheVariants.{Failed}
use Rattle.dfu_slots.specs.Medium.{MediumState, ChangedWithin, WroteOrLied, FailedWrite}
use Rattle.dfu_boot.specs.trial.Marks.{is_marked}
use Rattle.dfu_boot.specs.trial.Trial.{image_at}
use Rattle.dfu_boot.specs.trial.Calls.{IsSettledSlot, IsStanding, upload_operation, upload_slot}
use Rattle.dfu_boot.specs.declared.trial.operation.Operation.{Operation}
use Rattle.dfu_boot.specs.declared.trial.operation.Operation.TheVariants.{Mark, Close}
use Rattle.dfu_boot.specs.declared.trial.standing.Trial.{Trial}
use Rattle.dfu_boot.specs.declared.trial.standing.Standing.{Standing}
use Rattle.dfu_boot.specs.declared.trial.standing.Standing.TheVariants as standing
use Rattle.dfu_boot.specs.declared.trial.standing.Standing.TheVariants.{OnTrial}

-- Any outcome of an operation: its range holds any bytes, and all other bytes and the grain are unchanged.
abbrev pub OperationOutcome : MediumState → Operation → MediumState → Type 0
OperationOutcome m (Mark at len) now = ChangedWithin at (at + len) m.bytes now.bytes × (now.grain ≡ m.grain)
OperationOutcome m (Close at) now = ChangedWithin at (at + m.grain.sector) m.bytes now.bytes × (now.grain ≡ m.grain)

-- The medium reported success: the range holds the bytes of the operation, or the report is wrong.
abbrev pub OperationReportedOk : MediumState → Operation → MediumState → Type 0
OperationReportedOk m (Mark at len) now = WroteOrLied m at (replicate len 0) now
OperationReportedOk m (Close at) now = WroteOrLied m at (replicate m.grain.sector 255) now

-- The medium reported a failure, and the range may be torn.
abbrev pub OperationReportedFailed : MediumState → Operation → MediumState → Type 0
OperationReportedFailed m (Mark at len) now = FailedWrite Failed m at (replicate len 0) now
OperationReportedFailed m (Close at) now = FailedWrite Failed m at (replicate m.grain.sector 255) now

-- Both images of a trial are unchanged.
pub record ImagesSurvive (m : MediumState) (t : Trial) (now : MediumState) : Type 0 where
  pub new : image_at now t.slot ≡ image_at m t.slot
  pub base : image_at now t.base ≡ image_at m t.base

-- The trial continues unchanged, with the same images and the same number of recorded starts.
pub record TrialContinues (m : MediumState) (tries : ℕ) (t : Trial) (now : MediumState) : Type 0 where
  pub stands : IsStanding now tries (OnTrial t)
  pub images : ImagesSurvive m t now

-- At least one more start is recorded, and the trial continues.
pub record StartIsRecorded (m : MediumState) (tries : ℕ) (t : Trial) (now : MediumState) : Type 0 where
  pub starts : ℕ
  pub more : t.starts < starts
  pub most : starts ≤ tries
  pub stands : IsStanding now tries (OnTrial (record t { starts = starts }))
  pub images : ImagesSurvive m t now

-- The trial ended with a confirmation: the image that was on trial is active and confirmed.
pub record IsConfirmed (m : MediumState) (t : Trial) (now : MediumState) : Type 0 where
  pub stands : IsSettledSlot now (record { slot = t.slot; is_confirmed = true })
  pub images : ImagesSurvive m t now

-- The trial ended without a confirmation: the image that was confirmed before is active again.
pub record ConfirmedImageIsBack (m : MediumState) (t : Trial) (now : MediumState) : Type 0 where
  pub stands : IsSettledSlot now (record { slot = t.base; is_confirmed = true })
  pub image : image_at now t.base ≡ image_at m t.base

-- Outcome of the mark of a start, with a try left: the image on trial runs, and the start is recorded; or the confirmed image runs, and the
-- trial is unchanged.
abbrev pub MarkOutcome : MediumState → ℕ → Trial → MediumState → ℕ → Type 0
MarkOutcome m tries t now ran = (StartIsRecorded m tries t now × (ran ≡ t.slot)) ⊎ (TrialContinues m tries t now × (ran ≡ t.base))

-- Outcome of the operation that a call returned; without an operation nothing changed.
abbrev pub AskedResult : MediumState → Option Operation → MediumState → Type 0
AskedResult m None now = now ≡ m
AskedResult m (Some operation) now = OperationOutcome m operation now

-- Medium after a start, and slot that runs. If no image is on trial, the active image runs and nothing changed. On trial with a try left,
-- the mark decides. Without a try left, the confirmed image runs, and the trial has ended or is unchanged.
abbrev pub StartOutcome : MediumState → ℕ → Standing → MediumState → ℕ → Type 0
StartOutcome m tries (standing.Settled s) now ran = (now ≡ m) × (ran ≡ s.slot)
StartOutcome m tries (standing.OnTrial t) now ran = MarkOutcome m tries t now ran
    ⊎ ((tries ≤ t.starts) × (ran ≡ t.base) × (TrialContinues m tries t now ⊎ ConfirmedImageIsBack m t now))

-- A start was carried out on a medium, and the slot at `ran` runs.
pub record HasBooted (m : MediumState) (tries : ℕ) (now : MediumState) (ran : ℕ) : Type 0 where
  pub standing : Standing
  pub stands : IsStanding m tries standing
  pub starts : StartOutcome m tries standing now ran

-- The next start runs this image, and an upload returns it: the image is active, and if it is on trial, a try is left.
pub record RunsAtNextStart (m : MediumState) (tries : ℕ) (image : List ℕ) : Type 0 where
  pub standing : Standing
  pub stands : IsStanding m tries standing
  pub asks : upload_operation tries standing ≡ None
  pub image_is : image_at m (upload_slot standing) ≡ image

-- Outcome of the operation before an upload: the next start runs the active image, or the confirmed one if no try was left. Otherwise the
-- trial that had to end continues.
abbrev pub UploadOutcome : MediumState → ℕ → Standing → MediumState → Type 0
UploadOutcome m tries (standing.Settled s) now = RunsAtNextStart now tries (image_at m s.slot)
UploadOutcome m tries (standing.OnTrial t) now = ((t.starts < tries) × RunsAtNextStart now tries (image_at m t.slot))
    ⊎ ((tries ≤ t.starts) × (TrialContinues m tries t now ⊎ RunsAtNextStart now tries (image_at m t.base)))

-- The operation of a start was a mark, and the mark does not read as set.
abbrev pub MarkReadsUnset : MediumState → Option Operation → Type 0
MarkReadsUnset now None = ⊥
MarkReadsUnset now (Some (Mark at len)) = is_marked (slice_range now.bytes at (at + len)) ≡ false
MarkReadsUnset now (Some (Close at)) = ⊥

-- A start runs this image, or the mark of the start does not read as set and the image is the next one to run.
abbrev pub RunsOrIsNextToRun : List ℕ → ℕ → Option Operation → MediumState → ℕ → Type 0
RunsOrIsNextToRun image tries operation now ran =
    (image_at now ran ≡ image) ⊎ (MarkReadsUnset now operation × RunsAtNextStart now tries image)
