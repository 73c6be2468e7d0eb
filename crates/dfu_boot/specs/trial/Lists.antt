-- Sequences of events on a medium with a confirmed image, and its images after each event.
use Rattle.std.specs.Prelude.{◌≡◌, ◌⊎◌, ℕ, ◌+◌, ◌≤◌, ◌<◌, true, false, List, [], ◌∷◌, Option, Some, None}
use Rattle.dfu_slots.specs.Medium.{MediumState, ChangedWithin}
use Rattle.dfu_slots.specs.Layout.{slot_size, ArePlaces}
use Rattle.dfu_slots.specs.Image.{slot_of, IsNewest}
use Rattle.dfu_boot.specs.trial.Marks.{is_mark_set}
use Rattle.dfu_boot.specs.trial.Trial.{IsFilledSlot, image_at}
use Rattle.dfu_boot.specs.trial.Calls.{IsSettledSlot, IsStanding, trial_start, runs_in, trial_confirmation, end_of_trial, upload_operation}
use Rattle.dfu_boot.specs.trial.Laws.{OperationOutcome, AskedResult, RunsAtNextStart}
use Rattle.dfu_boot.specs.declared.trial.standing.Trial.{Trial}
use Rattle.dfu_boot.specs.declared.trial.standing.Settled.{Settled}
use Rattle.dfu_boot.specs.declared.trial.standing.Standing.{Standing}
use Rattle.dfu_boot.specs.declared.trial.standing.Standing.TheVariants.{OnTrial}
use Rattle.dfu_boot.specs.declared.trial.starting.Starting.{Starting}
use Rattle.dfu_boot.specs.declared.trial.confirming.Confirmation.{Confirmation}
use Rattle.dfu_boot.specs.declared.trial.confirming.Confirmation.TheVariants as confirm

-- Event on a medium. Its operation may succeed, fail, be cut off, or be reported wrongly.
pub data TrialEvent : Type 0 where
  -- A start, after which the image in the slot at offset `ran` runs. None means that the power failed before.
  Starts : (ran : Option ℕ) → TrialEvent
  -- The running image, which begins at offset `at`, confirms itself.
  Confirms : (at : ℕ) → TrialEvent
  -- The trial ends.
  Ends : TrialEvent
  -- An upload of this image. None means that the upload is stalled, because the trial that had to end continues.
  Uploads : (given : Option (List ℕ)) → TrialEvent
  -- A download of this image, complete or broken off at any time.
  Downloads : (image : List ℕ) → TrialEvent

-- An event, and the medium after it.
pub record TrialStep : Type 0 where
  pub event : TrialEvent
  pub now : MediumState

-- A start runs this slot, by the bytes of the medium after the start's operation. None means that the power failed.
abbrev pub IsSlotRunBy : Starting → MediumState → Option ℕ → Type 0
IsSlotRunBy s now None = Unit {0}
IsSlotRunBy s now (Some slot) = slot ≡ runs_in now s s.operation

-- The operation of a confirmation was carried out, with any outcome; without an operation nothing changed.
abbrev pub ConfirmationOutcome : MediumState → Confirmation → MediumState → Type 0
ConfirmationOutcome m (confirm.By operation) now = OperationOutcome m operation now
ConfirmationOutcome m confirm.Confirmed now = now ≡ m
ConfirmationOutcome m confirm.Elsewhere now = now ≡ m

-- An upload returns the image that the next start runs. None means that the upload is stalled.
abbrev pub UploadResult : MediumState → ℕ → Option (List ℕ) → Type 0
UploadResult now tries None = Unit {0}
UploadResult now tries (Some image) = RunsAtNextStart now tries image

-- Outcome of a download. If the new image is not in place, the confirmed one is still the newest. Otherwise the new one is the newest, and
-- no mark of its slot is set, because the sector of its header was erased before the header was written.
abbrev pub DownloadPlacesImageOrNot : MediumState → ℕ → (slot spare : ℕ) → List ℕ → Type 0
DownloadPlacesImageOrNot now tries slot spare image = IsNewest (slot_of now slot) (slot_of now spare)
    ⊎ (IsNewest (slot_of now spare) (slot_of now slot) × IsFilledSlot (slot_of now spare) × (image_at now spare ≡ image)
    × ((i : ℕ) → i ≤ tries → is_mark_set now spare i ≡ false))

-- A download while no image is on trial: it changes only the spare slot.
pub record IsDownload (m : MediumState) (tries : ℕ) (image : List ℕ) (now : MediumState) : Type 0 where
  pub settled : Settled
  pub stands : IsSettledSlot m settled
  pub spare : ℕ
  pub places : ArePlaces m.bytes settled.slot spare
  pub keeps : ChangedWithin spare (spare + slot_size m.bytes) m.bytes now.bytes
  pub grain : now.grain ≡ m.grain
  pub put : DownloadPlacesImageOrNot now tries settled.slot spare image

-- Outcome of an event on a medium with this number of tries, by the standing that `look` returns for the medium.
abbrev pub TrialStepResult : ℕ → MediumState → TrialEvent → MediumState → Type 0
TrialStepResult tries m (Starts ran) now = (s : Standing) × IsStanding m tries s × AskedResult m (trial_start m.grain tries s).operation now
    × IsSlotRunBy (trial_start m.grain tries s) now ran
TrialStepResult tries m (Confirms at) now = (s : Standing) × IsStanding m tries s
    × ConfirmationOutcome m (trial_confirmation m.grain s at) now
TrialStepResult tries m Ends now = (s : Standing) × IsStanding m tries s × AskedResult m (end_of_trial s) now
TrialStepResult tries m (Uploads given) now = (s : Standing) × IsStanding m tries s × AskedResult m (upload_operation tries s) now
    × UploadResult now tries given
TrialStepResult tries m (Downloads image) now = IsDownload m tries image now

-- The medium after each event is a possible outcome of the event on the medium before it.
abbrev pub IsTrialTrace : ℕ → MediumState → List TrialStep → Type 0
IsTrialTrace tries m [] = Unit {0}
IsTrialTrace tries m (s ∷ rest) = TrialStepResult tries m s.event s.now × IsTrialTrace tries s.now rest

-- Trusted images: the one that was confirmed last, and possibly one on trial, with its number of runs since it was put in place.
pub data TrustedImages : Type 0 where
  Alone : (base : List ℕ) → TrustedImages
  Tried : (base image : List ℕ) (runs : ℕ) → TrustedImages

-- The images of a medium are the trusted ones, and each run of the image on trial is a recorded start.
abbrev pub AreTrusted : MediumState → ℕ → TrustedImages → Type 0
AreTrusted m tries (Alone base) = (s : Settled) × IsSettledSlot m s × (s.is_confirmed ≡ true) × (image_at m s.slot ≡ base)
AreTrusted m tries (Tried base image runs) = (t : Trial) × IsStanding m tries (OnTrial t) × (image_at m t.base ≡ base)
    × (image_at m t.slot ≡ image) × (runs ≤ t.starts) × (t.starts ≤ tries)

-- The trial continues unchanged, or it has ended and only the confirmed image is trusted.
abbrev pub TrialContinuesOrIsOver : (base image : List ℕ) → ℕ → TrustedImages → Type 0
TrialContinuesOrIsOver base image runs next = (next ≡ Tried base image runs) ⊎ (next ≡ Alone base)

-- Trusted images after a start. The image that runs is the confirmed one, or the one on trial if that ran fewer than `tries` times before.
abbrev pub TrustedImagesAfterStart : ℕ → TrustedImages → MediumState → Option ℕ → TrustedImages → Type 0
TrustedImagesAfterStart tries (Alone base) now None next = next ≡ Alone base
TrustedImagesAfterStart tries (Alone base) now (Some slot) next = (image_at now slot ≡ base) × (next ≡ Alone base)
TrustedImagesAfterStart tries (Tried base image runs) now None next = TrialContinuesOrIsOver base image runs next
TrustedImagesAfterStart tries (Tried base image runs) now (Some slot) next =
    ((image_at now slot ≡ image) × (runs < tries) × (next ≡ Tried base image (runs + 1)))
    ⊎ ((image_at now slot ≡ base) × TrialContinuesOrIsOver base image runs next)

-- Image that an upload returns: the confirmed one, or if one is on trial, that one with a try left. None means that the upload is stalled.
abbrev pub ImageOfUpload : ℕ → Option (List ℕ) → TrustedImages → Type 0
ImageOfUpload tries None next = Unit {0}
ImageOfUpload tries (Some image) (Alone base) = image ≡ base
ImageOfUpload tries (Some image) (Tried base new runs) = (image ≡ new) × (runs < tries)

-- Trusted images after an event. Only a download puts an image on trial, with no runs. After a trial that ended without a confirmation, its
-- image runs only if it is downloaded again.
abbrev pub TrustedImagesAfterEvent : ℕ → TrustedImages → TrialEvent → MediumState → TrustedImages → Type 0
TrustedImagesAfterEvent tries trust (Starts ran) now next = TrustedImagesAfterStart tries trust now ran next
TrustedImagesAfterEvent tries (Alone base) (Confirms at) now next = next ≡ Alone base
TrustedImagesAfterEvent tries (Tried base image runs) (Confirms at) now next = (next ≡ Tried base image runs) ⊎ (next ≡ Alone image)
TrustedImagesAfterEvent tries (Alone base) Ends now next = next ≡ Alone base
TrustedImagesAfterEvent tries (Tried base image runs) Ends now next = TrialContinuesOrIsOver base image runs next
TrustedImagesAfterEvent tries (Alone base) (Uploads given) now next = (next ≡ Alone base) × ImageOfUpload tries given next
TrustedImagesAfterEvent tries (Tried base image runs) (Uploads given) now next =
    TrialContinuesOrIsOver base image runs next × ImageOfUpload tries given next
TrustedImagesAfterEvent tries (Alone base) (Downloads new) now next = (next ≡ Alone base) ⊎ (next ≡ Tried base new 0)
TrustedImagesAfterEvent tries (Tried base image runs) (Downloads new) now next = ⊥

-- The images of the medium are trusted at first and after each event, and the trusted images change only as `TrustedImagesAfterEvent`
-- allows.
abbrev pub AllTrusted : ℕ → TrustedImages → MediumState → List TrialStep → Type 0
AllTrusted tries trust m [] = AreTrusted m tries trust
AllTrusted tries trust m (s ∷ rest) = AreTrusted m tries trust
    × ((next : TrustedImages) × TrustedImagesAfterEvent tries trust s.event s.now next × AllTrusted tries next s.now rest)
