-- Active images of a device and of a board whose program checks each image.
use Rattle.std.specs.Prelude.{◌≡◌, ◌⊎◌, ℕ, Bool, true, List, [], ◌∷◌, ◌++◌}
use Rattle.dfu_wire.specs.declared.codes.Code.TheVariants.{Target as ErrTarget, File as ErrFile, StalledPkt as ErrStalledPkt}
use Rattle.dfu_slots.specs.StoreView.{image_of}
use Rattle.dfu_device.specs.Stage.{Stage, InAppIdle, InManifestSync, InManifest, InError}
use Rattle.dfu_device.specs.DeviceView.{DeviceView}
use Rattle.dfu_device.specs.History.{IsHistory, HistoryStep as TableRow}
use Rattle.dfu_slots.specs.Image.{Active}
use Rattle.dfu_laws.specs.board.Board.{Board, BoardStep, medium_on}
use Rattle.dfu_laws.specs.board.Happens.{IsPoweredOn, IsRun}
use Rattle.dfu_laws.specs.board.ImageSurvival.{accepted_bytes_of, IsAcknowledgedClose, DownloadOfImageClosed}

-- If one of the steps closes a download, all bytes of that download pass the check. The old steps precede these steps. A program satisfies
-- the condition if it calls `refuse_close` at each close of bytes that fail the check.
abbrev pub ClosesPassCheck : (check : List ℕ → Bool) → (old steps : List BoardStep) → Type 0
ClosesPassCheck check old steps =
    (first : List BoardStep) (close : BoardStep) (rest : List BoardStep) → steps ≡ first ++ close ∷ rest → IsAcknowledgedClose close
    → check (accepted_bytes_of [] (old ++ first)) ≡ true

-- The active image of a board's flash is the given one, or one that passes the check: all bytes of a download that one of the steps closed.
pub record HasAcceptedImage (check : List ℕ → Bool) (image : List ℕ) (old steps : List BoardStep) (b : Board) : Type 0 where
  pub now : List ℕ
  pub active : Active (medium_on b) now
  -- The active image is the given one, or it is all bytes of a closed download and passes the check.
  pub whence : (now ≡ image) ⊎ (DownloadOfImageClosed old steps now × (check now ≡ true))

-- After any steps of a board from power on, if every closed download passes the check, the active image is the one at power on, or one that
-- passes the check.
abbrev pub RunKeepsAcceptedImage : Type 0
RunKeepsAcceptedImage = (check : List ℕ → Bool) (b b' : Board) (steps : List BoardStep) (image : List ℕ) → IsPoweredOn b →
    Active (medium_on b) image
    → IsRun b steps b' → ClosesPassCheck check [] steps → HasAcceptedImage check image [] steps b'

-- In this stage the device has received the whole image t, and has not installed it yet.
abbrev pub IsPending : Stage → List ℕ → Type 0
IsPending (InManifestSync taken) t = taken ≡ t
IsPending (InManifest taken passed) t = taken ≡ t
IsPending st t = ⊥

-- A device enters this stage when it gives up a pending image: after a reset of the bus, a loss of power, a refusal by the program, or a
-- request that is not allowed.
abbrev pub IsAbandonedStage : Stage → Type 0
IsAbandonedStage InAppIdle = Unit {0}
IsAbandonedStage (InError ErrTarget) = Unit {0}
IsAbandonedStage (InError ErrFile) = Unit {0}
IsAbandonedStage (InError ErrStalledPkt) = Unit {0}
IsAbandonedStage st = ⊥

-- If an image is pending before a row, the image passes the check, is still pending after the row, or is given up. A program satisfies the
-- condition if it calls `refuse` in time for each image that fails the check.
abbrev pub RowPassesCheck : (check : List ℕ → Bool) → TableRow → Type 0
RowPassesCheck check s =
    (t : List ℕ) → IsPending s.before.stage t → (check t ≡ true) ⊎ IsPending s.after.stage t ⊎ IsAbandonedStage s.after.stage

-- `RowPassesCheck` holds for each of the rows.
abbrev pub RowsPassCheck : (check : List ℕ → Bool) → List TableRow → Type 0
RowsPassCheck check [] = Unit {0}
RowsPassCheck check (s ∷ rest) = RowPassesCheck check s × RowsPassCheck check rest

-- If all rows of a device's history pass the check, the active image after the history is the one before it, or one that passes the check.
abbrev pub HistoryKeepsAcceptedImage : Type 0
HistoryKeepsAcceptedImage = (check : List ℕ → Bool) (h : List TableRow) (w w' : DeviceView) → IsHistory w h w' → RowsPassCheck check h
    → (image_of w'.slots ≡ image_of w.slots) ⊎ (check (image_of w'.slots) ≡ true)
