-- The runs of a board in C are runs of a board, and therefore a board in C keeps an active image too.
use Rattle.std.specs.Prelude.{◌≡◌, ◌≢◌, ℕ, ℤ, true, false, List, [], ◌∷◌}
use Rattle.dfu_wire.specs.declared.states.State.{State}
use Rattle.dfu_slots.specs.Image.{Active}
use Rattle.dfu_laws.specs.board.Board.{Board, BoardStep, device_on}
use Rattle.dfu_laws.specs.board.Happens.{IsPoweredOn, IsRun}
use Rattle.dfu_laws.specs.board.ImageSurvival.{ImageKeptOrClosed, accepted_bytes_of, is_manifesting, has_manifested}
use Rattle.dfu_laws.specs.board.Refines.{RefinesDeviceTable}
use Rattle.dfu_core.specs.Power.{RefusesPower}
use Rattle.dfu_core.specs.Board.{CoreBoard, CoreRestart, medium_of_core, HasBoardState}
use Rattle.dfu_laws.specs.in_c.Steps.{CoreStep, IsCoreRun, IsBoardOfCore, AreBoardStepsOf}
use Rattle.dfu_core.specs.Happens.{IsCorePoweredOn}
use Rattle.dfu_laws.specs.in_c.ReplyKinds.{RepliesFitSetups}

-- The steps from b to b' in C correspond to a run of a board, from the board that b represents to the one that b' represents.
pub record CoreRunIsBoardRun (b b' : CoreBoard) (steps : List CoreStep) : Type 0 where
  pub config : b'.config ≡ b.config
  pub first : Board
  pub last : Board
  pub run : List BoardStep
  -- The board `b` in C represents the first board.
  pub is_first : IsBoardOfCore b first
  -- The board `b'` in C represents the last board.
  pub is_last : IsBoardOfCore b' last
  -- The steps lead from the first board to the last.
  pub is_run : IsRun first run last
  -- The steps in C correspond to these steps.
  pub are : AreBoardStepsOf steps run

-- The steps in C are a run of a board that was just powered on, and rows of the device table. Each reply fits its request: a 0 from
-- dfu_core_handle is an answer without bytes to GETSTATUS, GETSTATE or UPLOAD, and an acknowledgement of any other request.
pub record CoreRefinesDeviceTable (b b' : CoreBoard) (steps : List CoreStep) : Type 0 where
  -- The steps in C correspond to a run of a board.
  pub runs : CoreRunIsBoardRun b b' steps
  -- The first board was just powered on.
  pub on : IsPoweredOn runs.first
  -- The steps of the run are rows of the device table.
  pub refined : RefinesDeviceTable (device_on runs.first) runs.run runs.last
  -- Each reply fits the request of its setup packet.
  pub fit : RepliesFitSetups runs.run

-- Any steps of a board in C from power on are a run of a board, and rows of the device table.
abbrev pub CoreRunsRefineTable : Type 0
CoreRunsRefineTable = (b b' : CoreBoard) (steps : List CoreStep) → IsCorePoweredOn b → IsCoreRun b steps b' → CoreRefinesDeviceTable b b' steps

-- The flash of a board in C has an active image: the given one, or all bytes of a download that one of the steps closed. The old steps
-- precede these steps.
pub record CoreImageKeptOrClosed (image : List ℕ) (b mid b' : CoreBoard) (old steps : List CoreStep) : Type 0 where
  -- The old steps correspond to a run of a board.
  pub past : CoreRunIsBoardRun b mid old
  -- The steps correspond to a run of a board.
  pub runs : CoreRunIsBoardRun mid b' steps
  -- The last board has an active image: the given one, or all bytes of a closed download.
  pub kept : ImageKeptOrClosed image past.run runs.run runs.last
  -- This image is active on the flash in C.
  pub active : Active (medium_of_core b') kept.now

-- After any steps of a board in C from power on, its active image is the one that it had at power on, or all bytes of a download closed
-- since.
abbrev pub CoreRunsKeepImage : Type 0
CoreRunsKeepImage =
    (b b' : CoreBoard) (steps : List CoreStep) (image : List ℕ) → IsCorePoweredOn b → Active (medium_of_core b) image → IsCoreRun b steps b'
    → CoreImageKeptOrClosed image b b b' [] steps

-- After any time since power on at which no image is pending, the active image is the one of that time, or all bytes of a download closed
-- since then. No image of a download that was closed before that time becomes active.
abbrev pub CoreImageStaysInRun : Type 0
CoreImageStaysInRun = (b mid b' : CoreBoard) (old steps : List CoreStep) (image : List ℕ) (state : State) → IsCorePoweredOn b →
    IsCoreRun b old mid
    → HasBoardState mid state → is_manifesting state ≡ false → Active (medium_of_core mid) image → IsCoreRun mid steps b'
    → CoreImageKeptOrClosed image b mid b' old steps

-- All bytes that the board acknowledged in these steps are the active image.
pub record TakenBytesAreActive (b mid b' : CoreBoard) (steps : List CoreStep) : Type 0 where
  -- The steps correspond to a run of a board.
  pub runs : CoreRunIsBoardRun b mid steps
  pub active : Active (medium_of_core b') (accepted_bytes_of [] runs.run)

-- After a step that leads out of manifestation without a fault, all bytes of the download are the active image. A restart by dfu_core_begin
-- is excluded, because it leads to dfuIDLE from any state.
abbrev pub CoreManifestationInstalls : Type 0
CoreManifestationInstalls = (b mid b' : CoreBoard) (steps : List CoreStep) (last : CoreStep) (state state' : State) → IsCorePoweredOn b
    → IsCoreRun b steps mid → HasBoardState mid state → is_manifesting state ≡ true → IsCoreRun mid (last ∷ []) b'
    → last.event ≢ CoreRestart true
    → HasBoardState b' state' → has_manifested state' ≡ true → TakenBytesAreActive b mid b' steps

-- After any steps, dfu_core_power_on with the configuration of the board is not refused.
abbrev pub CorePowerOnSucceeds : Type 0
CorePowerOnSucceeds = (b b' : CoreBoard) (steps : List CoreStep) → IsCorePoweredOn b → IsCoreRun b steps b' → (n : ℤ) →
    ¬ RefusesPower b.config b'.flash n
