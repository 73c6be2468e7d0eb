-- Images in the two slots of a board's flash.
use Rattle.std.specs.Prelude.{◌≡◌, ◌⊎◌, ℕ, List, ◌++◌, take, None}
use Rattle.dfu_slots.specs.Medium.{MediumState}
use Rattle.dfu_slots.specs.Layout.{ArePlaces, header_length, HasHeader}
use Rattle.dfu_slots.specs.Image.{slot_of, SlotCounts, Active}
use Rattle.dfu_laws.specs.board.Board.{Board, medium_on, BoardStep}
use Rattle.dfu_laws.specs.board.Happens.{IsRun}
use Rattle.dfu_laws.specs.board.Refines.{IsIdleBoard}
use Rattle.dfu_device.specs.DeviceView.{DeviceView}

-- One of the two slots of a medium counts (`SlotCounts` of dfu_slots), has a well-formed header, and holds the image.
abbrev pub IsInSlot : MediumState → List ℕ → Type 0
IsInSlot m image = (at : ℕ) × (other : ℕ) × ArePlaces m.bytes at other × SlotCounts (slot_of m at)
    × HasHeader (slot_of m at) (header_length (slot_of m at)) × (take (header_length (slot_of m at)) (slot_of m at).data_bytes ≡ image)

-- The image was active on the board after some prefix of the steps, which may be empty or all of them.
pub record WasActiveMeanwhile (b : Board) (steps : List BoardStep) (image : List ℕ) : Type 0 where
  pub front : List BoardStep
  pub rest : List BoardStep
  -- Board after the prefix.
  pub mid : Board
  pub steps_are : front ++ rest ≡ steps
  -- The prefix leads to this board.
  pub run : IsRun b front mid
  pub active : Active (medium_on mid) image

-- After a run between two boards without pending writes, each image in a slot was in a slot before the run, or was active after some of the
-- steps.
abbrev pub IdleRunsKeepSlots : Type 0
IdleRunsKeepSlots = (b b' : Board) (d : DeviceView) (steps : List BoardStep) (image : List ℕ) → IsIdleBoard b d → IsRun b steps b'
    → b'.asking.work ≡ None → IsInSlot (medium_on b') image → IsInSlot (medium_on b) image ⊎ WasActiveMeanwhile b steps image
