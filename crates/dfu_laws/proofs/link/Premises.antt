-- Laws from which the laws of sessions with a board follow.
use Rattle.std.specs.Prelude.{◌≡◌, ℕ, List}
use Rattle.dfu_slots.specs.Image.{Active, HasImage}
use Rattle.dfu_slots.specs.StoreView.{SlotsState, image_of}
use Rattle.dfu_sim.specs.Simulation.{Simulation, ActiveImageWasOffered}
use Rattle.dfu_laws.specs.board.Refines.{IdleRunsRefineTable}
use Rattle.dfu_laws.specs.board.Slots.{IdleRunsKeepSlots}
use Rattle.dfu_laws.proofs.link.BoardsAfterCopies.{HomeOperationLaws}

-- Clause `shown` of the law `active_image_is_one`: the image that `image_of` gives is active.
abbrev pub ShownImageIsActive : Type 0
ShownImageIsActive = (s : SlotsState) → HasImage s.medium → Active s.medium (image_of s)

-- Clause `only` of the law `active_image_is_one`: no image other than the one that `image_of` gives is active.
abbrev pub OneActiveImageClause : Type 0
OneActiveImageClause = (s : SlotsState) (image : List ℕ) → Active s.medium image → image ≡ image_of s

-- Laws of other crates and of boards, from which the laws of sessions follow.
pub record LinkLaws : Type 0 where
  -- Runs that begin without pending writes are rows of the device table.
  pub refines : IdleRunsRefineTable
  -- After a run that begins and ends without pending writes, each image in a slot was in a slot before, or was active meanwhile.
  pub keeps : IdleRunsKeepSlots
  -- Each event of the host and the device is a legal step of the session machine.
  pub simulation : Simulation
  -- The active image of a session machine is the first one, or was offered.
  pub only : ActiveImageWasOffered
  -- The image that `image_of` gives is active.
  pub shown : ShownImageIsActive
  -- No image other than the one that `image_of` gives is active.
  pub one : OneActiveImageClause
  -- Laws about the operations of the copy between two areas.
  pub home : HomeOperationLaws

pub link_laws : IdleRunsRefineTable → IdleRunsKeepSlots → Simulation → ActiveImageWasOffered → ShownImageIsActive → OneActiveImageClause →
    HomeOperationLaws → LinkLaws
link_laws refines keeps simulation only shown one home =
    record { refines = refines; keeps = keeps; simulation = simulation; only = only; shown = shown; one = one; home = home }
