-- Copy of the active image to the first of two areas, which runs on a board between a restart and the start of its device.
use Rattle.std.specs.Prelude.{Bool, List, ℕ}
use Rattle.dfu_slots.specs.Medium.{MediumState}
use Rattle.dfu_slots.specs.Image.{Active}
use Rattle.dfu_home.specs.declared.due.Due.{Due}
use Rattle.dfu_home.specs.declared.due.Progress.{Progress}
use Rattle.dfu_home.specs.Next.{IsNextDue}
use Rattle.dfu_home.specs.Laws.{HomeOperationOutcome}
use Rattle.dfu_asks.specs.Lent.{SameConfig}
use Rattle.dfu_laws.specs.board.Board.{Board, medium_on}
use Rattle.dfu_laws.specs.board.Happens.{BoardStarts}

-- Any number of operations of the copy were carried out on a medium. Each is the next one for some progress, because the progress begins
-- anew after a loss of power. Each may succeed, fail, report a wrong result, or be cut off with any bytes in its range.
pub data HomeOperations (m : MediumState) : MediumState → Type 0 where
  no_operation : HomeOperations m m
  then_operation : {mid now : MediumState} {due : Due} (p : Progress) → HomeOperations m mid → IsNextDue mid p due
      → HomeOperationOutcome mid due now → HomeOperations m now

-- The operations of the copy leave the active image unchanged, with any results.
abbrev pub HomeOperationsKeepImage : Type 0
HomeOperationsKeepImage = (m now : MediumState) (image : List ℕ) → Active m image → HomeOperations m now → Active now image

-- The copy runs on a board after a restart, for a host or not, before its device starts. The board b is the result of a start before the
-- copy, and such a start changes no flash. The program starts the device only after the copy, and the result is the board b'.
pub record HomeCopy (b b' : Board) : Type 0 where
  pub begins : Bool
  pub power : BoardStarts begins b
  pub operations : HomeOperations (medium_on b) (medium_on b')
  pub starts : BoardStarts begins b'
  pub same : SameConfig b.asking b'.asking
