-- Image that runs after a session, if the session's payload is on trial.
use Rattle.std.specs.Prelude.{◌≡◌, ◌<◌, ℕ, List, Option, Some}
use Rattle.dfu_slots.specs.Medium.{MediumState}
use Rattle.dfu_boot.specs.trial.Marks.{AreTries}
use Rattle.dfu_boot.specs.trial.Trial.{image_at}
use Rattle.dfu_boot.specs.trial.Calls.{IsStanding}
use Rattle.dfu_boot.specs.trial.Lists.{TrialStep, IsTrialTrace, Tried, AllTrusted}
use Rattle.dfu_boot.specs.declared.trial.standing.Trial.{Trial}
use Rattle.dfu_boot.specs.declared.trial.standing.Standing.TheVariants.{OnTrial}
use Rattle.dfu_sim.specs.Play.{Answered}
use Rattle.dfu_sim.specs.Session.{IsInPlaceReport}
use Rattle.dfu_laws.specs.board.Board.{Board, medium_on, BoardStep}
use Rattle.dfu_laws.specs.board.Happens.{IsPoweredOn}
use Rattle.dfu_laws.specs.link.LinkSteps.{BoardLink, BoardLinkStep}
use Rattle.dfu_laws.specs.link.Plays.{BoardPlays}

-- The payload of the last session is on trial on the medium, beside a confirmed image. By `AllTrusted` of dfu_boot, each start runs the
-- payload until its tries are spent. A start whose mark does not read as set runs the confirmed image, and spends no try. Once the tries
-- are spent, each start runs the confirmed image, unless another image is confirmed or downloaded.
pub record PayloadRunsOnTrial (tries : ℕ) (last : Option (List ℕ)) (m : MediumState) (t : Trial) (list : List TrialStep) : Type 0 where
  pub payload : List ℕ
  pub offered : last ≡ Some payload
  -- `AllTrusted` of dfu_boot holds for all trial steps: each start runs the payload or the confirmed image.
  pub runs : AllTrusted tries (Tried (image_at m t.base) payload t.starts) m list

-- If Installed or Verified is reported and an image is on trial, that image is the payload, and `PayloadRunsOnTrial` holds for any later
-- starts, confirmations, ends, uploads and downloads.
abbrev pub ReportedTrialStays : Type 0
ReportedTrialStays = (b : Board) (steps more : List BoardStep) (past back : List (List ℕ)) (last : Option (List ℕ)) (l l' : BoardLink)
    (answer : Answered) (tries : ℕ) (t : Trial) (list : List TrialStep) → IsPoweredOn b → 0 < b.asking.config.functional.transfer
    → BoardPlays b steps past back last l → BoardLinkStep l more answer l' → IsInPlaceReport answer.report
    → AreTries (medium_on l'.board).grain tries
    → IsStanding (medium_on l'.board) tries (OnTrial t) → IsTrialTrace tries (medium_on l'.board) list
    → PayloadRunsOnTrial tries last (medium_on l'.board) t list
