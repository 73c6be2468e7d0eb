-- Image that runs after a session between both ends in C, if the session's payload is on trial.
use Rattle.std.specs.Prelude.{ℕ, List, Option}
use Rattle.dfu_boot.specs.trial.Marks.{AreTries}
use Rattle.dfu_boot.specs.trial.Calls.{IsStanding}
use Rattle.dfu_boot.specs.trial.Lists.{TrialStep, IsTrialTrace}
use Rattle.dfu_boot.specs.declared.trial.standing.Trial.{Trial}
use Rattle.dfu_boot.specs.declared.trial.standing.Standing.TheVariants.{OnTrial}
use Rattle.dfu_sim.specs.Play.{Answered}
use Rattle.dfu_sim.specs.Session.{IsInPlaceReport}
use Rattle.dfu_core.specs.Board.{CoreBoard, medium_of_core}
use Rattle.dfu_core.specs.Happens.{IsCorePoweredOn}
use Rattle.dfu_laws.specs.link.Stays.{PayloadRunsOnTrial}
use Rattle.dfu_laws.specs.in_c.Steps.{CoreStep}
use Rattle.dfu_laws.specs.ends.Plays.{CoreEndsLink, CoreEndsPlay, CoreEndsStep}

-- Let dfu_host_next report that a session is over with Installed or Verified, while an image is on trial. Then this image is the payload,
-- and each start runs the payload or the confirmed image (`PayloadRunsOnTrial`).
abbrev pub EndsReportedTrialStays : Type 0
EndsReportedTrialStays = (b : CoreBoard) (steps more : List CoreStep) (past back : List (List ℕ)) (last : Option (List ℕ)) (l l' :
    CoreEndsLink)
    (answer : Answered) (tries : ℕ) (t : Trial) (list : List TrialStep) → IsCorePoweredOn b → CoreEndsPlay b steps past back last l
    → CoreEndsStep l more answer l' → IsInPlaceReport answer.report → AreTries (medium_of_core l'.board).grain tries
    → IsStanding (medium_of_core l'.board) tries (OnTrial t) → IsTrialTrace tries (medium_of_core l'.board) list
    → PayloadRunsOnTrial tries last (medium_of_core l'.board) t list
