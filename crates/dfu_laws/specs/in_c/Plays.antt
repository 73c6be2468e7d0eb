-- Sessions over a link to a board in C, and the meaning of a host's report for the board.
use Rattle.std.specs.Prelude.{◌≡◌, ◌⊎◌, ◌<◌, ℕ, Bool, List, [], ◌∷◌, ◌++◌, length, Option, Some, None}
use Rattle.dfu_wire.specs.declared.states.State.{State}
use Rattle.dfu_wire.specs.declared.states.State.TheVariants.{AppIdle}
use Rattle.dfu_slots.specs.Medium.{MediumState}
use Rattle.dfu_slots.specs.Image.{Active}
use Rattle.dfu_host.specs.declared.limits.Limits.{Limits}
use Rattle.dfu_host.specs.Phases.{Goal, FetchGoal}
use Rattle.dfu_host.specs.Host.{HostState, host_for_goal, aborted_host}
use Rattle.dfu_sim.specs.declared.offering.Purpose.{Purpose}
use Rattle.dfu_sim.specs.Opening.{goal_of_purpose}
use Rattle.dfu_sim.specs.LinkView.{Session, NoLiveSession, HostSession}
use Rattle.dfu_sim.specs.Play.{Answered}
use Rattle.dfu_sim.specs.Session.{IsOneOf, IsInPlaceReport}
use Rattle.dfu_laws.specs.board.Board.{Board, BoardStep}
use Rattle.dfu_laws.specs.link.LinkSteps.{BoardLink, BoardLinkStep}
use Rattle.dfu_laws.specs.link.Trials.{TrialMayEnd}
use Rattle.dfu_laws.specs.board.Slots.{IsInSlot}
use Rattle.dfu_laws.specs.link.Plays.{BoardPlays}
use Rattle.dfu_core.specs.Config.{config_setting}
use Rattle.dfu_core.specs.Board.{CoreBoard, medium_of_core, HasBoardState}
use Rattle.dfu_laws.specs.in_c.Steps.{CoreStep, IsCoreRun, IsBoardOfCore, AreBoardStepsOf}
use Rattle.dfu_laws.specs.in_c.Marks.{IsMarkedCoreBoard, CoreTrialEnd, CoreHomeCopy, IsCoreRunWithMarks, IsCoreRunIfJoined}
use Rattle.dfu_core.specs.Happens.{IsCorePoweredOn}

-- A board in C and its live session.
pub record CoreLink : Type 0 where
  pub board : CoreBoard
  pub session : Session

-- The board of a link in C represents the board of a link, and both links have the same session.
pub record IsLinkOf (l : CoreLink) (x : BoardLink) : Type 0 where
  pub board : IsBoardOfCore l.board x.board
  pub session : x.session ≡ l.session

-- Sessions with a board in C, one after the other, with all other events between them. `past` holds the payloads offered so far, `back` the
-- images that were active after the ends of trials, and `last` the payload of the last session, or None. Each step in C is a step of a
-- board with such sessions: the number that a call returns and the bytes of its buffer encode the reply of that board to the host.
pub record CorePlays (b : CoreBoard) (steps : List CoreStep) (past back : List (List ℕ)) (last : Option (List ℕ))
    (l : CoreLink) : Type 0 where
  pub run : IsCoreRunWithMarks b steps l.board
  pub first : Board
  pub is_first : IsBoardOfCore b first
  pub calls : List BoardStep
  pub are : AreBoardStepsOf steps calls
  pub link : BoardLink
  pub is_link : IsLinkOf l link
  pub plays : BoardPlays first calls past back last link

-- The next event over a link to a board in C, with its steps and the report. It is also the next event of the board that the board in C
-- represents.
pub record CoreLinkStep (l : CoreLink) (steps : List CoreStep) (answer : Answered) (l' : CoreLink) : Type 0 where
  pub run : IsCoreRunWithMarks l.board steps l'.board
  pub before : BoardLink
  pub is_before : IsLinkOf l before
  pub calls : List BoardStep
  pub are : AreBoardStepsOf steps calls
  pub after : BoardLink
  pub is_after : IsLinkOf l' after
  pub comes : BoardLinkStep before calls answer after

-- The payload with which the last session began is the active image of the flash, and dfu_core_state returns appIDLE.
pub record IsCorePayloadInPlace (last : Option (List ℕ)) (b : CoreBoard) : Type 0 where
  pub payload : List ℕ
  pub offered : last ≡ Some payload
  pub active : Active (medium_of_core b) payload
  pub state : HasBoardState b AppIdle

-- If the host reports Installed or Verified, the payload of the last session is the active image, and the board in C is in appIDLE.
abbrev pub CoreReportMeansInPlace : Type 0
CoreReportMeansInPlace = (b : CoreBoard) (steps more : List CoreStep) (past back : List (List ℕ)) (last : Option (List ℕ)) (l l' : CoreLink)
    (answer : Answered) → IsCorePoweredOn b → CorePlays b steps past back last l → CoreLinkStep l more answer l' → IsInPlaceReport answer.report
    → IsCorePayloadInPlace last l'.board

-- The bytes of the report Uploaded are the active image of the flash.
abbrev pub CoreUploadIsActiveImage : Type 0
CoreUploadIsActiveImage = (b : CoreBoard) (steps more : List CoreStep) (past back : List (List ℕ)) (last : Option (List ℕ)) (l l' :
    CoreLink)
    (answer : Answered) (bytes : List ℕ) → IsCorePoweredOn b → CorePlays b steps past back last l → CoreLinkStep l more answer l'
    → answer.gave ≡ Some bytes → Active (medium_of_core l'.board) bytes

-- The active image of the flash is the given one, or a payload that was offered. It may also be an image that was in a slot of the medium
-- m, and became active after the end of a trial.
pub record HasKnownCoreImage (m : MediumState) (image : List ℕ) (past back : List (List ℕ)) (b : CoreBoard) : Type 0 where
  pub now : List ℕ
  pub active : Active (medium_of_core b) now
  pub known : ((now ≡ image) ⊎ (IsInSlot m now × IsOneOf now back)) ⊎ IsOneOf now past

-- The active image is the image that was active at first, or a payload that was offered so far. After the end of a trial it may also be the
-- other image that was in a slot at first.
abbrev pub CoreActiveImageIsKnown : Type 0
CoreActiveImageIsKnown = (b : CoreBoard) (steps : List CoreStep) (past back : List (List ℕ)) (last : Option (List ℕ)) (l : CoreLink) (image
    : List ℕ)
    → IsCorePoweredOn b → Active (medium_of_core b) image → CorePlays b steps past back last l
    → HasKnownCoreImage (medium_of_core b) image past back l.board

-- During the next event, even between two writes of a call, the active image is still one that `HasKnownCoreImage` allows.
abbrev pub CoreActiveImageKnownWithin : Type 0
CoreActiveImageKnownWithin = (b mid : CoreBoard) (steps front rest : List CoreStep) (past back : List (List ℕ)) (last : Option (List ℕ))
    (l l' : CoreLink) (answer : Answered) (image : List ℕ) → IsCorePoweredOn b → Active (medium_of_core b) image
    → CorePlays b steps past back last l
    → CoreLinkStep l (front ++ rest) answer l' → IsCoreRun l.board front mid → HasKnownCoreImage (medium_of_core b) image past back mid

-- The steps of sessions with a board in C are runs between marks, ends of trials and copies. They are one run if each step begins where the
-- previous one ended. Therefore the laws of runs hold for sessions.
abbrev pub CorePlaysAreRuns : Type 0
CorePlaysAreRuns = (b : CoreBoard) (steps : List CoreStep) (past back : List (List ℕ)) (last : Option (List ℕ)) (l : CoreLink)
    → CorePlays b steps past back last l → IsCoreRunIfJoined b steps l.board

-- Link after a session with this goal has begun, with the functional descriptor of the board's configuration.
abbrev pub core_link_of_new_session : CoreBoard → Goal → Limits → CoreLink
core_link_of_new_session b goal limits = record {
  board = b;
  session = HostSession (host_for_goal (config_setting b.config).functional goal
      limits);
}

-- Sessions begin on a board in C that was just powered on. They continue with any of these: an offer of a payload or an upload, if no
-- session is live; an abort of the live session; the next event; a mark of a trial; the end of a trial; or a copy between two areas. The
-- fields of this record are in the same order.
pub record CorePlaysContinue : Type 0 where
  -- No session has begun on a board in C that was just powered on.
  pub starts : (b : CoreBoard) → IsCorePoweredOn b → CorePlays b [] [] [] None (record { board = b; session = NoLiveSession })
  -- Sessions continue with an offer of a payload if no session is live.
  pub offers : (b : CoreBoard) (steps : List CoreStep) (past back : List (List ℕ)) (last : Option (List ℕ)) (l : CoreLink)
      (purpose : Purpose)
      (payload : List ℕ) (limits : Limits) → CorePlays b steps past back last l → l.session ≡ NoLiveSession → 0 < length payload
      → CorePlays b steps (payload ∷ past) back (Some payload) (core_link_of_new_session l.board (goal_of_purpose purpose payload) limits)
  -- Sessions continue with an upload if no session is live.
  pub uploads : (b : CoreBoard) (steps : List CoreStep) (past back : List (List ℕ)) (last : Option (List ℕ)) (l : CoreLink)
      (limits : Limits) → CorePlays b steps past back last l → l.session ≡ NoLiveSession
      → CorePlays b steps past back None (core_link_of_new_session l.board FetchGoal limits)
  -- Sessions continue with an abort of the live session.
  pub aborts : (b : CoreBoard) (steps : List CoreStep) (past back : List (List ℕ)) (last : Option (List ℕ)) (l : CoreLink) (h : HostState)
      → CorePlays b steps past back last l → l.session ≡ HostSession h
      → CorePlays b steps past back last (record { board = l.board; session = HostSession (aborted_host h) })
  -- Sessions continue with one more event (`CoreLinkStep`).
  pub goes_on : (b : CoreBoard) (steps more : List CoreStep) (past back : List (List ℕ)) (last : Option (List ℕ)) (l l' : CoreLink)
      (answer : Answered) → CorePlays b steps past back last l → CoreLinkStep l more answer l'
      → CorePlays b (steps ++ more) past back last l'
  -- Sessions continue with a mark of a trial.
  pub marks : (b b' : CoreBoard) (steps : List CoreStep) (past back : List (List ℕ)) (last : Option (List ℕ)) (l : CoreLink)
      → CorePlays b steps past back last l → IsMarkedCoreBoard l.board b' → CorePlays b steps past back last (record l { board = b' })
  -- Sessions continue with the end of a trial at a time at which `TrialMayEnd` allows it.
  pub ends : (b b' : CoreBoard) (steps : List CoreStep) (past back : List (List ℕ)) (last : Option (List ℕ)) (l : CoreLink) (state : State)
      (begins : Bool) (image : List ℕ) → CorePlays b steps past back last l → HasBoardState l.board state
      → TrialMayEnd l.session state begins
      → CoreTrialEnd l.board begins b' → Active (medium_of_core b') image
      → CorePlays b steps past (image ∷ back) last (record l { board = b' })
  -- Sessions continue with a copy between two areas.
  pub copies : (b b' : CoreBoard) (steps : List CoreStep) (past back : List (List ℕ)) (last : Option (List ℕ)) (l : CoreLink)
      → CorePlays b steps past back last l → CoreHomeCopy l.board b' → CorePlays b steps past back last (record l { board = b' })
