-- Sessions between a host in C and a board in C, and the meaning of a report of dfu_host_next for the board.
use Rattle.std.specs.Prelude.{◌≡◌, ◌<◌, ℕ, pos, Bool, List, [], ◌∷◌, ◌++◌, length, Option, Some, None}
use Rattle.dfu_wire.specs.declared.states.State.{State}
use Rattle.dfu_slots.specs.Image.{Active}
use Rattle.dfu_host.specs.declared.limits.Limits.{Limits}
use Rattle.dfu_host.specs.Phases.{FetchGoal}
use Rattle.dfu_host.specs.Host.{host_for_goal}
use Rattle.dfu_sim.specs.declared.offering.Purpose.{Purpose}
use Rattle.dfu_sim.specs.LinkView.{Session}
use Rattle.dfu_sim.specs.Opening.{goal_of_purpose}
use Rattle.dfu_sim.specs.Play.{Answered}
use Rattle.dfu_sim.specs.Session.{IsInPlaceReport}
use Rattle.dfu_core.specs.Config.{config_setting}
use Rattle.dfu_core.specs.Board.{CoreBoard, medium_of_core, HasBoardState}
use Rattle.dfu_core.specs.Happens.{IsCorePoweredOn}
use Rattle.dfu_host_core.specs.declared.session.DfuSession.{DfuSession}
use Rattle.dfu_host_core.specs.BeginCalls.{IsInitialRecord}
use Rattle.dfu_host_core.specs.Runs.{CoreHost, CoreAbortCall, HostCallResult}
use Rattle.dfu_laws.specs.board.Board.{Board, medium_on, state_on, BoardStep}
use Rattle.dfu_laws.specs.link.Marks.{TrialEnd}
use Rattle.dfu_laws.specs.link.Copies.{HomeCopy}
use Rattle.dfu_laws.specs.in_c.Steps.{CoreStep, IsCoreRun, IsBoardOfCore, AreBoardStepsOf}
use Rattle.dfu_laws.specs.in_c.Marks.{IsMarkedCoreBoard, CoreTrialEnd, CoreHomeCopy, IsCoreRunWithMarks}
use Rattle.dfu_laws.specs.in_c.Plays.{CorePlays, IsCorePayloadInPlace, HasKnownCoreImage}
use Rattle.dfu_laws.specs.ends.Sessions.{CoreSession, NoSession, InSession, IsSessionOf, CoreTrialMayEnd}
use Rattle.dfu_laws.specs.ends.EndsSteps.{EndsStep}

-- New session in C, with the record of the call that began it and any buffer.
abbrev pub initial_session : (payload : List ℕ) → DfuSession → (buffer : List ℕ) → CoreSession
initial_session payload r buffer = InSession payload (record { kept = r; buffer = buffer })

-- Sessions in C with a board, one after the other, with all other events between them. The lists are the steps of the board, the payloads
-- offered so far, and the images that were active after the ends of trials. The option is the payload of the last session, or None.
pub data EndsPlay (b : Board) : List BoardStep → List (List ℕ) → List (List ℕ) → Option (List ℕ) → CoreSession → Board → Type 0 where
  -- No session has begun.
  no_session_yet : EndsPlay b [] [] [] None NoSession b
  -- dfu_host_download or dfu_host_verified begins a session for a payload, with the functional descriptor of the board.
  download_begins : {steps : List BoardStep} {past back : List (List ℕ)} {last : Option (List ℕ)} {now : Board} (purpose : Purpose)
      (payload buffer : List ℕ) (limits : Limits) (r : DfuSession) → EndsPlay b steps past back last NoSession now → 0 < length payload
      → IsInitialRecord r (host_for_goal now.asking.config.functional (goal_of_purpose purpose payload) limits)
      → EndsPlay b steps (payload ∷ past) back (Some payload) (initial_session payload r buffer) now
  -- dfu_host_upload begins a session, which never reads the bytes that are passed as its payload.
  upload_begins : {steps : List BoardStep} {past back : List (List ℕ)} {last : Option (List ℕ)} {now : Board} (unused buffer : List ℕ)
      (limits : Limits) (r : DfuSession) → EndsPlay b steps past back last NoSession now
      → IsInitialRecord r (host_for_goal now.asking.config.functional FetchGoal limits)
      → EndsPlay b steps past back None (initial_session unused r buffer) now
  -- dfu_host_abort aborts the live session.
  session_is_given_up : {steps : List BoardStep} {past back : List (List ℕ)} {last : Option (List ℕ)} {now : Board} {payload : List ℕ}
      {x x' : CoreHost} → EndsPlay b steps past back last (InSession payload x) now → HostCallResult payload x CoreAbortCall (pos 0) x'
      → EndsPlay b steps past back last (InSession payload x') now
  -- One more event follows the sessions so far.
  and_then : {steps more : List BoardStep} {past back : List (List ℕ)} {last : Option (List ℕ)} {s s' : CoreSession} {now b' : Board}
      {answer : Answered} → EndsPlay b steps past back last s now → EndsStep s now more answer s' b'
      → EndsPlay b (steps ++ more) past back last s' b'
  -- A trial ends, and this image is active afterwards. The session receives nothing.
  trial_is_over : {steps : List BoardStep} {past back : List (List ℕ)} {last : Option (List ℕ)} {s : CoreSession} {now b' : Board}
      {begins : Bool} (image : List ℕ) → EndsPlay b steps past back last s now → CoreTrialMayEnd s (state_on now) begins
      → TrialEnd now begins b'
      → Active (medium_on b') image → EndsPlay b steps past (image ∷ back) last s b'
  -- On a board with two areas, the copy of the active image runs after a restart. The session receives nothing.
  operations_come : {steps : List BoardStep} {past back : List (List ℕ)} {last : Option (List ℕ)} {s : CoreSession} {now b' : Board}
      → EndsPlay b steps past back last s now → HomeCopy now b' → EndsPlay b steps past back last s b'

-- A board in C, and the live session in C.
pub record CoreEndsLink : Type 0 where
  pub board : CoreBoard
  pub session : CoreSession

-- Sessions in C with a board in C. The steps in C are runs between marks, ends of trials and copies, and each is a step of a board with
-- these sessions.
pub record CoreEndsPlay (b : CoreBoard) (steps : List CoreStep) (past back : List (List ℕ)) (last : Option (List ℕ)) (l : CoreEndsLink)
    : Type 0 where
  -- The steps in C are runs between marks, ends of trials and copies.
  pub run : IsCoreRunWithMarks b steps l.board
  -- Board that takes part in these sessions, before the first step.
  pub first : Board
  -- The first board in C represents this board.
  pub is_first : IsBoardOfCore b first
  pub calls : List BoardStep
  -- The steps in C correspond to these steps.
  pub are : AreBoardStepsOf steps calls
  pub now : Board
  -- The board in C represents this board after the steps.
  pub is_now : IsBoardOfCore l.board now
  -- The sessions are those of this board.
  pub plays : EndsPlay first calls past back last l.session now

-- The next event, with its steps in C. It is also an event of the board that the board in C represents.
pub record CoreEndsStep (l : CoreEndsLink) (steps : List CoreStep) (answer : Answered) (l' : CoreEndsLink) : Type 0 where
  -- The steps in C are runs between marks, ends of trials and copies.
  pub run : IsCoreRunWithMarks l.board steps l'.board
  pub before : Board
  -- The board in C represents this board before the event.
  pub is_before : IsBoardOfCore l.board before
  pub calls : List BoardStep
  -- The steps in C correspond to these steps.
  pub are : AreBoardStepsOf steps calls
  pub after : Board
  -- The board in C represents this board after the event.
  pub is_after : IsBoardOfCore l'.board after
  -- The event leads from the board `before` to the board `after`, with the steps `calls`.
  pub comes : EndsStep l.session before calls answer l'.session after

-- The sessions are those of a board in C with a host, and the live session in C is the live session of that host.
pub record AreHostSessions (b : CoreBoard) (steps : List CoreStep) (past back : List (List ℕ)) (last : Option (List ℕ)) (l : CoreEndsLink)
    : Type 0 where
  pub session : Session
  -- The session in C is this session.
  pub is : IsSessionOf l.session session
  -- The sessions are those of the board in C with this host.
  pub plays : CorePlays b steps past back last (record { board = l.board; session = session })

-- Each session between both ends in C is also a session of a board in C with a host.
abbrev pub SessionsOfEndsHaveHosts : Type 0
SessionsOfEndsHaveHosts = (b : CoreBoard) (steps : List CoreStep) (past back : List (List ℕ)) (last : Option (List ℕ)) (l : CoreEndsLink)
    → CoreEndsPlay b steps past back last l → AreHostSessions b steps past back last l

-- If dfu_host_next reports that a session is over with Installed or Verified, the payload of the last session is the active image of the
-- flash, and dfu_core_state returns appIDLE.
abbrev pub EndsReportMeansInPlace : Type 0
EndsReportMeansInPlace = (b : CoreBoard) (steps more : List CoreStep) (past back : List (List ℕ)) (last : Option (List ℕ)) (l l' :
    CoreEndsLink)
    (answer : Answered) → IsCorePoweredOn b → CoreEndsPlay b steps past back last l → CoreEndsStep l more answer l'
    → IsInPlaceReport answer.report
    → IsCorePayloadInPlace last l'.board

-- If dfu_host_next reports Uploaded, the bytes in the session's buffer are the active image of the flash.
abbrev pub EndsUploadIsActiveImage : Type 0
EndsUploadIsActiveImage = (b : CoreBoard) (steps more : List CoreStep) (past back : List (List ℕ)) (last : Option (List ℕ)) (l l' :
    CoreEndsLink)
    (answer : Answered) (bytes : List ℕ) → IsCorePoweredOn b → CoreEndsPlay b steps past back last l → CoreEndsStep l more answer l'
    → answer.gave ≡ Some bytes → Active (medium_of_core l'.board) bytes

-- The active image is the image that was active at first, or a payload that was offered so far. After the end of a trial it may also be the
-- other image that was in a slot at first.
abbrev pub EndsActiveImageIsKnown : Type 0
EndsActiveImageIsKnown = (b : CoreBoard) (steps : List CoreStep) (past back : List (List ℕ)) (last : Option (List ℕ)) (l : CoreEndsLink)
    (image : List ℕ)
    → IsCorePoweredOn b → Active (medium_of_core b) image → CoreEndsPlay b steps past back last l
    → HasKnownCoreImage (medium_of_core b) image past back l.board

-- During the next event, even between two writes of a call, the active image is still one that `HasKnownCoreImage` allows.
abbrev pub EndsActiveImageKnownWithin : Type 0
EndsActiveImageKnownWithin = (b mid : CoreBoard) (steps front rest : List CoreStep) (past back : List (List ℕ)) (last : Option (List ℕ))
    (l l' : CoreEndsLink)
    (answer : Answered) (image : List ℕ) → IsCorePoweredOn b → Active (medium_of_core b) image → CoreEndsPlay b steps past back last l
    → CoreEndsStep l (front ++ rest) answer l' → IsCoreRun l.board front mid → HasKnownCoreImage (medium_of_core b) image past back mid

-- Sessions between both ends begin on a board in C that was just powered on. They continue with any of these: an offer of a payload or an
-- upload, if no session is live; an abort of the live session; the next event; a mark of a trial; the end of a trial; or a copy between two
-- areas.
pub record EndsContinue : Type 0 where
  -- No session has begun on a board in C that was just powered on.
  pub starts : (b : CoreBoard) → IsCorePoweredOn b → CoreEndsPlay b [] [] [] None (record { board = b; session = NoSession })
  -- Sessions continue with an offer of a payload if no session is live.
  pub offers : (b : CoreBoard) (steps : List CoreStep) (past back : List (List ℕ)) (last : Option (List ℕ)) (on : CoreBoard)
      (purpose : Purpose) (payload buffer : List ℕ) (limits : Limits) (r : DfuSession)
      → CoreEndsPlay b steps past back last (record { board = on; session = NoSession }) → 0 < length payload
      → IsInitialRecord r (host_for_goal (config_setting on.config).functional (goal_of_purpose purpose payload) limits)
      → CoreEndsPlay b steps (payload ∷ past) back (Some payload) (record { board = on; session = initial_session payload r buffer })
  -- Sessions continue with an upload if no session is live.
  pub uploads : (b : CoreBoard) (steps : List CoreStep) (past back : List (List ℕ)) (last : Option (List ℕ)) (on : CoreBoard)
      (unused buffer : List ℕ) (limits : Limits) (r : DfuSession)
      → CoreEndsPlay b steps past back last (record { board = on; session = NoSession })
      → IsInitialRecord r (host_for_goal (config_setting on.config).functional FetchGoal limits)
      → CoreEndsPlay b steps past back None (record { board = on; session = initial_session unused r buffer })
  -- Sessions continue with an abort of the live session.
  pub aborts : (b : CoreBoard) (steps : List CoreStep) (past back : List (List ℕ)) (last : Option (List ℕ)) (on : CoreBoard)
      (payload : List ℕ) (x x' : CoreHost) → CoreEndsPlay b steps past back last (record { board = on; session = InSession payload x })
      → HostCallResult payload x CoreAbortCall (pos 0) x'
      → CoreEndsPlay b steps past back last (record { board = on; session = InSession payload x' })
  -- Sessions continue with one more event (`CoreEndsStep`).
  pub goes_on : (b : CoreBoard) (steps more : List CoreStep) (past back : List (List ℕ)) (last : Option (List ℕ)) (l l' : CoreEndsLink)
      (answer : Answered) → CoreEndsPlay b steps past back last l → CoreEndsStep l more answer l'
      → CoreEndsPlay b (steps ++ more) past back last l'
  -- Sessions continue with a mark of a trial.
  pub marks : (b b' on : CoreBoard) (steps : List CoreStep) (past back : List (List ℕ)) (last : Option (List ℕ)) (s : CoreSession)
      → CoreEndsPlay b steps past back last (record { board = on; session = s }) → IsMarkedCoreBoard on b'
      → CoreEndsPlay b steps past back last (record { board = b'; session = s })
  -- Sessions continue with the end of a trial at a time at which `CoreTrialMayEnd` allows it.
  pub ends : (b b' on : CoreBoard) (steps : List CoreStep) (past back : List (List ℕ)) (last : Option (List ℕ)) (s : CoreSession)
      (state : State)
      (begins : Bool) (image : List ℕ) → CoreEndsPlay b steps past back last (record { board = on; session = s }) → HasBoardState on state
      → CoreTrialMayEnd s state begins → CoreTrialEnd on begins b' → Active (medium_of_core b') image
      → CoreEndsPlay b steps past (image ∷ back) last (record { board = b'; session = s })
  -- Sessions continue with a copy between two areas.
  pub copies : (b b' on : CoreBoard) (steps : List CoreStep) (past back : List (List ℕ)) (last : Option (List ℕ)) (s : CoreSession)
      → CoreEndsPlay b steps past back last (record { board = on; session = s }) → CoreHomeCopy on b'
      → CoreEndsPlay b steps past back last (record { board = b'; session = s })
