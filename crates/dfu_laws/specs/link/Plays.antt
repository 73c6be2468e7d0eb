-- Sessions over a link to a board, and the meaning of a host's report for the board. Each law except the last assumes that the board was
-- just powered on when the sessions began, and that its transfer size is at least 1.
use Rattle.std.specs.Prelude.{◌≡◌, ◌⊎◌, ℕ, ◌<◌, Bool, List, [], ◌∷◌, ◌++◌, length, Option, Some, None}
use Rattle.dfu_wire.specs.declared.states.State.TheVariants.{AppIdle}
use Rattle.dfu_slots.specs.Medium.{MediumState}
use Rattle.dfu_slots.specs.Image.{Active}
use Rattle.dfu_host.specs.declared.limits.Limits.{Limits}
use Rattle.dfu_host.specs.Phases.{FetchGoal}
use Rattle.dfu_host.specs.Host.{HostState, host_for_goal, aborted_host}
use Rattle.dfu_sim.specs.declared.offering.Purpose.{Purpose}
use Rattle.dfu_sim.specs.LinkView.{NoLiveSession, HostSession}
use Rattle.dfu_sim.specs.Opening.{goal_of_purpose}
use Rattle.dfu_sim.specs.Play.{Answered}
use Rattle.dfu_sim.specs.Session.{IsOneOf, IsInPlaceReport}
use Rattle.dfu_laws.specs.board.Board.{Board, medium_on, state_on, BoardStep}
use Rattle.dfu_laws.specs.board.Happens.{IsPoweredOn, IsRun}
use Rattle.dfu_laws.specs.board.Slots.{IsInSlot}
use Rattle.dfu_laws.specs.link.LinkSteps.{BoardLink, BoardLinkStep}
use Rattle.dfu_laws.specs.link.Marks.{TrialEnd, IsRunBetweenMarks}
use Rattle.dfu_laws.specs.link.Copies.{HomeCopy}
use Rattle.dfu_laws.specs.link.Trials.{TrialMayEnd}

-- Sessions with a board, one after the other, with all other events between them. The lists are the steps of the board, the payloads
-- offered so far, and the images that were active after the ends of trials. The option is the payload of the last session, or None.
pub data BoardPlays (b : Board) : List BoardStep → List (List ℕ) → List (List ℕ) → Option (List ℕ) → BoardLink → Type 0 where
  -- No session has begun.
  starts : BoardPlays b [] [] [] None (record { board = b; session = NoLiveSession })
  -- A payload is offered, for an installation with or without verification.
  offers : {steps : List BoardStep} {past back : List (List ℕ)} {last : Option (List ℕ)} {l : BoardLink} (purpose : Purpose)
      (payload : List ℕ) (limits : Limits) → BoardPlays b steps past back last l → l.session ≡ NoLiveSession → 0 < length payload
      → BoardPlays b steps (payload ∷ past) back (Some payload)
      (record l { session = HostSession (host_for_goal l.board.asking.config.functional (goal_of_purpose purpose payload) limits) })
  -- An upload begins.
  uploads : {steps : List BoardStep} {past back : List (List ℕ)} {last : Option (List ℕ)} {l : BoardLink} (limits : Limits)
      → BoardPlays b steps past back last l → l.session ≡ NoLiveSession → BoardPlays b steps past back None
      (record l { session = HostSession (host_for_goal l.board.asking.config.functional FetchGoal limits) })
  -- The live session is aborted.
  aborts : {steps : List BoardStep} {past back : List (List ℕ)} {last : Option (List ℕ)} {l : BoardLink} {h : HostState}
      → BoardPlays b steps past back last l → l.session ≡ HostSession h
      → BoardPlays b steps past back last (record l { session = HostSession (aborted_host h) })
  -- One more event follows the sessions so far.
  goes_on : {steps more : List BoardStep} {past back : List (List ℕ)} {last : Option (List ℕ)} {l l' : BoardLink} {answer : Answered}
      → BoardPlays b steps past back last l → BoardLinkStep l more answer l' → BoardPlays b (steps ++ more) past back last l'
  -- A trial ends, and this image is active afterwards: the confirmed image, or still the one on trial. The host receives nothing.
  ends : {steps : List BoardStep} {past back : List (List ℕ)} {last : Option (List ℕ)} {l : BoardLink} {b' : Board} {begins : Bool}
      (image : List ℕ) → BoardPlays b steps past back last l → TrialMayEnd l.session (state_on l.board) begins → TrialEnd l.board begins b'
      → Active (medium_on b') image → BoardPlays b steps past (image ∷ back) last (record { board = b'; session = l.session })
  -- On a board with two areas, the copy of the active image runs after a restart. The host receives nothing.
  copies : {steps : List BoardStep} {past back : List (List ℕ)} {last : Option (List ℕ)} {l : BoardLink} {b' : Board}
      → BoardPlays b steps past back last l → HomeCopy l.board b'
      → BoardPlays b steps past back last (record { board = b'; session = l.session })

-- The payload of the last session is the active image of the board's flash, and the board is in appIDLE.
pub record IsPayloadInPlace (last : Option (List ℕ)) (b : Board) : Type 0 where
  pub payload : List ℕ
  pub offered : last ≡ Some payload
  pub active : Active (medium_on b) payload
  pub state : state_on b ≡ AppIdle

-- If the host reports Installed or Verified, the payload of the last session is the active image, and the board is in appIDLE.
abbrev pub ReportMeansPayloadInPlace : Type 0
ReportMeansPayloadInPlace = (b : Board) (steps more : List BoardStep) (past back : List (List ℕ)) (last : Option (List ℕ)) (l l' :
    BoardLink)
    (answer : Answered) → IsPoweredOn b → 0 < b.asking.config.functional.transfer → BoardPlays b steps past back last l
    → BoardLinkStep l more answer l' → IsInPlaceReport answer.report → IsPayloadInPlace last l'.board

-- The bytes of the report Uploaded are the active image.
abbrev pub UploadIsActiveImage : Type 0
UploadIsActiveImage = (b : Board) (steps more : List BoardStep) (past back : List (List ℕ)) (last : Option (List ℕ)) (l l' : BoardLink)
    (answer : Answered) (bytes : List ℕ) → IsPoweredOn b → 0 < b.asking.config.functional.transfer → BoardPlays b steps past back last l
    → BoardLinkStep l more answer l' → answer.gave ≡ Some bytes → Active (medium_on l'.board) bytes

-- The active image of a board's flash is the given one, or a payload that was offered. It may also be an image that was in a slot of the
-- medium m, and became active after the end of a trial.
pub record HasKnownActiveImage (m : MediumState) (image : List ℕ) (past back : List (List ℕ)) (b : Board) : Type 0 where
  pub now : List ℕ
  pub active : Active (medium_on b) now
  pub known : ((now ≡ image) ⊎ (IsInSlot m now × IsOneOf now back)) ⊎ IsOneOf now past

-- The active image is the image that was active at first, or a payload that was offered so far. After the end of a trial it may also be the
-- other image that was in a slot at first.
abbrev pub ActiveImageIsKnown : Type 0
ActiveImageIsKnown = (b : Board) (steps : List BoardStep) (past back : List (List ℕ)) (last : Option (List ℕ)) (l : BoardLink) (image :
    List ℕ)
    → IsPoweredOn b → 0 < b.asking.config.functional.transfer → Active (medium_on b) image → BoardPlays b steps past back last l
    → HasKnownActiveImage (medium_on b) image past back l.board

-- During the next event, even between two writes of a call, the active image is still one that `HasKnownActiveImage` allows.
abbrev pub ActiveImageIsKnownWithin : Type 0
ActiveImageIsKnownWithin = (b mid : Board) (steps front rest : List BoardStep) (past back : List (List ℕ)) (last : Option (List ℕ))
    (l l' : BoardLink) (answer : Answered) (image : List ℕ) → IsPoweredOn b → 0 < b.asking.config.functional.transfer
    → Active (medium_on b) image → BoardPlays b steps past back last l → BoardLinkStep l (front ++ rest) answer l' → IsRun l.board front mid
    → HasKnownActiveImage (medium_on b) image past back mid

-- The steps of sessions with a board are runs between marks, ends of trials and copies. They are one run if each step begins where the
-- previous one ended. Therefore the laws of runs hold for sessions.
abbrev pub PlaysAreRuns : Type 0
PlaysAreRuns = (b : Board) (steps : List BoardStep) (past back : List (List ℕ)) (last : Option (List ℕ)) (l : BoardLink)
    → BoardPlays b steps past back last l → IsRunBetweenMarks b steps l.board
