-- Events of a board and of a session in C over a link, as calls on the session's record.
use Rattle.std.specs.Prelude.{◌≡◌, ◌⊎◌, ℕ, Bool, false, List, [], ◌∷◌, ◌++◌}
use Rattle.dfu_device.specs.declared.answer.Answer.{Answer}
use Rattle.dfu_device.specs.declared.objection.Objection.{Objection}
use Rattle.dfu_sim.specs.Play.{Answered, silent}
use Rattle.dfu_host_core.specs.declared.action.DfuAction.{DfuAction}
use Rattle.dfu_host_core.specs.Runs.{CoreHost}
use Rattle.dfu_laws.specs.board.Board.{Board, Event, Handle, Elapse, UsbReset, Refuse, Restart, BoardReply, BoardStep}
use Rattle.dfu_laws.specs.board.Happens.{IsRun}
use Rattle.dfu_laws.specs.link.Calls.{CallServed, CallReaches, ImageRefusedAtClose, CallCutOff}
use Rattle.dfu_laws.specs.link.Marks.{IsMarkedBoard}
use Rattle.dfu_laws.specs.ends.Sessions.{CoreSession, InSession, WantsAction, IsInEnterPhase, sent_body, HostTakeOk, SeenOfReply, SessionSettles, RestartReported, CoreCallMayBeUnderWay}

-- The next event, with the steps of the board, and the report after it. The program carries out the action of dfu_host_next: it sends a
-- request (0), waits (1) or resets the bus (2). Then it passes the result to dfu_host_take: the number of the reply, 4 after a wait, or 5
-- after a reset.
pub data EndsStep (s : CoreSession) (b : Board) : List BoardStep → Answered → CoreSession → Board → Type 0 where
  -- The board's program reports with a call of `elapse` that `ms` milliseconds passed.
  time_passes : {ms : ℕ} {steps : List BoardStep} {a : Answer} {out : List ℕ} {b' : Board} → CallServed b (Elapse ms) steps a out b'
      → EndsStep s b steps silent s b'
  -- The program sends the session's request to the board: the setup of the action, and the part of the payload that the action names.
  sends_request : {payload bytes : List ℕ} {x x' : CoreHost} {a : DfuAction} {steps : List BoardStep} {says : BoardReply} {b' : Board}
      {seen : ℕ}
      {said : Answered} {s' : CoreSession} → s ≡ InSession payload x → WantsAction payload x a → a.what ≡ 0
      → CallReaches (Handle a.setup (sent_body payload a)) b steps says b' → SeenOfReply says seen bytes
      → HostTakeOk payload x seen bytes x'
      → SessionSettles payload x' said s' → EndsStep s b steps said s' b'
  -- The request closes a download, and the board's program refuses the image.
  close_is_refused : {payload bytes : List ℕ} {x x' : CoreHost} {a : DfuAction} {why : Objection} {steps : List BoardStep} {says :
      BoardReply}
      {b' : Board} {seen : ℕ} {said : Answered} {s' : CoreSession} → s ≡ InSession payload x → WantsAction payload x a → a.what ≡ 0
      → ImageRefusedAtClose a.setup (sent_body payload a) why b steps says b' → SeenOfReply says seen bytes →
      HostTakeOk payload x seen bytes x'
      → SessionSettles payload x' said s' → EndsStep s b steps said s' b'
  -- The board's program refuses the image of a closed download, if there is one.
  refuses_image : {why : Objection} {steps : List BoardStep} {a : Answer} {out : List ℕ} {b' : Board}
      → CallServed b (Refuse why) steps a out b'
      → EndsStep s b steps silent s b'
  -- The session's wait ends.
  wait_is_over : {payload bytes : List ℕ} {x x' : CoreHost} {a : DfuAction} {said : Answered} {s' : CoreSession} → s ≡ InSession payload x
      → WantsAction payload x a → a.what ≡ 1 → HostTakeOk payload x 4 bytes x' → SessionSettles payload x' said s' → EndsStep s b [] said s' b
  -- The session resets the bus.
  resets_bus : {payload bytes : List ℕ} {x x' : CoreHost} {a : DfuAction} {steps : List BoardStep} {answer : Answer} {out : List ℕ}
      {b' : Board} {said : Answered} {s' : CoreSession} → s ≡ InSession payload x → WantsAction payload x a → a.what ≡ 2
      → CallServed b UsbReset steps answer out b' → HostTakeOk payload x 5 bytes x' → SessionSettles payload x' said s'
      → EndsStep s b steps said s' b'
  -- The bus is reset by another cause while a call is under way, and the board ends the call first.
  bus_is_reset : {call : Event} {steps more : List BoardStep} {says : BoardReply} {a : Answer} {out : List ℕ} {mid b' : Board} {said : Answered}
      {s' : CoreSession} → CoreCallMayBeUnderWay s call → CallReaches call b steps says mid → CallServed mid UsbReset more a out b'
      → RestartReported s said s'
      → EndsStep s b (steps ++ more) said s' b'
  -- The power of the board fails and returns while a call is under way.
  board_restarts : {call : Event} {steps : List BoardStep} {b' : Board} {said : Answered} {s' : CoreSession} → CoreCallMayBeUnderWay s call
      → CallCutOff call b steps b' → RestartReported s said s' → EndsStep s b steps said s' b'
  -- After DETACH, an application restarts the board, into its bootloader or not. The session receives nothing, and resets or waits next.
  leaves_app : {payload : List ℕ} {x : CoreHost} {power : BoardStep} {begins : Bool} {b' : Board} → s ≡ InSession payload x
      → IsInEnterPhase payload x → IsRun b (power ∷ []) b' → power.event ≡ Restart begins → EndsStep s b (power ∷ []) silent s b'
  -- The session resets the bus, and the board restarts in appIDLE. After an application's DETACH, it may also restart into a bootloader.
  -- The session only learns that its reset is complete.
  board_makes_way : {payload bytes : List ℕ} {x x' : CoreHost} {a : DfuAction} {power : BoardStep} {begins : Bool} {b' : Board}
      {said : Answered} {s' : CoreSession} → s ≡ InSession payload x → WantsAction payload x a → a.what ≡ 2
      → (begins ≡ false) ⊎ IsInEnterPhase payload x → IsRun b (power ∷ []) b' → power.event ≡ Restart begins
      → HostTakeOk payload x 5 bytes x'
      → SessionSettles payload x' said s' → EndsStep s b (power ∷ []) said s' b'
  -- The mark of a trial's start or confirmation is written; the write may be torn or may fail. The session receives nothing.
  mark_is_set : {b' : Board} → IsMarkedBoard b b' → EndsStep s b [] silent s b'
