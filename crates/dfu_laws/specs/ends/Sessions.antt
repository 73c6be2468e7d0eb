-- A session that a program in C runs: the results of the calls on its record, and their changes to the record.
use Rattle.std.specs.Prelude.{◌≡◌, ◌≢◌, ◌⊎◌, ℕ, pos, Bool, List, take, drop, Option, Some, None}
use Rattle.std.specs.Borrow.{Bor}
use Rattle.dfu_wire.specs.declared.states.State.{State}
use Rattle.dfu_device.specs.declared.answer.Answer.TheVariants as answer
use Rattle.dfu_host.specs.declared.report.Report.{Report}
use Rattle.dfu_host.specs.declared.report.Report.TheVariants.{Uploaded}
use Rattle.dfu_host.specs.Phases.{Enter}
use Rattle.dfu_host.specs.Host.{HostState}
use Rattle.dfu_sim.specs.LinkView.{Session, NoLiveSession, HostSession}
use Rattle.dfu_sim.specs.Play.{Answered, silent}
use Rattle.dfu_host_core.specs.declared.action.DfuAction.{DfuAction}
use Rattle.dfu_host_core.specs.ReportNumbers.{report_at}
use Rattle.dfu_host_core.specs.Calls.{IsNextAction}
use Rattle.dfu_host_core.specs.Runs.{CoreHost, CoreHostMatches, CoreTakeCall, HostCallResult}
use Rattle.dfu_laws.specs.link.Trials.{TrialMayEnd}
use Rattle.dfu_laws.specs.board.Board.{Event, Elapse, Handle, BoardReply, Answers}

-- Live session in C: none, or a record with its buffer and its payload.
pub data CoreSession : Type 0 where
  -- No session is live.
  NoSession : CoreSession
  -- A session with this record and this payload is live.
  InSession : (payload : List ℕ) (x : CoreHost) → CoreSession

-- The session in C is the session of a host.
abbrev pub IsSessionOf : CoreSession → Session → Type 0
IsSessionOf NoSession NoLiveSession = Unit {0}
IsSessionOf (InSession payload x) (HostSession h) = CoreHostMatches payload x h
IsSessionOf s session = ⊥

-- dfu_host_next returns 0 and the action, for the payload at any address in memory.
abbrev pub WantsAction : (payload : List ℕ) → CoreHost → DfuAction → Type 0
WantsAction payload x a = (slice : Bor (List ℕ)) × (slice.now ≡ payload) × IsNextAction x.kept slice a

-- The session is in phase Enter: after a DETACH it resets the bus or waits.
abbrev pub IsInEnterPhase : (payload : List ℕ) → CoreHost → Type 0
IsInEnterPhase payload x = (h : HostState) → CoreHostMatches payload x h → h.phase ≡ Enter

-- Bytes of the payload that an action sends.
abbrev pub sent_body : (payload : List ℕ) → DfuAction → List ℕ
sent_body payload a = take a.length (drop a.from payload)

-- dfu_host_take returns 0 for the number `seen` of a result and its bytes.
abbrev pub HostTakeOk : (payload : List ℕ) → CoreHost → (seen : ℕ) → (bytes : List ℕ) → CoreHost → Type 0
HostTakeOk payload x seen bytes x' = HostCallResult payload x (CoreTakeCall seen bytes) (pos 0) x'

-- Number and bytes that the program passes to dfu_host_take for a reply: 0 for an acknowledgement, 1 for an answer with its bytes, 2 for a
-- stall. The number 3 means that no reply arrived. It is allowed for each reply, because the link may lose the reply.
abbrev pub SeenOfReply : BoardReply → (seen : ℕ) → (bytes : List ℕ) → Type 0
SeenOfReply (Answers answer.Ack out) seen bytes = (seen ≡ 0) ⊎ (seen ≡ 3)
SeenOfReply (Answers answer.Bytes out) seen bytes = ((seen ≡ 1) × (bytes ≡ out)) ⊎ (seen ≡ 3)
SeenOfReply (Answers answer.Stall out) seen bytes = (seen ≡ 2) ⊎ (seen ≡ 3)
SeenOfReply says seen bytes = seen ≡ 3

-- Bytes that a report delivers: the contents of the buffer for Uploaded, and none for any other report.
abbrev pub bytes_of_report : Report → List ℕ → Option (List ℕ)
bytes_of_report Uploaded bytes = Some bytes
bytes_of_report report bytes = None

-- After dfu_host_take, dfu_host_next reports that the session continues, or that it is over, with its report.
pub data SessionSettles (payload : List ℕ) (x : CoreHost) : Answered → CoreSession → Type 0 where
  -- The action is not the end, and the session continues.
  stays_live : (a : DfuAction) → WantsAction payload x a → a.what ≢ 3 → SessionSettles payload x silent (InSession payload x)
  -- The action is the end (number 3), and has a report.
  is_over : (a : DfuAction) (report : Report) → WantsAction payload x a → a.what ≡ 3 → report_at a.value a.code ≡ Some report
      → SessionSettles payload x (record { report = Some report; gave = bytes_of_report report (take x.kept.kept x.buffer) }) NoSession

-- The program reports a restart of the device to the live session, with the number 6.
pub data RestartReported : CoreSession → Answered → CoreSession → Type 0 where
  -- No session is live, and there is no report.
  no_session_hears_restart : RestartReported NoSession silent NoSession
  -- The program passes the number 6 to dfu_host_take.
  session_hears_restart : {payload bytes : List ℕ} {x x' : CoreHost} {said : Answered} {s' : CoreSession} → HostTakeOk payload x 6 bytes x'
      → SessionSettles payload x' said s' → RestartReported (InSession payload x) said s'

-- A call of a board may be under way at a reset of the bus or a loss of power: the program's call of `elapse`, or the session's request.
abbrev pub CoreCallMayBeUnderWay : CoreSession → Event → Type 0
CoreCallMayBeUnderWay s (Elapse ms) = Unit {0}
CoreCallMayBeUnderWay (InSession payload x) (Handle setup body) = (a : DfuAction) × WantsAction payload x a × (a.what ≡ 0) × (setup
    ≡ a.setup)
    × (body ≡ sent_body payload a)
CoreCallMayBeUnderWay s call = ⊥

-- A trial may end with a session in C if it may end with the host of that session.
abbrev pub CoreTrialMayEnd : CoreSession → State → (begins : Bool) → Type 0
CoreTrialMayEnd NoSession state begins = Unit {0}
CoreTrialMayEnd (InSession payload x) state begins = (h : HostState) → CoreHostMatches payload x h → TrialMayEnd (HostSession h) state begins
