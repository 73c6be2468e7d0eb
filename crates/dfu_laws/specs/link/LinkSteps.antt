-- Events of a board and of a host's session over a link.
use Rattle.std.specs.Prelude.{◌≡◌, ◌⊎◌, ℕ, Bool, false, List, [], ◌∷◌, ◌++◌, IsTrue}
use Rattle.dfu_wire.specs.declared.requests.Request.{Request}
use Rattle.dfu_device.specs.declared.answer.Answer.{Answer}
use Rattle.dfu_device.specs.declared.objection.Objection.{Objection}
use Rattle.dfu_host.specs.Phases.{Enter, Deed, Send, Wait, Reset, Heard, NoRoom, Nothing as NothingHeard, Waited, WasReset}
use Rattle.dfu_host.specs.Table.{deed}
use Rattle.dfu_host.specs.Host.{HostState, wants_memory}
use Rattle.dfu_host.specs.Wire.{IsSetupOf}
use Rattle.dfu_sim.specs.LinkView.{Session, HostSession}
use Rattle.dfu_sim.specs.Bytes.{HeardOfAnswer}
use Rattle.dfu_sim.specs.Play.{Answered, silent, HostOutcome, host_outcome, notify_restart}
use Rattle.dfu_laws.specs.board.Board.{Board, Event, Handle, Elapse, UsbReset, Refuse, Restart, BoardReply, Answers, BoardStep}
use Rattle.dfu_laws.specs.board.Happens.{IsRun}
use Rattle.dfu_laws.specs.link.Calls.{CallServed, CallReaches, ImageRefusedAtClose, CallCutOff}
use Rattle.dfu_laws.specs.link.Marks.{IsMarkedBoard}

-- A board and its live session.
pub record BoardLink : Type 0 where
  pub board : Board
  pub session : Session

-- The host receives the answer that the board returns, or nothing because the link loses it.
abbrev pub HeardOfReply : Deed → BoardReply → Heard → Type 0
HeardOfReply d (Answers a out) heard = (heard ≡ NothingHeard) ⊎ HeardOfAnswer d a out heard
HeardOfReply d says heard = heard ≡ NothingHeard

-- A call may be under way at a reset of the bus or a loss of power: the program's call of `elapse`, or the host's request.
abbrev pub CallMayBeUnderWay : Session → Event → Type 0
CallMayBeUnderWay session (Elapse ms) = Unit {0}
CallMayBeUnderWay (HostSession h) (Handle setup body) = (q : Request) × (deed h.task h.phase ≡ Send q body) × IsSetupOf q setup
CallMayBeUnderWay session call = ⊥

-- Link with this board, and with the session that remains after the host's outcome.
abbrev pub link_after_outcome : Board → HostOutcome → BoardLink
link_after_outcome b t = record { board = b; session = t.session }

-- The next event over a link, with the steps of the board and the answer to the host's program: a report or none, and with Uploaded its
-- bytes.
pub data BoardLinkStep (l : BoardLink) : List BoardStep → Answered → BoardLink → Type 0 where
  -- The board's program reports with a call of `elapse` that `ms` milliseconds passed.
  passes : {ms : ℕ} {steps : List BoardStep} {a : Answer} {out : List ℕ} {b' : Board} → CallServed l.board (Elapse ms) steps a out b'
      → BoardLinkStep l steps silent (record { board = b'; session = l.session })
  -- The host sends a setup packet for its request, and receives the result. If the request closes a download, the board's program may
  -- refuse the image. The result NoRoom is possible only in a phase in which the host needs memory.
  sends : {h : HostState} {q : Request} {setup body : List ℕ} {steps : List BoardStep} {says : BoardReply} {b' : Board} {heard : Heard}
      → l.session ≡ HostSession h → deed h.task h.phase ≡ Send q body → IsSetupOf q setup
      → CallReaches (Handle setup body) l.board steps says b' ⊎ ((why : Objection)
      × ImageRefusedAtClose setup body why l.board steps says b')
      → HeardOfReply (Send q body) says heard → (heard ≡ NoRoom → IsTrue (wants_memory h.phase))
      → BoardLinkStep l steps (host_outcome h heard).answer (link_after_outcome b' (host_outcome h heard))
  -- The board's program refuses the image of a closed download, if there is one.
  refuses : {why : Objection} {steps : List BoardStep} {a : Answer} {out : List ℕ} {b' : Board}
      → CallServed l.board (Refuse why) steps a out b'
      → BoardLinkStep l steps silent (record { board = b'; session = l.session })
  -- The host's wait ends. The board's time passes in the events of `passes`, and may differ from the host's.
  waits : {h : HostState} {ms : ℕ} → l.session ≡ HostSession h → deed h.task h.phase ≡ Wait ms
      → BoardLinkStep l [] (host_outcome h Waited).answer (link_after_outcome l.board (host_outcome h Waited))
  -- The host resets the bus.
  resets : {h : HostState} {steps : List BoardStep} {a : Answer} {out : List ℕ} {b' : Board} → l.session ≡ HostSession h
      → deed h.task h.phase ≡ Reset → CallServed l.board UsbReset steps a out b'
      → BoardLinkStep l steps (host_outcome h WasReset).answer (link_after_outcome b' (host_outcome h WasReset))
  -- The bus is reset by another cause while a call is under way, and the call ends first. A live host receives the reset and no answer.
  is_reset_by_other_cause : {call : Event} {steps more : List BoardStep} {says : BoardReply} {a : Answer} {out : List ℕ} {mid b' : Board}
      → CallMayBeUnderWay l.session call → CallReaches call l.board steps says mid → CallServed mid UsbReset more a out b'
      → BoardLinkStep l (steps ++ more) (notify_restart l.session).answer (link_after_outcome b' (notify_restart l.session))
  -- The power fails and returns while a call is under way. A live host receives the restart and no answer.
  restarts : {call : Event} {steps : List BoardStep} {b' : Board} → CallMayBeUnderWay l.session call → CallCutOff call l.board steps b'
      → BoardLinkStep l steps (notify_restart l.session).answer (link_after_outcome b' (notify_restart l.session))
  -- After DETACH, an application restarts the board, into its bootloader or not. The host receives nothing, and resets or waits next.
  leaves : {h : HostState} {power : BoardStep} {begins : Bool} {b' : Board} → l.session ≡ HostSession h → h.phase ≡ Enter
      → IsRun l.board (power ∷ []) b' → power.event ≡ Restart begins → BoardLinkStep l (power ∷ []) silent (record l { board = b' })
  -- The host resets the bus, and the board restarts in appIDLE. After an application's DETACH, it may also restart into a bootloader. The
  -- host only learns that its reset is complete.
  restarts_at_reset : {h : HostState} {power : BoardStep} {begins : Bool} {b' : Board} → l.session ≡ HostSession h → deed h.task h.phase ≡ Reset
      → (begins ≡ false) ⊎ (h.phase ≡ Enter) → IsRun l.board (power ∷ []) b' → power.event ≡ Restart begins
      → BoardLinkStep l (power ∷ []) (host_outcome h WasReset).answer (link_after_outcome b' (host_outcome h WasReset))
  -- The mark of a trial's start or confirmation is written; the write may be torn or may fail. The host receives nothing.
  marks : {b' : Board} → IsMarkedBoard l.board b' → BoardLinkStep l [] silent (record l { board = b' })
