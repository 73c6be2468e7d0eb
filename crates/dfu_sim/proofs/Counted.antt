-- After each event the live session keeps as many bytes as its phase requires (k full parts in the phase Fetch k), and an answer that
-- reports Uploaded has fewer bytes than 65,535 times the transfer size.
use Rattle.std.proofs.Common.{◌≡◌, ℕ, ◌*◌, ◌<◌, List, length, Option, Some, None, Ok, refl, sym, subst}
use Rattle.dfu_host.specs.declared.report.Report.{Report}
use Rattle.dfu_host.specs.declared.report.Report.TheVariants.{Uploaded}
use Rattle.dfu_host.specs.Phases.{Task, Phase, Over, OverUploaded, Heard, Restarted}
use Rattle.dfu_host.specs.Host.{HostState, after, host_given_up_in_phase}
use Rattle.dfu_host.specs.Counting.{KeptBytesAreCounted}
use Rattle.dfu_host.specs.CountingLaws.{heard_host_stays_counted}
use Rattle.dfu_host.specs.TaskLaws.{heard_host_keeps_descriptor}
use Rattle.dfu_device.specs.Stage.{Profile}
use Rattle.dfu_device.specs.Outcome.{Situation}
use Rattle.dfu_sim.specs.Delivery.{Delivery}
use Rattle.dfu_sim.specs.Happening.{Happening, Aborts, Goes, Passes, Resets, Cuts, Refuses}
use Rattle.dfu_sim.specs.Play.{Answered, settled_session, host_outcome, notify_restart, session_aborted}
use Rattle.dfu_sim.specs.LinkView.{Session, NoLiveSession, HostSession, LinkView}
use Rattle.dfu_sim.specs.Fact.{SessionFact}
use Rattle.dfu_sim.specs.Bytes.{HappensOnBench, HostActs}
use Rattle.dfu_device.specs.DeviceView.{DeviceView}
use Rattle.dfu_sim.specs.EventResults.{BytesMatchReport, BytesOnlyWithUploaded}
use Rattle.dfu_sim.specs.LinkInvariant.{SendsBytes, SessionIsCounted}

-- An answer has bytes exactly if its report is Uploaded, and the bytes are fewer than 65,535 times the transfer size.
abbrev pub BytesFitReport : (t : ℕ) → Option Report → Option (List ℕ) → Type 0
BytesFitReport t (Some Uploaded) (Some bytes) = length bytes < 65535 * t
BytesFitReport t (Some Uploaded) None = ⊥
BytesFitReport t report (Some bytes) = ⊥
BytesFitReport t report None = Unit {0}

-- An answer has bytes exactly if it reports Uploaded, and the bytes are fewer than 65,535 times the transfer size.
abbrev pub Fits : (t : ℕ) → Answered → Type 0
Fits t answer = BytesFitReport t answer.report answer.gave

-- Lemmas about the bytes of a session that stays live or ends.

-- If a host keeps as many bytes as its phase requires, its session keeps them too, or the session has ended.
settled_session_is_counted : (h : HostState) (phase : Phase) → h.phase ≡ phase → KeptBytesAreCounted h.task phase →
    SessionIsCounted (settled_session h phase).session
settled_session_is_counted h (Over r) e c = tt
settled_session_is_counted h (OverUploaded kept) e c = tt
settled_session_is_counted h phase e c = subst (λ (p : Phase). KeptBytesAreCounted h.task p) (sym e) c

-- A session that ends without uploaded bytes doesn't report Uploaded, so its report fits an answer without bytes.
plain_end_gives_no_bytes : (task : Task) (r : Report) → KeptBytesAreCounted task (Over r) → BytesFitReport task.transfer (Some r) None
plain_end_gives_no_bytes task Uploaded c = elim c [ ]
plain_end_gives_no_bytes task r c = tt

-- If a host keeps as many bytes as its phase requires, the answer of its session has bytes exactly if it reports Uploaded, and the bytes
-- are fewer than 65,535 times the transfer size.
settled_answer_fits : (task : Task) (h : HostState) (phase : Phase) → KeptBytesAreCounted task phase →
    Fits task.transfer (settled_session h phase).answer
settled_answer_fits task h (Over r) c = plain_end_gives_no_bytes task r c
settled_answer_fits task h (OverUploaded kept) c = c.1
settled_answer_fits task h phase c = tt

-- If a host keeps as many bytes as its phase requires, it still does after it receives a result.
pub host_after_is_counted : (h : HostState) (heard : Heard) → 0 < h.task.transfer → KeptBytesAreCounted h.task h.phase
    → SessionIsCounted (HostSession (after h heard))
host_after_is_counted h heard some c = heard_host_stays_counted h heard some c

-- If a session keeps as many bytes as its phase requires, it still does after its host receives a result.
heard_outcome_is_counted : (h : HostState) (heard : Heard) → SendsBytes (HostSession h) → SessionIsCounted (HostSession h) →
    SessionIsCounted (host_outcome h heard).session
heard_outcome_is_counted h heard some c = settled_session_is_counted (after h heard) (after h heard).phase refl (host_after_is_counted h
    heard some c)

-- If a session keeps as many bytes as its phase requires, and its host receives a result, the answer has bytes exactly if it reports
-- Uploaded, and the bytes are fewer than 65,535 times the transfer size.
heard_outcome_fits : (h : HostState) (heard : Heard) → SendsBytes (HostSession h) → SessionIsCounted (HostSession h)
    → Fits h.task.transfer (host_outcome h heard).answer
heard_outcome_fits h heard some c = subst (λ (t : ℕ). Fits t (host_outcome h heard).answer) (heard_host_keeps_descriptor h heard).transfer
    (settled_answer_fits (after h heard).task (after h heard) (after h heard).phase (heard_host_stays_counted h heard some c))

-- If a session keeps as many bytes as its phase requires, it still does after a restart.
restart_outcome_is_counted : (session : Session) → SendsBytes session → SessionIsCounted session
    → SessionIsCounted (notify_restart session).session
restart_outcome_is_counted NoLiveSession some c = tt
restart_outcome_is_counted (HostSession h) some c = heard_outcome_is_counted h Restarted some c

-- If a session keeps as many bytes as its phase requires, the answer to a restart has bytes exactly if it reports Uploaded, and the bytes
-- are fewer than 65,535 times the transfer size.
restart_outcome_fits : (p : Profile) (s : Situation) (session : Session) → SessionFact p s session → SendsBytes session →
    SessionIsCounted session
    → Fits p.transfer (notify_restart session).answer
restart_outcome_fits p s NoLiveSession f some c = tt
restart_outcome_fits p s (HostSession h) f some c =
    subst (λ (n : ℕ). Fits n (host_outcome h Restarted).answer) f.task_is.transfer (heard_outcome_fits h Restarted some c)

-- If a host keeps as many bytes as its phase requires, it still does after an abort.
aborted_host_is_counted : (h : HostState) (phase : Phase) → h.phase ≡ phase → KeptBytesAreCounted h.task phase →
    SessionIsCounted (HostSession (host_given_up_in_phase h phase))
aborted_host_is_counted h (Over r) e c = subst (λ (p : Phase). KeptBytesAreCounted h.task p) (sym e) c
aborted_host_is_counted h (OverUploaded kept) e c = subst (λ (p : Phase). KeptBytesAreCounted h.task p) (sym e) c
aborted_host_is_counted h phase e c = tt

-- If a session keeps as many bytes as its phase requires, it still does after an abort.
aborted_session_is_counted : (session : Session) → SessionIsCounted session → SessionIsCounted (session_aborted session)
aborted_session_is_counted NoLiveSession c = tt
aborted_session_is_counted (HostSession h) c = aborted_host_is_counted h h.phase refl c

-- If the bytes of an answer fit its report, the answer has bytes exactly if the report is Uploaded.
fitting_bytes_match_report : (t : ℕ) (report : Option Report) (gave : Option (List ℕ)) → BytesFitReport t report gave →
    BytesMatchReport report gave
fitting_bytes_match_report t (Some Uploaded) (Some bytes) fits = tt
fitting_bytes_match_report t (Some Uploaded) None fits = elim fits [ ]
fitting_bytes_match_report t report (Some bytes) fits = elim fits [ ]
fitting_bytes_match_report t report None fits = tt

-- If a session keeps as many bytes as its phase requires, and its host receives a result, the answer has bytes exactly if it reports
-- Uploaded.
pub heard_outcome_gives_bytes : (h : HostState) (heard : Heard) → SendsBytes (HostSession h) → SessionIsCounted (HostSession h)
    → BytesOnlyWithUploaded (Ok (host_outcome h heard).answer)
heard_outcome_gives_bytes h heard some c = let answer = (host_outcome h heard).answer in
    fitting_bytes_match_report h.task.transfer answer.report answer.gave (heard_outcome_fits h heard some c)

-- If a session keeps as many bytes as its phase requires, the answer to a restart has bytes exactly if it reports Uploaded.
pub restart_outcome_gives_bytes : (session : Session) → SendsBytes session → SessionIsCounted session
    → BytesOnlyWithUploaded (Ok (notify_restart session).answer)
restart_outcome_gives_bytes NoLiveSession some c = tt
restart_outcome_gives_bytes (HostSession h) some c = heard_outcome_gives_bytes h Restarted some c

-- If a host keeps as many bytes as its phase requires, it still does after it takes the result of its action.
pub acting_host_stays_counted : (delivery : Delivery) (w w' : DeviceView) (h h' : HostState) → SendsBytes (HostSession h) →
    SessionIsCounted (HostSession h)
    → HostActs h delivery w w' h' → SessionIsCounted (HostSession h')
acting_host_stays_counted delivery w w' h h' some c acted = subst (λ (x : HostState). SessionIsCounted (HostSession x)) (sym acted.same)
    (host_after_is_counted h acted.heard some c)

-- Lemmas about the bytes that a session keeps and the bytes of its answer, for each event.

-- If the live session keeps as many bytes as its phase requires, it still does after each event.
pub event_keeps_session_counted : (event : Happening) (b b' : LinkView) (answer : Answered) → SendsBytes b.session
    → SessionIsCounted b.session
    → HappensOnBench event b b' answer → SessionIsCounted b'.session
event_keeps_session_counted Aborts b b' answer some c (e, f) = subst (λ (x : LinkView). SessionIsCounted x.session) (sym e)
    (aborted_session_is_counted b.session c)
event_keeps_session_counted (Goes fate harm) b b' answer some c g = subst SessionIsCounted (sym g.session)
    (heard_outcome_is_counted g.host g.gone.acted.heard (subst SendsBytes g.live some) (subst SessionIsCounted g.live c))
event_keeps_session_counted (Passes ms) b b' answer some c (e, s, n) = subst SessionIsCounted (sym s) c
event_keeps_session_counted Resets b b' answer some c (e, f) = subst (λ (x : LinkView). SessionIsCounted x.session) (sym e)
    (restart_outcome_is_counted b.session some c)
event_keeps_session_counted Cuts b b' answer some c (e, f) = subst (λ (x : LinkView). SessionIsCounted x.session) (sym e)
    (restart_outcome_is_counted b.session some c)
event_keeps_session_counted (Refuses why) b b' answer some c (e, f) = subst (λ (x : LinkView). SessionIsCounted x.session) (sym e) c
event_keeps_session_counted event b b' answer some c h = subst (λ (x : LinkView). SessionIsCounted x.session) (sym h.0) tt

-- If the live session keeps as many bytes as its phase requires, the answer of each event has bytes exactly if it reports Uploaded, and the
-- bytes are fewer than 65,535 times the transfer size.
pub event_answer_fits : (p : Profile) (s : Situation) (event : Happening) (b b' : LinkView) (answer : Answered)
    → SessionFact p s b.session → SendsBytes b.session → SessionIsCounted b.session → HappensOnBench event b b' answer
    → Fits p.transfer answer
event_answer_fits p s (Goes fate harm) b b' answer f some c g =
    let fact = subst (SessionFact p s) g.live f in
    subst (Fits p.transfer) (sym g.answered) (subst
    (λ (n : ℕ). Fits n (host_outcome g.host g.gone.acted.heard).answer) fact.task_is.transfer
    (heard_outcome_fits g.host g.gone.acted.heard (subst SendsBytes g.live some) (subst SessionIsCounted g.live c)))
event_answer_fits p s (Passes ms) b b' answer f some c (e, k, a) = subst (Fits p.transfer) (sym a) tt
event_answer_fits p s Resets b b' answer f some c (e, a) = subst (Fits p.transfer) (sym a) (restart_outcome_fits p s b.session f some c)
event_answer_fits p s Cuts b b' answer f some c (e, a) = subst (Fits p.transfer) (sym a) (restart_outcome_fits p s b.session f some c)
event_answer_fits p s event b b' answer f some c h = subst (Fits p.transfer) (sym h.1) tt
