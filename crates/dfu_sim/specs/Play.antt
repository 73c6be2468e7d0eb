-- The table of fates: an event of the link changes the device by the device table and the host by the host table.
use Rattle.std.specs.Prelude.{◌≡◌, ℕ, ◌<◌, Bool, true, false, if◌then◌else◌, List, length, Option, Some, None}
use Rattle.dfu_host.specs.declared.report.Report.{Report}
use Rattle.dfu_host.specs.declared.report.Report.TheVariants.{Uploaded}
use Rattle.dfu_device.specs.declared.objection.Objection.{Objection}
use Rattle.dfu_device.specs.Stage.{Request, Dnload, Reply, Ack, StatusOf, StateOf, Data, Stall, Profile, Stage}
use Rattle.dfu_device.specs.Table.{Plan, error_plan, has_no_bytes, plan, objection_code, may_close, refuse_stage}
use Rattle.dfu_device.specs.Outcome.{Situation, Luck, Works, plan_outcome, handled, situation_after_ms, after_reset, situation_after_power}
use Rattle.dfu_device.specs.Rows.{request_for_table}
use Rattle.dfu_host.specs.Phases.{FetchGoal, Phase, Fetch, Over, OverUploaded, Deed, Send, Wait, Reset, Done, Heard, Acked, Status, StateIs, Part, NoRoom, Stalled, Nothing, Waited, WasReset, Restarted}
use Rattle.dfu_host.specs.Table.{deed}
use Rattle.dfu_host.specs.Host.{HostState, after, aborted_host as host_aborted}
use Rattle.dfu_sim.specs.Opening.{goal_of_purpose, opened}
use Rattle.dfu_sim.specs.Session.{Kind, OfferKind, UploadKind, AbortKind, TimeKind, RestartKind, RefusalKind, ActionKind}
use Rattle.dfu_sim.specs.Happening.{Fate, Happening, Offers, Uploads, Aborts, Goes, Passes, Resets, Cuts, Refuses}
use Rattle.dfu_sim.specs.declared.delivery.Handled.{Handled}
use Rattle.dfu_sim.specs.declared.delivery.Handled.TheVariants.{Unseen, Once, Again, Late}
use Rattle.dfu_sim.specs.declared.delivery.MediumFault.{MediumFault}
use Rattle.dfu_sim.specs.declared.delivery.MediumFault.TheVariants.{NoWrite, CutsPower, FailsWrite, LiesInWrite}
use Rattle.dfu_sim.specs.Delivery.{Delivery, delivery_of}
use Rattle.dfu_sim.specs.LinkView.{Session, NoLiveSession, HostSession}

-- Kinds of events. The bytes of an offer are its payload.

-- Kind of an event for the session machine.
abbrev pub kind_of : Happening → Kind
kind_of (Offers purpose payload limits) = OfferKind payload
kind_of (Uploads limits) = UploadKind
kind_of Aborts = AbortKind
kind_of (Goes fate harm) = ActionKind
kind_of (Passes ms) = TimeKind
kind_of Resets = RestartKind
kind_of Cuts = RestartKind
kind_of (Refuses why) = RefusalKind

-- Definitions of the link, and of the results of its events.

-- The link: a device in its situation, and the live session. Uploaded bytes belong to the answer.
pub record Link : Type 0 where
  pub device : Situation
  pub session : Session

-- Answer of an event: its report, if there is one, and the uploaded bytes if the report is Uploaded.
pub record Answered : Type 0 where
  pub report : Option Report
  pub gave : Option (List ℕ)

-- Answer without a report.
abbrev pub silent : Answered
silent = record { report = None; gave = None }

-- Bytes of the last upload, after an answer.
abbrev pub uploaded_after : Option (List ℕ) → List ℕ → List ℕ
uploaded_after None up = up
uploaded_after (Some bytes) up = bytes

-- Result of an event: the link after it, and its answer.
pub record PlayResult : Type 0 where
  pub link : Link
  pub answer : Answered

-- Session after its host took a result, with the answer: the session stays live, or it ended with a report.
pub record HostOutcome : Type 0 where
  pub session : Session
  pub answer : Answered

-- If the host is done, the session ends with the host's report, and an upload also with its bytes; otherwise the session stays live.
abbrev pub settled_session : HostState → Phase → HostOutcome
settled_session h (Over report) = record { session = NoLiveSession; answer = record { report = Some report; gave = None } }
settled_session h (OverUploaded kept) = record { session = NoLiveSession; answer = record { report = Some Uploaded; gave = Some kept } }
settled_session h phase = record { session = HostSession h; answer = silent }

-- Outcome of a host that takes a result, by the host's table.
abbrev pub host_outcome : HostState → Heard → HostOutcome
host_outcome h heard = let h' = after h heard in settled_session h' h'.phase

-- Outcome of a session after a restart of the device that no action of the host caused. A live host receives Restarted.
abbrev pub notify_restart : Session → HostOutcome
notify_restart NoLiveSession = record { session = NoLiveSession; answer = silent }
notify_restart (HostSession h) = host_outcome h Restarted

-- Session after an abort.
abbrev pub session_aborted : Session → Session
session_aborted NoLiveSession = NoLiveSession
session_aborted (HostSession h) = HostSession (host_aborted h)

-- Definitions for the result of one action.

-- Meaning of a device's reply for a host. By the law `understood`, a host reads the bytes of the reply with this meaning.
abbrev pub heard_of_reply : Reply → Heard
heard_of_reply Ack = Acked
heard_of_reply (StatusOf code poll state) = Status code poll state
heard_of_reply (StateOf state) = StateIs state
heard_of_reply (Data bytes) = Part bytes
heard_of_reply Stall = Stalled

-- Meaning of a result, if there is memory for a part of an upload or not: without it, a part means NoRoom. Other meanings don't change.
abbrev pub heard_with_room : Heard → (room : Bool) → Heard
heard_with_room (Part bytes) false = NoRoom
heard_with_room heard room = heard

-- True if the phase has memory for the bytes that it keeps. Only a phase that fetches a part of an upload needs memory.
abbrev pub has_room : Phase → (room : Bool) → Bool
has_room (Fetch k kept) room = room
has_room phase room = true

-- True if the request closes the download of a stage: a DNLOAD of no bytes, once at least `least` bytes were taken.
abbrev pub request_closes : (least : ℕ) → Stage → Request → Bool
request_closes least stage (Dnload number body) = if has_no_bytes body then may_close least stage else false
request_closes least stage request = false

-- Plan of a request: the table's plan, or an error with the objection's code if the request closes a download and the program refuses the
-- image.
abbrev pub plan_with_refusal : Option Objection → Profile → List ℕ → Stage → Request → Plan
plan_with_refusal None c image stage r = plan c image stage r
plan_with_refusal (Some why) c image stage r = if request_closes c.least stage r then error_plan (objection_code why) else plan c image
    stage r

-- Result of an action: the device after it, and the result that the host receives.
pub record ActionResult : Type 0 where
  pub device : Situation
  pub heard : Heard

-- Result of a request with a plan of the table, if the host gets the answer. The first luck is that of the request's first handling, and
-- the second that of its second handling, or of the time that passes after it.
abbrev pub reached : Profile → Situation → Request → Plan → Handled → (first second : Luck) → ActionResult
reached c s r p Unseen l k = record { device = s; heard = Nothing }
reached c s r p Once l k = let o = plan_outcome s.image p l in record { device = o.after; heard = heard_of_reply o.reply }
reached c s r p Again l k = let o = handled c (plan_outcome s.image p l).after r k in record {
  device = o.after;
  heard = heard_of_reply
      o.reply;
}
reached c s r p (Late ms) l k = let o = plan_outcome s.image p l in record {
  device = situation_after_ms c o.after ms k;
  heard =
      heard_of_reply o.reply;
}

-- Meaning of an answer that the host gets, or Nothing if the answer is lost.
abbrev pub heard_back : Bool → Heard → Heard
heard_back true heard = heard
heard_back false heard = Nothing

-- Meaning that the host receives after an action: Restarted if the power was cut, otherwise the given meaning.
abbrev pub heard_after_action : MediumFault → Heard → Heard
heard_after_action NoWrite heard = heard
heard_after_action CutsPower heard = Restarted
heard_after_action FailsWrite heard = heard
heard_after_action LiesInWrite heard = heard

-- Situation after an action: that of a loss of power if the power was cut, otherwise the given situation.
abbrev pub situation_after_harm : MediumFault → Situation → Situation
situation_after_harm NoWrite s = s
situation_after_harm CutsPower s = situation_after_power s
situation_after_harm FailsWrite s = s
situation_after_harm LiesInWrite s = s

-- Result of an action after the harm to a write: a cut of the power restarts the device, and the host receives Restarted.
abbrev pub action_end_by_harm : MediumFault → ActionResult → ActionResult
action_end_by_harm harming d = record { device = situation_after_harm harming d.device; heard = heard_after_action harming d.heard }

-- Number of milliseconds that pass in a wait of `ms`. A slip replaces the time of the wait.
abbrev pub wait_by_handling : Handled → ℕ → ℕ
wait_by_handling Unseen ms = ms
wait_by_handling Once ms = ms
wait_by_handling Again ms = ms
wait_by_handling (Late other) ms = other

-- Situation after a reset of the bus and the time of a slip, if there is one.
abbrev pub situation_after_slip : Profile → Situation → Handled → Luck → Situation
situation_after_slip c s Unseen l = s
situation_after_slip c s Once l = s
situation_after_slip c s Again l = s
situation_after_slip c s (Late ms) l = situation_after_ms c s ms l

-- Result of a request with a plan of the table, by its delivery.
abbrev pub request_result_of_plan : Profile → Situation → Request → Plan → Delivery → (first second : Luck) → ActionResult
request_result_of_plan c s r p delivery l k = let d = reached c s r p delivery.handling l k in
    action_end_by_harm delivery.harming (record { device = d.device; heard = heard_back delivery.back d.heard })

-- Result of a request by its delivery. If the request is handled twice, the program refuses an image only the first time.
abbrev pub send_result : Profile → Situation → Request → Delivery → (first second : Luck) → ActionResult
send_result c s r delivery l k = request_result_of_plan c s r (plan_with_refusal delivery.refusing c s.image s.stage r) delivery l k

-- Result of a wait by its delivery.
abbrev pub waited : Profile → Situation → ℕ → Delivery → Luck → ActionResult
waited c s ms delivery l = action_end_by_harm delivery.harming (record {
  device = situation_after_ms c s (wait_by_handling
      delivery.handling ms) l;
  heard = Waited;
})

-- Result of the host's reset of the bus, by its delivery.
abbrev pub bus_reset : Profile → Situation → Delivery → Luck → ActionResult
bus_reset c s delivery l = action_end_by_harm delivery.harming (record {
  device = situation_after_slip c (after_reset s) delivery.handling
      l;
  heard = WasReset;
})

-- Result of an action of the host by its delivery. A host that is done has no action.
abbrev pub action_result : Profile → Situation → Deed → Delivery → (first second : Luck) → ActionResult
action_result c s (Send q body) delivery l k = send_result c s (request_for_table q body) delivery l k
action_result c s (Wait ms) delivery l k = waited c s ms delivery l
action_result c s Reset delivery l k = bus_reset c s delivery l
action_result c s (Done report) delivery l k = record { device = s; heard = Nothing }

-- Definitions for the results of events.

-- Result of the host's next action, by its fate; the host takes the result that it receives. Without a live session nothing changes.
abbrev pub next_action_result : Profile → Link → Session → Fate → (first second : Luck) → (room : Bool) → PlayResult
next_action_result c w NoLiveSession fate l k room = record { link = w; answer = silent }
next_action_result c w (HostSession h) fate l k room =
    let d = action_result c w.device (deed h.task h.phase) (delivery_of fate) l k in
    let t = host_outcome h (heard_with_room d.heard (has_room h.phase room)) in
    record { link = record { device = d.device; session = t.session }; answer = t.answer }

-- Result of a restart that no action of the host caused: the device is in this situation, and a live host receives Restarted.
abbrev pub restart_play_result : Situation → Session → PlayResult
restart_play_result s session = let t = notify_restart session in record {
  link = record { device = s; session = t.session };
  answer =
      t.answer;
}

-- Situation after the device's program refused the image of the closed download, if a download is closed.
abbrev pub situation_after_refusal : Objection → Situation → Situation
situation_after_refusal why s = record { image = s.image; stage = refuse_stage why s.stage }

-- Result of each event. The luck of the medium represents the harm to a write of an action. Between actions the medium is not armed, so it
-- works while time passes.
abbrev pub play_of_event : Profile → Link → Happening → (first second : Luck) → (room : Bool) → PlayResult
play_of_event c w (Offers purpose payload limits) l k room = record {
  link = record { device = w.device; session = opened c (goal_of_purpose purpose payload) limits.actions limits.restarts };
  answer = silent;
}
play_of_event c w (Uploads limits) l k room =
    record { link = record { device = w.device; session = opened c FetchGoal limits.actions limits.restarts }; answer = silent }
play_of_event c w Aborts l k room = record { link = record { device = w.device; session = session_aborted w.session }; answer = silent }
play_of_event c w (Goes fate harm) l k room = next_action_result c w w.session fate l k room
play_of_event c w (Passes ms) l k room = record {
  link = record { device = situation_after_ms c w.device ms Works; session = w.session };
  answer = silent;
}
play_of_event c w Resets l k room = restart_play_result (after_reset w.device) w.session
play_of_event c w Cuts l k room = restart_play_result (situation_after_power w.device) w.session
play_of_event c w (Refuses why) l k room = record {
  link = record { device = situation_after_refusal why w.device; session = w.session };
  answer = silent;
}

-- The event may happen: a session begins only while none is live, no offer is empty, and an abort and an action need a live session.
abbrev pub MayHappen : Session → Happening → Type 0
MayHappen NoLiveSession (Offers purpose payload limits) = 0 < length payload
MayHappen NoLiveSession (Uploads limits) = Unit {0}
MayHappen NoLiveSession Aborts = ⊥
MayHappen NoLiveSession (Goes fate harm) = ⊥
MayHappen NoLiveSession (Passes ms) = Unit {0}
MayHappen NoLiveSession Resets = Unit {0}
MayHappen NoLiveSession Cuts = Unit {0}
MayHappen NoLiveSession (Refuses why) = Unit {0}
MayHappen (HostSession h) (Offers purpose payload limits) = ⊥
MayHappen (HostSession h) (Uploads limits) = ⊥
MayHappen (HostSession h) Aborts = Unit {0}
MayHappen (HostSession h) (Goes fate harm) = Unit {0}
MayHappen (HostSession h) (Passes ms) = Unit {0}
MayHappen (HostSession h) Resets = Unit {0}
MayHappen (HostSession h) Cuts = Unit {0}
MayHappen (HostSession h) (Refuses why) = Unit {0}

-- A play: an event that may happen, with some luck of the medium, and with or without memory for a part of an upload.
pub record Play (c : Profile) (w : Link) (event : Happening) (w' : Link) (answer : Answered) : Type 0 where
  pub allowed : MayHappen w.session event
  pub first : Luck
  pub second : Luck
  pub room : Bool
  pub same : play_of_event c w event first second room ≡ record { link = w'; answer = answer }
