-- Effects of the functions that make up a play.
use Rattle.std.specs.Prelude.{◌≡◌, ℕ, IsTrue, List, Option, Some, None, Result, Ok, Err}
use Rattle.dfu_suffix.specs.Grammar.{Content}
use Rattle.dfu_device.specs.Setting.{Setting}
use Rattle.dfu_host.specs.declared.limits.Limits.{Limits}
use Rattle.dfu_host.specs.declared.report.Report.{Report}
use Rattle.dfu_host.specs.declared.report.Report.TheVariants.{Uploaded}
use Rattle.dfu_host.specs.declared.seen.Seen.{Seen}
use Rattle.dfu_host.specs.declared.seen.Seen.TheVariants as seen
use Rattle.dfu_host.specs.Host.{HostState, after, host_for_goal, wants_memory}
use Rattle.dfu_host.specs.Phases.{Phase, Over, OverUploaded, Heard, NoRoom}
use Rattle.dfu_host.specs.Table.{deed}
use Rattle.dfu_sim.specs.declared.offering.Purpose.{Purpose}
use Rattle.dfu_sim.specs.declared.delivery.Response.{Response}
use Rattle.dfu_sim.specs.declared.delivery.Delivery.{Delivery as GivenDelivery}
use Rattle.dfu_sim.specs.declared.delivery.MediumFault.{MediumFault}
use Rattle.dfu_sim.specs.declared.delivery.MediumFault.TheVariants.{NoWrite, CutsPower, FailsWrite, LiesInWrite}
use Rattle.dfu_sim.specs.Delivery.{Delivery}
use Rattle.dfu_sim.specs.declared.fault.LinkFault.{LinkFault}
use Rattle.dfu_sim.specs.declared.fault.LinkFault.TheVariants.{NoHost}
use Rattle.dfu_sim.specs.Happening.{WriteHarm, harmed}
use Rattle.dfu_sim.specs.LinkView.{Session, NoLiveSession, HostSession}
use Rattle.dfu_sim.specs.Opening.{goal_of_purpose}
use Rattle.dfu_sim.specs.Play.{silent, HostOutcome, settled_session}
use Rattle.dfu_sim.specs.Bytes.{HeardOfResponse}
use Rattle.dfu_sim.specs.Refusing.{IsOffered}

-- The specification's delivery for a delivery of the code.
abbrev pub delivery_of_given : GivenDelivery → Delivery
delivery_of_given g = record { handling = g.handling; refusing = g.refusing; back = g.back; harming = g.harming }

-- The specification's harm to a write for a delivery of the code.
abbrev pub harm_at : GivenDelivery → WriteHarm
harm_at g = harmed g.writes g.tear.now

-- Result of a wait or a reset that a host receives: Restarted if the power was cut, otherwise the given result.
abbrev pub seen_after_action : MediumFault → Seen → Seen
seen_after_action NoWrite s = s
seen_after_action CutsPower s = seen.Restarted
seen_after_action FailsWrite s = s
seen_after_action LiesInWrite s = s

-- A host takes the response that reached it. It receives NoRoom only if its phase needs memory.
pub record HostTakesResponse (h : HostState) (b : Response) (out : List ℕ) (h' : HostState) : Type 0 where
  pub heard : Heard
  pub hears : HeardOfResponse (deed h.task h.phase) b out heard
  pub room : heard ≡ NoRoom → IsTrue (wants_memory h.phase)
  pub same : h' ≡ after h heard

-- Report of a host that is done; None for any other host.
abbrev pub report_of_phase : Phase → Option Report
report_of_phase (Over report) = Some report
report_of_phase (OverUploaded kept) = Some Uploaded
report_of_phase phase = None

-- Outcome of a session by its host's phase: it stays live, or ends with its report; without a session there is no report.
abbrev pub session_outcome : Session → HostOutcome
session_outcome NoLiveSession = record { session = NoLiveSession; answer = silent }
session_outcome (HostSession h) = settled_session h h.phase

-- Answer to an abort: no report, or NoHost if no session is live.
abbrev pub abort_answer : Session → Result (Option Report) LinkFault
abort_answer NoLiveSession = Err NoHost
abort_answer (HostSession h) = Ok None

-- The host begins a session for the payload of a file that was offered for a purpose to a device with this setting, which accepts the file.
pub record SessionOpened (s : Setting) (purpose : Purpose) (file : List ℕ) (limits : Limits) (h : HostState) : Type 0 where
  pub content : Content
  pub offered : IsOffered s purpose file content.payload
  pub host : h ≡ host_for_goal s.functional (goal_of_purpose purpose content.payload) limits
