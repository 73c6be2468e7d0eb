-- Plays in bytes: setups, bodies and answers are bytes, and the device has a medium.
use Rattle.std.specs.Prelude.{◌≡◌, ◌⊎◌, ℕ, Bool, true, false, IsTrue, List, Option, Some, None}
use Rattle.dfu_wire.specs.declared.requests.Request.{Request as Asked}
use Rattle.dfu_slots.specs.Medium.{Fuse}
use Rattle.dfu_slots.specs.Medium.Fuse.{Whole, Armed, Lying}
use Rattle.dfu_slots.specs.StoreView.{store_with_fuse, store_restarted}
use Rattle.dfu_device.specs.declared.answer.Answer.{Answer}
use Rattle.dfu_device.specs.declared.answer.Answer.TheVariants as answer
use Rattle.dfu_device.specs.declared.objection.Objection.{Objection}
use Rattle.dfu_device.specs.Stage.{InAppIdle}
use Rattle.dfu_device.specs.Table.{reset_stage, refuse_stage}
use Rattle.dfu_device.specs.DeviceView.{DeviceView, profile, situation}
use Rattle.dfu_device.specs.Rows.{Handles, Elapses, ClosesDownload, RefusingClose, Row}
use Rattle.dfu_host.specs.Phases.{FetchGoal, Deed, Send, Wait, Reset, Done, Heard, Acked, NoRoom, Stalled, Nothing, Waited, WasReset, Restarted}
use Rattle.dfu_host.specs.Table.{deed}
use Rattle.dfu_host.specs.Host.{HostState, after, wants_memory}
use Rattle.dfu_host.specs.Wire.{IsSetupOf, BytesMeaning}
use Rattle.dfu_sim.specs.declared.delivery.Response.{Response}
use Rattle.dfu_sim.specs.declared.delivery.Response.TheVariants as response
use Rattle.dfu_sim.specs.declared.delivery.Handled.{Handled}
use Rattle.dfu_sim.specs.declared.delivery.Handled.TheVariants.{Unseen, Once, Again, Late}
use Rattle.dfu_sim.specs.declared.delivery.MediumFault.{MediumFault}
use Rattle.dfu_sim.specs.declared.delivery.MediumFault.TheVariants.{NoWrite, CutsPower, FailsWrite, LiesInWrite}
use Rattle.dfu_sim.specs.Delivery.{Delivery, delivery_of}
use Rattle.dfu_sim.specs.Happening.{Fate, WriteHarm, Happening, Offers, Uploads, Aborts, Goes, Passes, Resets, Cuts, Refuses}
use Rattle.dfu_sim.specs.LinkView.{LinkView, Session, HostSession}
use Rattle.dfu_sim.specs.Opening.{goal_of_purpose, opened}
use Rattle.dfu_sim.specs.Play.{heard_after_action, wait_by_handling, Link, Answered, silent, host_outcome, notify_restart, session_aborted, MayHappen}

-- Fuse of the medium in an action: a cut harms the write and all later ones, while a failure or a lie harms one write only.
abbrev pub fuse_of : MediumFault → WriteHarm → Fuse
fuse_of NoWrite harm = Whole
fuse_of CutsPower harm = Armed harm.writes harm.tear true
fuse_of FailsWrite harm = Armed harm.writes harm.tear false
fuse_of LiesInWrite harm = Lying harm.writes harm.tear

-- The device, with this fuse on its medium.
abbrev pub armed_device : DeviceView → Fuse → DeviceView
armed_device w fuse = record w { slots = store_with_fuse w.slots fuse }

-- The device after a power cycle: it is in appIDLE, its medium is disarmed, and bytes that were not committed are lost.
abbrev pub device_after_power_cycle : DeviceView → DeviceView
device_after_power_cycle w = record { config = w.config; slots = store_restarted w.slots Whole; stage = InAppIdle }

-- The device after a reset of the bus.
abbrev pub device_after_bus_reset : DeviceView → DeviceView
device_after_bus_reset w = record w { stage = reset_stage w.stage }

-- The device after its program refused the image of the closed download, if a download is closed.
abbrev pub refused_device : Objection → DeviceView → DeviceView
refused_device why w = record w { stage = refuse_stage why w.stage }

-- A host reads the device's answer and its bytes with the meaning `heard`, by the host's table.
abbrev pub HeardOfAnswer : Deed → Answer → List ℕ → Heard → Type 0
HeardOfAnswer d answer.Ack out heard = heard ≡ Acked
HeardOfAnswer d answer.Stall out heard = heard ≡ Stalled
HeardOfAnswer d answer.Bytes out heard = BytesMeaning d out heard

-- A host reads the response to its request with the meaning `heard`.
abbrev pub HeardOfResponse : Deed → Response → List ℕ → Heard → Type 0
HeardOfResponse d (response.Answered a) out heard = HeardOfAnswer d a out heard
HeardOfResponse d response.Lost out heard = heard ≡ Nothing
HeardOfResponse d response.Restarted out heard = heard ≡ Restarted

-- Result of a setup with its body. If the setup closes a download and the program has an objection, the program refuses the image;
-- otherwise the device handles the setup.
abbrev pub SetupResult : Option Objection → (setup body : List ℕ) → DeviceView → Answer → List ℕ → DeviceView → Type 0
SetupResult None setup body w a out w' = Handles setup body w a out w'
SetupResult (Some why) setup body w a out w' =
    Row w (RefusingClose setup why) a out w' ⊎ ((¬ ClosesDownload setup w) × Handles setup body w a out w')

-- Effect of a request on the device, by the number of times that the device handles it, with the device's last answer. The objection
-- applies only the first time, because no request closes a download twice.
pub data ReachesDevice (refusing : Option Objection) (setup body : List ℕ) : Handled → DeviceView → Response → List ℕ → DeviceView
    → Type 0 where
  unseen : {w : DeviceView} {out : List ℕ} → ReachesDevice refusing setup body Unseen w response.Lost out w
  once : {w w' : DeviceView} {a : Answer} {out : List ℕ} → SetupResult refusing setup body w a out w'
      → ReachesDevice refusing setup body Once w (response.Answered a) out w'
  again : {w w' : DeviceView} {b : Answer} {last : List ℕ} (mid : DeviceView) (a : Answer) (out : List ℕ)
      → SetupResult refusing setup body w a out mid
      → Handles setup body mid b last w' → ReachesDevice refusing setup body Again w (response.Answered b) last w'
  late : {w w' : DeviceView} {a : Answer} {out : List ℕ} {ms : ℕ} (mid : DeviceView) → SetupResult refusing setup body w a out mid
      → Elapses ms mid w'
      → ReachesDevice refusing setup body (Late ms) w (response.Answered a) out w'

-- The response, or Lost if it does not reach the host.
abbrev pub response_if_delivered : Bool → Response → Response
response_if_delivered true b = b
response_if_delivered false b = response.Lost

-- The response, or Restarted if the power was cut.
abbrev pub response_if_powered : MediumFault → Response → Response
response_if_powered NoWrite b = b
response_if_powered CutsPower b = response.Restarted
response_if_powered FailsWrite b = b
response_if_powered LiesInWrite b = b

-- A request is delivered: the device handles it according to the delivery, and the host receives the response that reaches it.
pub record RequestDelivered (q : Asked) (setup body : List ℕ) (delivery : Delivery) (w w' : DeviceView) (heard : Heard) : Type 0 where
  pub came : Response
  pub out : List ℕ
  pub reaches : ReachesDevice delivery.refusing setup body delivery.handling w came out w'
  pub hears : HeardOfResponse (Send q body) (response_if_powered delivery.harming (response_if_delivered delivery.back came)) out heard

-- A wait is delivered: its time passes, and the host receives Waited, or Restarted if the power was cut.
abbrev pub WaitDelivered : ℕ → Delivery → DeviceView → DeviceView → Heard → Type 0
WaitDelivered ms delivery w w' heard = Elapses (wait_by_handling delivery.handling ms) w w' × (heard
    ≡ heard_after_action delivery.harming Waited)

-- The time of a slip, if there is one, passes after a reset of the bus.
abbrev pub SlipsTime : Handled → DeviceView → DeviceView → Type 0
SlipsTime Unseen w w' = w' ≡ w
SlipsTime Once w w' = w' ≡ w
SlipsTime Again w w' = w' ≡ w
SlipsTime (Late ms) w w' = Elapses ms w w'

-- A reset of the bus is delivered: the time of a slip passes after it, and the host receives WasReset, or Restarted if the power was cut.
abbrev pub BusResetDelivered : Delivery → DeviceView → DeviceView → Heard → Type 0
BusResetDelivered delivery w w' heard = SlipsTime delivery.handling (device_after_bus_reset w) w' × (heard
    ≡ heard_after_action delivery.harming WasReset)

-- An action of the host is delivered. A request is delivered as the bytes of its setup. A host that is done has no action.
abbrev pub ActionDelivered : Deed → Delivery → DeviceView → DeviceView → Heard → Type 0
ActionDelivered (Send q body) delivery w w' heard = (setup : List ℕ) × IsSetupOf q setup × RequestDelivered q setup body delivery w w' heard
ActionDelivered (Wait ms) delivery w w' heard = WaitDelivered ms delivery w w' heard
ActionDelivered Reset delivery w w' heard = BusResetDelivered delivery w w' heard
ActionDelivered (Done report) delivery w w' heard = ⊥

-- The device after an action: its medium is disarmed, and if the power was cut, it has restarted.
abbrev pub device_after_action : MediumFault → DeviceView → DeviceView
device_after_action NoWrite w = armed_device w Whole
device_after_action CutsPower w = device_after_power_cycle w
device_after_action FailsWrite w = armed_device w Whole
device_after_action LiesInWrite w = armed_device w Whole

-- The link that a bench shows: its image is read from the medium's bytes.
abbrev pub link_of_bench : LinkView → Link
link_of_bench b = record { device = situation b.device; session = b.session }

-- The host's action is delivered, and the host takes the result that it receives. It receives NoRoom only if its phase needs memory.
pub record HostActs (h : HostState) (delivery : Delivery) (w w' : DeviceView) (h' : HostState) : Type 0 where
  pub heard : Heard
  pub acts : ActionDelivered (deed h.task h.phase) delivery w w' heard
  pub room : heard ≡ NoRoom → IsTrue (wants_memory h.phase)
  pub same : h' ≡ after h heard

-- The host acts while the medium is armed for the action, and the medium is disarmed afterwards.
pub record HostActsArmed (h : HostState) (delivery : Delivery) (harm : WriteHarm) (w w' : DeviceView) (h' : HostState) : Type 0 where
  pub last : DeviceView
  pub acted : HostActs h delivery (armed_device w (fuse_of delivery.harming harm)) last h'
  pub device : w' ≡ device_after_action delivery.harming last

-- The bench's host performs its next action. If the host is done after it, the session ends with the host's report.
pub record NextAction (h : Session) (fate : Fate) (harm : WriteHarm) (b b' : LinkView) (answer : Answered) : Type 0 where
  pub host : HostState
  pub live : h ≡ HostSession host
  pub next : HostState
  pub gone : HostActsArmed host (delivery_of fate) harm b.device b'.device next
  pub session : b'.session ≡ (host_outcome host gone.acted.heard).session
  pub answered : answer ≡ (host_outcome host gone.acted.heard).answer

-- An event changes one bench to another, and has this answer.
abbrev pub HappensOnBench : Happening → LinkView → LinkView → Answered → Type 0
HappensOnBench (Offers purpose payload limits) b b' answer =
    (b' ≡ record {
      device = b.device;
      session = opened (profile b.device)
          (goal_of_purpose purpose payload) limits.actions limits.restarts;
    })
    × (answer ≡ silent)
HappensOnBench (Uploads limits) b b' answer =
    (b' ≡ record { device = b.device; session = opened (profile b.device) FetchGoal limits.actions limits.restarts }) × (answer ≡ silent)
HappensOnBench Aborts b b' answer = (b' ≡ record { device = b.device; session = session_aborted b.session }) × (answer ≡ silent)
HappensOnBench (Goes fate harm) b b' answer = NextAction b.session fate harm b b' answer
HappensOnBench (Passes ms) b b' answer = Elapses ms b.device b'.device × (b'.session ≡ b.session) × (answer ≡ silent)
HappensOnBench Resets b b' answer = let t = notify_restart b.session in
    (b' ≡ record { device = device_after_bus_reset b.device; session = t.session }) × (answer ≡ t.answer)
HappensOnBench Cuts b b' answer = let t = notify_restart b.session in
    (b' ≡ record { device = device_after_power_cycle b.device; session = t.session }) × (answer ≡ t.answer)
HappensOnBench (Refuses why) b b' answer = (b' ≡ record { device = refused_device why b.device; session = b.session }) × (answer ≡ silent)

-- A play in bytes: an event that may happen, on a bench whose medium is not armed.
pub record BytePlay (b : LinkView) (event : Happening) (b' : LinkView) (answer : Answered) : Type 0 where
  pub allowed : MayHappen b.session event
  pub unarmed : b.device.slots.medium.fuse ≡ Whole
  pub happens : HappensOnBench event b b' answer
