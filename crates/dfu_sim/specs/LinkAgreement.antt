-- Agreement of a link with a session machine: for each link some machine agrees, and it still agrees after a new world is made over the
-- device.
use Rattle.std.specs.Prelude.{◌≡◌, ℕ, List, [], Option}
use Rattle.dfu_slots.specs.Medium.Fuse.{Whole}
use Rattle.dfu_device.specs.Stage.{Stage}
use Rattle.dfu_sim.specs.Session.{Machine, NothingLive}
use Rattle.dfu_sim.specs.Play.{Link}
use Rattle.dfu_sim.specs.LinkView.{LinkView, NoLiveSession, WorldView, BenchMatchesFlash}
use Rattle.dfu_sim.specs.Bytes.{link_of_bench, armed_device}
use Rattle.dfu_sim.specs.Agreement.{Intake, NoImageTaken, Open, Shut, intake_of_stage, pending_bytes_in, live_session_of, IsClosedOffer, IsLiveOffer, AgreesOn}

-- Pending bytes of a device in this stage; None if it has none.
abbrev pub pending_of : Stage → Option (List ℕ)
pending_of stage = pending_bytes_in (intake_of_stage stage)

-- If the device holds the bytes of a closed download, they are one of the offers.
abbrev pub ClosedWasOffered : List (List ℕ) → Stage → Type 0
ClosedWasOffered offers stage = IsClosedOffer offers (intake_of_stage stage)

-- A link agrees with a session machine: the machine has the link's image, pending bytes, live session and last upload, and the bytes of the
-- link's closed download and its live payload are among the machine's offers.
pub record Agrees (w : Link) (up : List ℕ) (m : Machine) : Type 0 where
  pub cur : m.cur ≡ w.device.image
  pub pending : m.pending ≡ pending_of w.device.stage
  pub live : m.live ≡ live_session_of w.session
  pub up_is : m.up ≡ up
  pub sound : ClosedWasOffered m.offers w.device.stage
  pub offered : IsLiveOffer m.offers (live_session_of w.session)

-- Statements about the session machines that agree with a link.

-- The image in progress, if there is one, is not closed.
abbrev pub IntakeNotClosed : Intake → Type 0
IntakeNotClosed NoImageTaken = Unit {0}
IntakeNotClosed (Open taken) = Unit {0}
IntakeNotClosed (Shut taken) = ⊥

-- In this stage a device holds no closed bytes that wait to be put in place.
abbrev pub NothingClosed : Stage → Type 0
NothingClosed stage = IntakeNotClosed (intake_of_stage stage)

-- The session machine of a link with no session, before anything is offered.
abbrev pub fresh_machine : Link → Machine
fresh_machine w = record { cur = w.device.image; offers = []; pending = pending_of w.device.stage; live = NothingLive; up = [] }

-- For each link and any bytes of the last upload, some session machine agrees.
abbrev pub SomeMachineAgrees : Type 0
SomeMachineAgrees = (w : Link) (up : List ℕ) → (m : Machine) × Agrees w up m

-- If no session is live and no closed bytes wait to be put in place, the machine without offers agrees with the link.
abbrev pub FreshMachineAgrees : Type 0
FreshMachineAgrees = (w : Link) → w.session ≡ NoLiveSession → NothingClosed w.device.stage → Agrees w [] (fresh_machine w)

-- A bench that shows the active image of its medium's bytes agrees with each machine that its link agrees with.
abbrev pub LinkAgreesOn : Type 0
LinkAgreesOn = (b : LinkView) (up : List ℕ) (m : Machine) → BenchMatchesFlash b → Agrees (link_of_bench b) up m → AgreesOn b up m

-- If a world with no session is replaced by a new world over its device, whose medium is disarmed, each session machine that agreed still
-- agrees, with nothing uploaded so far.
abbrev pub SessionsContinue : Type 0
SessionsContinue = (w : WorldView) (m : Machine) → w.bench.session ≡ NoLiveSession → AgreesOn w.bench w.up m
    → AgreesOn (record { device = armed_device w.bench.device Whole; session = NoLiveSession }) [] (record m { up = [] })
