-- Times at which a trial may end, by the next action of the live session's host.
use Rattle.std.specs.Prelude.{◌≡◌, ◌⊎◌, Bool, true}
use Rattle.dfu_wire.specs.declared.states.State.{State}
use Rattle.dfu_wire.specs.declared.states.State.TheVariants.{DfuIdle}
use Rattle.dfu_wire.specs.declared.requests.Request.TheVariants as request
use Rattle.dfu_host.specs.Phases.{Deed, Send}
use Rattle.dfu_host.specs.CommonPhases.{IsCommonPhase}
use Rattle.dfu_host.specs.Table.{deed}
use Rattle.dfu_sim.specs.LinkView.{Session, NoLiveSession, HostSession}

-- The host sends a DNLOAD or UPLOAD, which begins a transfer if the device is in dfuIDLE.
abbrev pub BeginsTransfer : Deed → Type 0
BeginsTransfer (Send (request.Dnload block len) body) = Unit {0}
BeginsTransfer (Send (request.Upload block len) body) = Unit {0}
BeginsTransfer d = ⊥

-- A restart may end a trial while no session is live, or while the host searches for the device or brings it to dfuIDLE. It may also end a
-- trial in dfuIDLE before a transfer begins, if the board is in dfuIDLE again afterwards.
abbrev pub TrialMayEnd : Session → State → (begins : Bool) → Type 0
TrialMayEnd NoLiveSession state begins = Unit {0}
TrialMayEnd (HostSession h) state begins = IsCommonPhase h.phase ⊎ (BeginsTransfer (deed h.task h.phase) × (state ≡ DfuIdle) × (begins ≡ true))
