-- State of a link between events, and its invariant.
use Rattle.std.specs.Prelude.{◌≡◌, ℕ, ◌<◌, List, [], Option, Some, None}
use Rattle.dfu_slots.specs.Medium.Fuse.{Whole}
use Rattle.dfu_device.specs.DeviceView.{DeviceView, profile, situation}
use Rattle.dfu_host.specs.Host.{HostState, IsLivePhase}
use Rattle.dfu_host.specs.Counting.{KeptBytesAreCounted}
use Rattle.dfu_host.specs.Uploading.{kept_bytes_in_phase}
use Rattle.dfu_sim.specs.LinkView.{Session, NoLiveSession, HostSession, LinkView, BenchMatchesFlash, WorldView}
use Rattle.dfu_sim.specs.Fact.{SessionFact}

-- Session of a host; without a host no session is live.
abbrev pub session_of : Option HostState → Session
session_of None = NoLiveSession
session_of (Some h) = HostSession h

-- Bytes of the host that reported Uploaded last; none if no host did.
abbrev pub given_by : Option HostState → List ℕ
given_by None = []
given_by (Some h) = kept_bytes_in_phase h.phase

-- A bench of a device and of a live host, if there is one.
abbrev pub bench_of : DeviceView → Option HostState → LinkView
bench_of w host = record { device = w; session = session_of host }

-- A link of a device, of the live host, if there is one, and of the host that reported Uploaded last, if one did.
abbrev pub link_state : DeviceView → (live gave : Option HostState) → WorldView
link_state w live gave = record { bench = bench_of w live; up = given_by gave }

-- The live session, if there is one, is not done.
abbrev pub SessionIsNotDone : Session → Type 0
SessionIsNotDone NoLiveSession = Unit {0}
SessionIsNotDone (HostSession h) = IsLivePhase h.phase

-- While the live session fetches part k of an upload, it keeps k full parts. Only an upload keeps bytes.
abbrev pub SessionIsCounted : Session → Type 0
SessionIsCounted NoLiveSession = Unit {0}
SessionIsCounted (HostSession h) = KeptBytesAreCounted h.task h.phase

-- The live session, if there is one, has a transfer size of at least one byte.
abbrev pub SendsBytes : Session → Type 0
SendsBytes NoLiveSession = Unit {0}
SendsBytes (HostSession h) = 0 < h.task.transfer

-- A link is steady: the phase fact holds, the medium is not armed, blocks have at least one byte, and an upload has kept as many parts as
-- it fetched.
pub record IsSteadyLink (b : LinkView) : Type 0 where
  pub fact : SessionFact (profile b.device) (situation b.device) b.session
  pub unarmed : b.device.slots.medium.fuse ≡ Whole
  pub sized : SendsBytes b.session
  pub counted : SessionIsCounted b.session

-- Invariant of a bench between events: it is steady, and it shows the active image of its medium's bytes.
pub record LinkInvariant (b : LinkView) : Type 0 where
  pub steady : IsSteadyLink b
  pub active : BenchMatchesFlash b
