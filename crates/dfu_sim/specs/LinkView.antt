-- View of a link between events.
use Rattle.std.specs.Prelude.{ℕ, List}
use Rattle.dfu_slots.specs.Image.{Active}
use Rattle.dfu_slots.specs.StoreView.{image_of}
use Rattle.dfu_device.specs.DeviceView.{DeviceView}
use Rattle.dfu_host.specs.Host.{HostState}

-- Live session of a link with its host, or no live session.
pub data Session : Type 0 where
  NoLiveSession : Session
  HostSession : HostState → Session

-- A session is live, and has a host.
abbrev pub IsLive : Session → Type 0
IsLive NoLiveSession = ⊥
IsLive (HostSession h) = Unit {0}

-- A bench: a device on its medium, and the live session.
pub record LinkView : Type 0 where
  pub device : DeviceView
  pub session : Session

-- The image that a bench shows is the active image of its medium's bytes.
abbrev pub BenchMatchesFlash : LinkView → Type 0
BenchMatchesFlash b = Active b.device.slots.medium (image_of b.device.slots)

-- A link between events: its bench, and the bytes of the last upload that was reported.
pub record WorldView : Type 0 where
  pub bench : LinkView
  pub up : List ℕ

-- The world of a bench and of the bytes of the last upload.
abbrev pub world_of_bench : LinkView → List ℕ → WorldView
world_of_bench b up = record { bench = b; up = up }
