-- Statements that an event has one meaning, and that an action in which a write is harmed has one result.
use Rattle.std.specs.Prelude.{◌≡◌, Bool, Ok}
use Rattle.dfu_slots.specs.Determined.{SameStore}
use Rattle.dfu_device.specs.DeviceView.{DeviceView}
use Rattle.dfu_device.specs.Setting.{Setting}
use Rattle.dfu_sim.specs.declared.fault.LinkFault.{LinkFault}
use Rattle.dfu_sim.specs.declared.delivery.MediumFault.{MediumFault}
use Rattle.dfu_sim.specs.declared.delivery.MediumFault.TheVariants.{NoWrite, CutsPower, FailsWrite, LiesInWrite}
use Rattle.dfu_sim.specs.Delivery.{delivery_of}
use Rattle.dfu_sim.specs.Play.{Answered, HostOutcome, MayHappen}
use Rattle.dfu_sim.specs.LinkView.{LinkView}
use Rattle.dfu_sim.specs.Happening.{Fate, WriteHarm, Happening, Goes}
use Rattle.dfu_sim.specs.Refusing.{IsRefused}
use Rattle.dfu_sim.specs.EventResults.{EventMeaning, EventResult}

-- An event is refused with at most one fault.
abbrev pub EventHasOneRefusal : Type 0
EventHasOneRefusal = (b : LinkView) (h : Happening) (fault other : LinkFault) → IsRefused b h fault → IsRefused b h other → fault ≡ other

-- If an event is refused, no play of it may happen.
abbrev pub RefusedEventIsNoPlay : Type 0
RefusedEventIsNoPlay = (b : LinkView) (h : Happening) (fault : LinkFault) (event : Happening) → IsRefused b h fault
    → EventMeaning b.device.config h event
    → MayHappen b.session event → ⊥

-- Each event has at most one meaning, because a file that is offered has one payload.
abbrev pub EventHasOneMeaning : Type 0
EventHasOneMeaning = (s : Setting) (h event other : Happening) → EventMeaning s h event → EventMeaning s h other → event ≡ other

-- Two devices are equal, except for the number of failed writes of their media.
pub record SameDevice (w v : DeviceView) : Type 0 where
  pub config : w.config ≡ v.config
  pub stage : w.stage ≡ v.stage
  pub store : SameStore w.slots v.slots

-- Two results of one event agree: the devices are equal but for failed writes, and the sessions and answers depend only on whether there
-- was memory for a part of an upload.
pub record AreOneResult (c d : LinkView) (x y : Answered) : Type 0 where
  pub device : SameDevice c.device d.device
  pub rule : (room : Bool) → HostOutcome
  pub first : (room : Bool) × (rule room ≡ record { session = c.session; answer = x })
  pub second : (room : Bool) × (rule room ≡ record { session = d.session; answer = y })

-- A write is harmed: by a cut, by a failure, or by a lie.
abbrev pub HarmsAWrite : MediumFault → Type 0
HarmsAWrite NoWrite = ⊥
HarmsAWrite CutsPower = Unit {0}
HarmsAWrite FailsWrite = Unit {0}
HarmsAWrite LiesInWrite = Unit {0}

-- An action in which a write is harmed has one result.
abbrev pub HarmedActionHasOneResult : Type 0
HarmedActionHasOneResult = (b c d : LinkView) (fate : Fate) (harm : WriteHarm) (x y : Answered) → HarmsAWrite (delivery_of fate).harming
    → EventResult b (Goes fate harm) c (Ok x) → EventResult b (Goes fate harm) d (Ok y) → AreOneResult c d x y
