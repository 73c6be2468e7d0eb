-- Events of a link, as its caller passes them.
use Rattle.std.specs.Prelude.{ℕ, List, [], take, Option, Some, None}
use Rattle.dfu_device.specs.declared.objection.Objection.{Objection}
use Rattle.dfu_host.specs.declared.limits.Limits.{Limits}
use Rattle.dfu_sim.specs.declared.fate.Fate.{Fate as GivenFate}
use Rattle.dfu_sim.specs.declared.fate.Fate.TheVariants as fate
use Rattle.dfu_sim.specs.declared.offering.Purpose.{Purpose}
use Rattle.dfu_sim.specs.declared.offering.Purpose.TheVariants.{Install, Verify}
use Rattle.dfu_sim.specs.declared.event.Event.{Event as GivenEvent}
use Rattle.dfu_sim.specs.declared.event.Event.TheVariants as event

-- Fate of one action of the host: it passes; its request or its answer is lost; its request is handled twice, with or without an answer for
-- the host; time passes after it; the power is cut at a write of the medium; a write fails; or (`Lie`) a torn write reports a success. With
-- each of these the device's program may refuse the image that the request closes.
pub data Fate : Type 0 where
  Pass : Fate
  LostOut : Fate
  LostBack : Fate
  Twice : Fate
  TwiceLostBack : Fate
  Slip : (ms : ℕ) → Fate
  CutInWrite : Fate
  Fail : Fate
  Lie : Fate
  Refusing : (why : Objection) → (fate : Fate) → Fate

-- Harm to a write: the first `writes` writes of the action succeed, and the next one is torn with the first bytes of `tear`.
pub record WriteHarm : Type 0 where
  pub writes : ℕ
  pub tear : List ℕ

-- Event of a link. The bytes of an offer are the payload in a play, and elsewhere the file. An offer has the purpose to install its
-- payload, or to install and verify it. With `Refuses` the device's program refuses the image of a closed download between two actions.
pub data Happening : Type 0 where
  Offers : Purpose → (file : List ℕ) → Limits → Happening
  Uploads : Limits → Happening
  Aborts : Happening
  Goes : Fate → WriteHarm → Happening
  Passes : (ms : ℕ) → Happening
  Resets : Happening
  Cuts : Happening
  Refuses : (why : Objection) → Happening

-- Harm of an action in which no write is harmed.
abbrev pub no_write_harmed : WriteHarm
no_write_harmed = record { writes = 0; tear = [] }

-- Harm to the write after the first `writes` writes. Only the first 4,096 bytes of `tear` are used.
abbrev pub harmed : (writes : ℕ) (tear : List ℕ) → WriteHarm
harmed writes tear = record { writes = writes; tear = take 4096 tear }

-- Fate in the table of fates for a fate that a caller passes, without the harm to a write.
abbrev pub fate_of : GivenFate → Fate
fate_of fate.Pass = Pass
fate_of fate.LostOut = LostOut
fate_of fate.LostBack = LostBack
fate_of fate.Twice = Twice
fate_of fate.TwiceLostBack = TwiceLostBack
fate_of (fate.Slip ms) = Slip ms
fate_of (fate.Cut writes tear) = CutInWrite
fate_of (fate.Fail writes tear) = Fail
fate_of (fate.Lie writes tear) = Lie

-- Harm to a write for a fate that a caller passes; only a cut, a failure or a lie harms a write.
abbrev pub harm_of_fate : GivenFate → WriteHarm
harm_of_fate (fate.Cut writes tear) = harmed writes tear.now
harm_of_fate (fate.Fail writes tear) = harmed writes tear.now
harm_of_fate (fate.Lie writes tear) = harmed writes tear.now
harm_of_fate f = no_write_harmed

-- The fate, with the refusal of the image by the device's program, if there is one.
abbrev pub fate_with_refusal : Option Objection → Fate → Fate
fate_with_refusal None f = f
fate_with_refusal (Some why) f = Refusing why f

-- Event in the table of fates for an event that a caller passes.
abbrev pub happening : GivenEvent → Happening
happening (event.Offer file limits) = Offers Install file.now limits
happening (event.OfferVerified file limits) = Offers Verify file.now limits
happening (event.Upload limits) = Uploads limits
happening event.Abort = Aborts
happening (event.Go f) = Goes (fate_of f) (harm_of_fate f)
happening (event.GoRefused f why) = Goes (Refusing why (fate_of f)) (harm_of_fate f)
happening (event.Time ms) = Passes ms
happening event.Reset = Resets
happening event.Cut = Cuts
happening (event.Refuse why) = Refuses why
