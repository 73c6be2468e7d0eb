-- Delivery of each fate, as a record from which the results of plays are computed.
use Rattle.std.specs.Prelude.{Bool, true, false, Option, Some, None}
use Rattle.dfu_device.specs.declared.objection.Objection.{Objection}
use Rattle.dfu_sim.specs.declared.delivery.Handled.{Handled}
use Rattle.dfu_sim.specs.declared.delivery.Handled.TheVariants.{Unseen, Once, Again, Late}
use Rattle.dfu_sim.specs.declared.delivery.MediumFault.{MediumFault}
use Rattle.dfu_sim.specs.declared.delivery.MediumFault.TheVariants.{NoWrite, CutsPower, FailsWrite, LiesInWrite}
use Rattle.dfu_sim.specs.Happening.{Fate, Pass, LostOut, LostBack, Twice, TwiceLostBack, Slip, CutInWrite, Fail, Lie, Refusing}

-- Delivery of an action: how often the device handles a request, the objection of its program to the image that the request closes, whether
-- the host gets the answer, and the harm to a write.
pub record Delivery : Type 0 where
  pub handling : Handled
  pub refusing : Option Objection
  pub back : Bool
  pub harming : MediumFault

-- Delivery of each fate.
abbrev pub delivery_of : Fate → Delivery
delivery_of Pass = record { handling = Once; refusing = None; back = true; harming = NoWrite }
delivery_of LostOut = record { handling = Unseen; refusing = None; back = false; harming = NoWrite }
delivery_of LostBack = record { handling = Once; refusing = None; back = false; harming = NoWrite }
delivery_of Twice = record { handling = Again; refusing = None; back = true; harming = NoWrite }
delivery_of TwiceLostBack = record { handling = Again; refusing = None; back = false; harming = NoWrite }
delivery_of (Slip ms) = record { handling = Late ms; refusing = None; back = true; harming = NoWrite }
delivery_of CutInWrite = record { handling = Once; refusing = None; back = false; harming = CutsPower }
delivery_of Fail = record { handling = Once; refusing = None; back = true; harming = FailsWrite }
delivery_of Lie = record { handling = Once; refusing = None; back = true; harming = LiesInWrite }
delivery_of (Refusing why f) = record (delivery_of f) { refusing = Some why }
