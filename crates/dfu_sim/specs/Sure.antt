-- Events in which no write is harmed by a cut, a failure or a lie: their result follows from the table of fates.
use Rattle.std.specs.Prelude.{◌≡◌, Bool, Option, Result, Ok, Err}
use Rattle.dfu_slots.specs.StoreView.{room_of}
use Rattle.dfu_device.specs.Outcome.{Works}
use Rattle.dfu_device.specs.DeviceView.{DeviceView, profile}
use Rattle.dfu_host.specs.declared.report.Report.{Report}
use Rattle.dfu_sim.specs.declared.fault.LinkFault.{LinkFault}
use Rattle.dfu_sim.specs.declared.delivery.MediumFault.{MediumFault}
use Rattle.dfu_sim.specs.declared.delivery.MediumFault.TheVariants.{NoWrite, CutsPower, FailsWrite, LiesInWrite}
use Rattle.dfu_sim.specs.Delivery.{delivery_of}
use Rattle.dfu_sim.specs.Happening.{Happening, Offers, Uploads, Aborts, Goes, Passes, Resets, Cuts, Refuses}
use Rattle.dfu_sim.specs.Play.{Answered, play_of_event}
use Rattle.dfu_sim.specs.LinkView.{LinkView}
use Rattle.dfu_sim.specs.Bytes.{link_of_bench}
use Rattle.dfu_sim.specs.EventResults.{EventMeaning}

-- The setting of the device and its room for images are unchanged.
pub record HasSameSetting (w w' : DeviceView) : Type 0 where
  pub config : w'.config ≡ w.config
  pub room : room_of w'.slots ≡ room_of w.slots

-- No write is harmed by a cut, a failure or a lie.
abbrev pub HarmsNothing : MediumFault → Type 0
HarmsNothing NoWrite = Unit {0}
HarmsNothing CutsPower = ⊥
HarmsNothing FailsWrite = ⊥
HarmsNothing LiesInWrite = ⊥

-- The event is not an action in which a write is harmed.
abbrev pub IsHarmless : Happening → Type 0
IsHarmless (Goes fate harm) = HarmsNothing (delivery_of fate).harming
IsHarmless (Offers purpose payload limits) = Unit {0}
IsHarmless (Uploads limits) = Unit {0}
IsHarmless Aborts = Unit {0}
IsHarmless (Passes ms) = Unit {0}
IsHarmless Resets = Unit {0}
IsHarmless Cuts = Unit {0}
IsHarmless (Refuses why) = Unit {0}

-- The link and the report are those of the table of fates for a medium that works, with or without memory for a part of an upload.
pub record IsResultOfPlay (b : LinkView) (event : Happening) (b' : LinkView) (report : Option Report) : Type 0 where
  pub room : Bool
  pub answer : Answered
  pub same : play_of_event (profile b.device) (link_of_bench b) event Works Works room ≡ record { link = link_of_bench b'; answer = answer }
  pub told : report ≡ answer.report

-- The setting of the device is unchanged, and if no write is harmed, the event follows the table of fates for a medium that works.
pub record EventFollowsTable (b : LinkView) (h : Happening) (b' : LinkView) (report : Option Report) : Type 0 where
  pub event : Happening
  pub means : EventMeaning b.device.config h event
  pub kept : HasSameSetting b.device b'.device
  pub works : IsHarmless event → IsResultOfPlay b event b' report

-- If the event is not refused, the setting of the device is unchanged, and without harm to a write the event follows the table of fates.
abbrev pub EventFollowsTableIfPlayed : LinkView → Happening → LinkView → Result (Option Report) LinkFault → Type 0
EventFollowsTableIfPlayed b h b' (Ok report) = EventFollowsTable b h b' report
EventFollowsTableIfPlayed b h b' (Err fault) = Unit {0}
