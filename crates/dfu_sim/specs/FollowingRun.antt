-- Runs of a link as legal runs of the session machine.
use Rattle.std.specs.Prelude.{◌⊎◌, List, [], ◌∷◌, take, Result, Ok, Err}
use Rattle.std.specs.declared.vec.Vec.{Vec}
use Rattle.std.specs.declared.alloc.Global.{Global}
use Rattle.dfu_slots.specs.Image.{Active}
use Rattle.dfu_host.specs.declared.report.Report.{Report}
use Rattle.dfu_sim.specs.declared.running.Stop.{Stop}
use Rattle.dfu_sim.specs.Session.{Machine, IsOneOf, Kind, Legal}
use Rattle.dfu_sim.specs.Agreement.{AgreesOn}
use Rattle.dfu_sim.specs.Happening.{Happening}
use Rattle.dfu_sim.specs.LinkView.{WorldView}
use Rattle.dfu_sim.specs.Following.{EventHasKind}

-- The events of a list have these kinds, one for each event, in their order.
abbrev pub EventsHaveKinds : List Happening → List Kind → Type 0
EventsHaveKinds [] [] = Unit {0}
EventsHaveKinds (h ∷ hs) (kind ∷ kinds) = EventHasKind h kind × EventsHaveKinds hs kinds
EventsHaveKinds hs kinds = ⊥

-- The session machine follows a run: it makes a legal run with the reports in their order, and then agrees with the link again, so its
-- active image is that of the medium's bytes. That image was active before the run, or is the whole payload of a file offered so far.
pub record IsFollowedRun (w : WorldView) (hs : List Happening) (reports : List Report) (w' : WorldView) (m : Machine) : Type 0 where
  pub kinds : List Kind
  pub are : EventsHaveKinds hs kinds
  pub after : Machine
  pub legal : Legal w.bench.device.config.functional.tolerant w.bench.device.config.functional.transfer m kinds reports after
  pub agrees : AgreesOn w'.bench w'.up after
  pub active : Active w.bench.device.slots.medium after.cur ⊎ IsOneOf after.cur after.offers

-- Each session machine that agrees with a world follows a run, up to the event at which the run stopped.
abbrev pub AllMachinesFollowRun : WorldView → List Happening → WorldView → Result (Vec Report Global) Stop → Type 0
AllMachinesFollowRun w hs w' (Ok reports) = (m : Machine) → AgreesOn w.bench w.up m → IsFollowedRun w hs reports.items w' m
AllMachinesFollowRun w hs w' (Err stop) = (m : Machine) → AgreesOn w.bench w.up m →
    IsFollowedRun w (take stop.at hs) stop.reports.items w' m
