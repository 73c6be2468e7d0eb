-- Runs: lists of events that are applied to a link in order.
use Rattle.std.specs.Prelude.{◌≡◌, ℕ, List, [], ◌∷◌, ◌++◌, take, drop, map, Option, Result, Ok, Err}
use Rattle.std.specs.declared.vec.Vec.{Vec}
use Rattle.std.specs.declared.alloc.Global.{Global}
use Rattle.dfu_host.specs.declared.report.Report.{Report}
use Rattle.dfu_sim.specs.declared.event.Event.{Event as GivenEvent}
use Rattle.dfu_sim.specs.declared.fault.LinkFault.{LinkFault}
use Rattle.dfu_sim.specs.declared.fault.LinkFault.TheVariants.{NoMemory}
use Rattle.dfu_sim.specs.declared.running.Stop.{Stop}
use Rattle.dfu_sim.specs.Session.{report_list}
use Rattle.dfu_sim.specs.LinkView.{LinkView, WorldView}
use Rattle.dfu_sim.specs.Happening.{Happening, happening}
use Rattle.dfu_sim.specs.Refusing.{IsRefused}
use Rattle.dfu_sim.specs.EventResults.{WorldEventResult}
use Rattle.dfu_sim.specs.UploadResults.{UploadOrUnchanged}

-- A run: none of the events is refused, the reports follow in the order of their events, and the bytes of each Uploaded are those of the
-- active image.
pub data EventsRun : WorldView → List Happening → List Report → WorldView → Type 0 where
  rests : {w : WorldView} → EventsRun w [] [] w
  comes : {w mid w' : WorldView} {h : Happening} {hs : List Happening} {report : Option Report} {reports : List Report}
      → WorldEventResult w h mid (Ok report) → UploadOrUnchanged w mid (Ok report) → EventsRun mid hs reports w'
      → EventsRun w (h ∷ hs) (report_list report ++ reports) w'

-- Events in the table of fates for the events that a caller passes.
abbrev pub happenings : List GivenEvent → List Happening
happenings events = map happening events

-- A run stops before an event with a fault: the event is refused with the fault, or there is no memory for a report.
abbrev pub StopsWithFault : LinkView → Happening → LinkFault → Type 0
StopsWithFault b next NoMemory = Unit {0}
StopsWithFault b next fault = IsRefused b next fault

-- A run stopped at the event with index `at` with a fault. Only the events before it were applied, and `reports` are their reports.
pub record RunStopsAt (w : WorldView) (hs : List Happening) (fault : LinkFault) (at : ℕ) (reports : List Report)
    (w' : WorldView) : Type 0 where
  pub next : Happening
  pub more : List Happening
  pub here : drop at hs ≡ next ∷ more
  pub before : EventsRun w (take at hs) reports w'
  pub why : StopsWithFault w'.bench next fault

-- Result of a run: the reports of all events, or the event at which it stopped.
abbrev pub RunAnswers : WorldView → List Happening → WorldView → Result (Vec Report Global) Stop → Type 0
RunAnswers w hs w' (Ok reports) = EventsRun w hs reports.items w'
RunAnswers w hs w' (Err stop) = RunStopsAt w hs stop.fault stop.at stop.reports.items w'
