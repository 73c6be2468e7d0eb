-- The clean run of a link, step by step.
use Rattle.std.specs.Prelude.{◌≡◌, ℕ, ◌≤◌, List, [], ◌∷◌, ◌++◌, take, drop, Option}
use Rattle.dfu_host.specs.declared.limits.Limits.{Limits}
use Rattle.dfu_host.specs.declared.report.Report.{Report}
use Rattle.dfu_sim.specs.declared.offering.Purpose.{Purpose}
use Rattle.dfu_sim.specs.declared.fault.LinkFault.{LinkFault}
use Rattle.dfu_sim.specs.Session.{report_list}
use Rattle.dfu_sim.specs.LinkView.{LinkView}
use Rattle.dfu_sim.specs.Happening.{Happening}
use Rattle.dfu_sim.specs.Refusing.{IsRefused}
use Rattle.dfu_sim.specs.Sure.{EventFollowsTable}
use Rattle.dfu_sim.specs.CleanInstall.{clean_passes, CanInstall, offer_and_passes, InstallsCleanly}

-- The steps lead from one bench to another, with their reports in order; the clause `sure` of `World::step` holds for each step.
pub data StepsFollowTable : LinkView → List Happening → List Report → LinkView → Type 0 where
  no_sure_step : {b : LinkView} → StepsFollowTable b [] [] b
  one_step : {b mid b' : LinkView} {h : Happening} {hs : List Happening} {report : Option Report} {reports : List Report}
      → EventFollowsTable b h mid report → StepsFollowTable mid hs reports b'
      → StepsFollowTable b (h ∷ hs) (report_list report ++ reports) b'

-- An offer and at most the passes of a clean run, each applied by `World::step`, report what a clean run reports, with or without memory.
abbrev pub StepsInstallCleanly : Type 0
StepsInstallCleanly = (b b' : LinkView) (purpose : Purpose) (file : List ℕ) (limits : Limits) (payload : List ℕ) (count : ℕ)
    (reports : List Report)
    → CanInstall b purpose file limits payload → count ≤ clean_passes purpose b.device.config payload
    → StepsFollowTable b (offer_and_passes purpose file limits count) reports b' → InstallsCleanly b purpose payload count reports b'

-- If the first steps of a clean run follow the table, its next step is not refused.
abbrev pub CleanStepsSucceed : Type 0
CleanStepsSucceed = (b b' : LinkView) (purpose : Purpose) (file : List ℕ) (limits : Limits) (payload : List ℕ) (count at : ℕ)
    (reports : List Report)
    (next : Happening)
    (more : List Happening) (fault : LinkFault)
    → CanInstall b purpose file limits payload → count ≤ clean_passes purpose b.device.config payload
    → StepsFollowTable b (take at (offer_and_passes purpose file limits count)) reports b'
    → drop at (offer_and_passes purpose file limits count) ≡ next ∷ more
    → ¬ IsRefused b' next fault
