-- The phases in which the host of a clean run finds its device in appIDLE and brings it to dfuIDLE, for each goal.
use Rattle.std.proofs.Common.{◌≡◌, ℕ, ◌==◌, max, min, false, List, arith, refl}
use Rattle.std.proofs.lemmas.Bool.Decides.{nat_tests}
use Rattle.dfu_device.specs.Stage.{Profile, InAppIdle, InAppDetach, InDfuIdle}
use Rattle.dfu_host.specs.Phases.{Goal, Find, Detach, Enter}
use Rattle.dfu_sim.proofs.Choices.{fact_by_both_outcomes}
use Rattle.dfu_sim.proofs.Passes.{Leads, one}

module _ (c : Profile) (g : Goal) (again : ℕ) where
  -- In one pass the host finds the device in appIDLE, and its next phase is Detach.
  pub host_finds_app_idle : (i : List ℕ) → Leads c g again i InAppIdle Find 1 i InAppIdle Detach
  host_finds_app_idle i = one c g again (λ l k room. refl)

  -- In one pass the device handles DETACH and enters appDETACH, and the next phase is Enter.
  pub detach : (i : List ℕ) → Leads c g again i InAppIdle Detach 1 i (InAppDetach (min c.detach_ms c.detach_ms) 0) Enter
  detach i = one c g again (λ l k room. refl)

  -- In one pass the host resets the bus, or waits while the device detaches by itself. In both cases the device is in dfuIDLE, and the next
  -- phase is Find.
  pub host_enters_dfu_idle : (i : List ℕ) (timer : ℕ) → Leads c g again i (InAppDetach timer 0) Enter 1 i InDfuIdle Find
  host_enters_dfu_idle i timer = fact_by_both_outcomes c.will_detach
      (λ e. one c g again (λ l k room. let f : (max 1 c.detach_ms == 0) ≡ false = grind (arith, nat_tests) in rw (e, f)))
      (λ e. one c g again (λ l k room. rw e))
