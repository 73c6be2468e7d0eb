-- Number of bytes in two lists of steps, and the step that closes a gate.
use Rattle.std.proofs.Common.{◌≡◌, ◌==◌, true, false, if◌then◌else◌, ℕ, ◌+◌, List, ◌++◌, replicate, ◌∙◌, ap}
use Rattle.std.proofs.lemmas.Bool.{eq-eqb}
use Rattle.dfu_slots.specs.Units.{Grain, gate_size}
use Rattle.dfu_slots.specs.Layout.{gate_unit}
use Rattle.dfu_asks.specs.Steps.{Step, step_writes, program_step, close_step}
use Rattle.dfu_asks.specs.Carried.{total}
use Rattle.dfu_asks.proofs.Steps.{step_writes_append}
use Rattle.dfu_asks.proofs.Pieces.{list_totals_add_up}

-- Joining two lists of steps adds up their numbers of bytes.
pub step_list_totals_add_up : (xs ys : List Step) → total (step_writes (xs ++ ys)) ≡ total (step_writes xs) + total (step_writes ys)
step_list_totals_add_up xs ys = ap total (step_writes_append xs ys) ∙ list_totals_add_up (step_writes xs) (step_writes ys)

-- On flash without sectors, closing a gate programs bytes and erases nothing.
pub close_programs_if_no_sectors : (w : Grain) (at : ℕ) → w.sector ≡ 0 → close_step w at ≡ program_step at (gate_unit (gate_size w.unit) 0)
close_programs_if_no_sectors w at none =
    let e : (w.sector == 0) ≡ true = eq-eqb w.sector 0 none in
    λ i. record {
      erases = if e i then false else true;
      write = record { at = at; bytes = if e i then gate_unit (gate_size w.unit) 0 else replicate w.sector 255 };
    }
