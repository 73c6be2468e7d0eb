use Rattle.std.specs.Prelude.{◌≡◌, ◌≤◌, ◌+◌, length}
use Rattle.dfu_plan.specs.Parts.{part_if_known, part_in, part_with_lines}
use Rattle.dfu_plan.specs.Words.{table_lines}
use Rattle.dfu_plan.proofs.part.part_in.Given as goal

abbrev pub invariant-lines : goal.invariant-lines
invariant-lines l = record {
  read : part_in l.name l.table ≡ part_if_known (part_with_lines l.name (l.number + 1) l.part (table_lines l.rest));
  ahead : l.number + length l.rest ≤ length l.table;
}

abbrev pub decreases-lines : goal.decreases-lines
decreases-lines l = length l.rest
