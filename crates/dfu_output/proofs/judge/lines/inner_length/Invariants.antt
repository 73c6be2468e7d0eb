use Rattle.std.specs.Prelude.{◌≡◌, false, take}
use Rattle.std.specs.List.{list_any}
use Rattle.dfu_output.specs.judge.Lines.{is_end}
use Rattle.dfu_output.proofs.judge.lines.inner_length.Given as goal

-- None of the bytes before index `at` is 0Ah.
abbrev pub invariant-loop-at : goal.invariant-loop-at
invariant-loop-at l = list_any is_end (take l.at l.bytes) ≡ false
