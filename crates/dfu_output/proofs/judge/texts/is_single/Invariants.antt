use Rattle.std.specs.Prelude.{◌≡◌, ◌≤◌, length, take}
use Rattle.std.specs.List.{filter}
use Rattle.dfu_output.specs.declared.judge.names.TheConstants.{STATES}
use Rattle.dfu_output.specs.judge.Texts.{may_be_in_state}
use Rattle.dfu_output.proofs.judge.texts.is_single.Given as goal

-- `count` is the number of states before the next one in which the device may be.
abbrev pub invariant-loop-place : goal.invariant-loop-place
invariant-loop-place l = (l.count ≡ length (filter (may_be_in_state l.at) (take l.place-index STATES))) × (l.count ≤ l.place-index)
