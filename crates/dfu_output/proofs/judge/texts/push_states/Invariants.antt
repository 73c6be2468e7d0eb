use Rattle.std.specs.Prelude.{◌≡◌, ◌++◌, take}
use Rattle.std.specs.String.{string_bytes}
use Rattle.dfu_output.specs.declared.judge.names.TheConstants.{STATES}
use Rattle.dfu_output.specs.judge.Texts.{texts_of_each, spaced_state}
use Rattle.dfu_output.proofs.judge.texts.push_states.Given as goal

-- The texts of all states before the next one have been added to the line.
abbrev pub invariant-loop-place : goal.invariant-loop-place
invariant-loop-place l = string_bytes l.line ≡ string_bytes l.fn.line ++ texts_of_each (spaced_state l.at) (take l.place-index STATES)
