use Rattle.std.specs.Prelude.{◌≡◌, ◌++◌, take}
use Rattle.std.specs.String.{string_bytes}
use Rattle.dfu_conformance.specs.declared.standard.TheConstants.{STANDARD}
use Rattle.dfu_output.specs.judge.Texts.{texts_of_each, allowed_text}
use Rattle.dfu_output.proofs.judge.texts.push_allowed.Given as goal

-- The texts of all rows before the next one have been added to the line.
abbrev pub invariant-loop-row : goal.invariant-loop-row
invariant-loop-row l = string_bytes l.line ≡ string_bytes l.fn.line ++ texts_of_each (allowed_text l.departure) (take l.row-index STANDARD)
