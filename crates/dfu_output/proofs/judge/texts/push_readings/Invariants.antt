use Rattle.std.specs.Prelude.{◌≡◌, ◌++◌, take}
use Rattle.std.specs.String.{string_bytes}
use Rattle.dfu_output.specs.declared.judge.names.TheConstants.{READINGS}
use Rattle.dfu_output.specs.judge.Texts.{texts_of_each, reading_text}
use Rattle.dfu_output.proofs.judge.texts.push_readings.Given as goal

-- The texts of all habits before the next one have been added to the line.
abbrev pub invariant-loop-reading : goal.invariant-loop-reading
invariant-loop-reading l =
    string_bytes l.line ≡ string_bytes l.fn.line ++ texts_of_each (reading_text l.readings) (take l.reading-index READINGS)
