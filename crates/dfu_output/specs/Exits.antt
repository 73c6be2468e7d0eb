-- Exit statuses of the program.
use Rattle.std.specs.Prelude.{ℕ}
use Rattle.dfu_output.specs.declared.exit.Exit.{Exit}
use Rattle.dfu_output.specs.declared.exit.Exit.TheVariants.{Done, Refused, BadWords, Fault}

-- Exit status of the program for each exit of a command, from 0 to 3.
abbrev pub exit_status : Exit → ℕ
exit_status Done = 0
exit_status Refused = 1
exit_status BadWords = 2
exit_status Fault = 3
