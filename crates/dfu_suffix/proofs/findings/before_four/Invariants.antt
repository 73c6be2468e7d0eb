use Rattle.std.proofs.Common.{◌≡◌}
use Rattle.dfu_suffix.specs.Register.{shifts}
use Rattle.dfu_suffix.proofs.findings.before_four.Given as goal

-- The CRC shift of the number by `turn` bits, one for each step undone so far, is the register.
abbrev pub invariant-loop-turn : goal.invariant-loop-turn
invariant-loop-turn l = shifts l.turn l.number ≡ l.register
