use Rattle.std.proofs.Common.{refl, arith}
use Rattle.dfu_suffix.specs.Register.{shifts}
use Rattle.dfu_suffix.proofs.UndoLaws.{one_more_shift_undone, all_shifts_undone}
use Rattle.dfu_suffix.proofs.findings.before_four.Goals as goal

pub loop-turn-init : goal.loop-turn-init
unfolding shifts
loop-turn-init c = refl

pub loop-turn-preserved : goal.loop-turn-preserved
loop-turn-preserved c = one_more_shift_undone _ _ _ _ c.unshifted-number.ensures c.loop-turn.invariant

pub returns : goal.returns
returns c =
    let test = c.loop-turn-test.false in
    all_shifts_undone c.loop-turn.turn _ _ _ (omega arith) c.loop-turn.invariant
