use Rattle.std.proofs.Common.{subst, arith}
use Rattle.dfu_boot.specs.trial.Calls.{IsStanding}
use Rattle.dfu_boot.specs.declared.trial.standing.Standing.{Standing}
use Rattle.dfu_boot.proofs.Counting.{count_is_at_most_all_marks}
use Rattle.dfu_boot_c.proofs.trial.told.standing_told.Goals as goal

pub overflow_sub-result : goal.overflow_sub-result
overflow_sub-result g c =
    let m = g.M.Medium.state c.args.medium.now in
    let stands = subst (λ (s : Standing). IsStanding m c.args.tries s) c.in-OnTrial.is c.requires.stands in
    omega (arith, stands.1, count_is_at_most_all_marks m c.in-OnTrial.trial.slot 1 c.args.tries)
