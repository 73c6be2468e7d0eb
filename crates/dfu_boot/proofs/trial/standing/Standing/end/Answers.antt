use Rattle.std.proofs.Common.{subst}
use Rattle.dfu_boot.specs.trial.Calls.{IsStanding}
use Rattle.dfu_boot.specs.declared.trial.standing.Standing.{Standing}
use Rattle.dfu_boot.proofs.Asked.{end_of_trial_is_accepted}
use Rattle.dfu_boot.proofs.trial.standing.Standing.end.Goals as goal

pub returns-in-OnTrial-clause-taken : goal.returns-in-OnTrial-clause-taken
returns-in-OnTrial-clause-taken g c =
    let m = g.M.Medium.state c.args._medium.now in
    end_of_trial_is_accepted m c.args.tries c.in-OnTrial.trial c.requires.tries
    (subst (λ (s : Standing). IsStanding m c.args.tries s) c.in-OnTrial.is c.requires.stands)
