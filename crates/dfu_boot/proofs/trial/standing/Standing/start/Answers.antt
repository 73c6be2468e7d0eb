use Rattle.std.proofs.Common.{subst, arith}
use Rattle.dfu_boot.specs.trial.Calls.{MediumAccepts, MarkIsWithin}
use Rattle.dfu_boot.specs.trial.Again.{MatchesMedium}
use Rattle.dfu_boot.specs.declared.trial.standing.Standing.{Standing}
use Rattle.dfu_boot.specs.declared.trial.operation.Operation.TheVariants.{Mark}
use Rattle.dfu_boot.proofs.Fitting.{start_mark_ends_within, start_mark_is_accepted, gate_erase_is_accepted}
use Rattle.dfu_boot.proofs.trial.standing.Standing.start.Given as given
use Rattle.dfu_boot.proofs.trial.standing.Standing.start.Goals.{After-mark_size}
use Rattle.dfu_boot.proofs.trial.standing.Standing.start.Goals as goal

pub mark_at-mark-requires : goal.mark_at-mark-requires
mark_at-mark-requires g c =
    let m = g.M.Medium.state c.args.medium.now in
    let stands = subst (λ (s : Standing). MatchesMedium m c.args.tries s) c.in-OnTrial.is c.requires.stands in
    omega (arith, start_mark_ends_within m c.args.tries c.in-OnTrial.trial c.requires.tries stands c.if-trial-tries.true)

-- The medium accepts the mark of the next start, and the mark lies within the medium.
next_mark_is_accepted : (g : given.Over) (c : After-mark_size g) → let m = g.M.Medium.state c.args.medium.now in
    let mark = Mark c.mark_at-mark.result c.mark_size.result in MediumAccepts m mark × MarkIsWithin m mark
next_mark_is_accepted g c =
    let m = g.M.Medium.state c.args.medium.now in
    let stands = subst (λ (s : Standing). MatchesMedium m c.args.tries s) c.in-OnTrial.is c.requires.stands in
    start_mark_is_accepted m c.args.tries c.in-OnTrial.trial c.requires.tries stands c.if-trial-tries.true c.mark_at-mark.result
    c.mark_size.result
    c.mark_at-mark.ensures c.mark_size.ensures.value

pub returns-then-trial-tries-clause-taken : goal.returns-then-trial-tries-clause-taken
returns-then-trial-tries-clause-taken g c = (next_mark_is_accepted g (goal.at.returns-then-trial-tries-clause-taken g c).After-mark_size).0

pub returns-then-trial-tries-clause-within : goal.returns-then-trial-tries-clause-within
returns-then-trial-tries-clause-within g c = (next_mark_is_accepted g (goal.at.returns-then-trial-tries-clause-within g
    c).After-mark_size).1

pub returns-else-trial-tries-clause-taken : goal.returns-else-trial-tries-clause-taken
returns-else-trial-tries-clause-taken g c =
    let m = g.M.Medium.state c.args.medium.now in
    let stands = subst (λ (s : Standing). MatchesMedium m c.args.tries s) c.in-OnTrial.is c.requires.stands in
    gate_erase_is_accepted m c.args.tries c.in-OnTrial.trial c.requires.tries stands
