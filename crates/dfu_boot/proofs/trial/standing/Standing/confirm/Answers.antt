use Rattle.std.proofs.Common.{subst, sym, ◌∙◌}
use Rattle.dfu_boot.specs.trial.Calls.{IsStanding, ConfirmationAccepted}
use Rattle.dfu_boot.specs.declared.trial.standing.Standing.{Standing}
use Rattle.dfu_boot.specs.declared.trial.confirming.Confirmation.{Confirmation}
use Rattle.dfu_boot.proofs.Asked.{confirmation_is_accepted, active_mark_is_accepted}
use Rattle.dfu_boot.proofs.trial.standing.Standing.confirm.Goals as goal

pub returns-then-at-data_at-2-clause-taken : goal.returns-then-at-data_at-2-clause-taken
returns-then-at-data_at-2-clause-taken g c =
    let m = g.M.Medium.state c.args.medium.now in
    let stands = subst (λ (s : Standing). IsStanding m c.args.tries s) c.in-OnTrial.is c.requires.stands in
    subst (λ (a : Confirmation). ConfirmationAccepted m a) (sym c.by_mark-then-at-data_at-2.ensures)
    (confirmation_is_accepted m c.args.tries c.in-OnTrial.trial c.requires.tries stands)

pub returns-else-settled-clause-taken : goal.returns-else-settled-clause-taken
returns-else-settled-clause-taken g c =
    let m = g.M.Medium.state c.args.medium.now in
    let settled = subst (λ (s : Standing). IsStanding m c.args.tries s) c.in-Settled.is c.requires.stands in
    subst (λ (a : Confirmation). ConfirmationAccepted m a) (sym c.by_mark.ensures)
    (active_mark_is_accepted m c.args.tries c.in-Settled.settled c.requires.tries settled (sym settled.confirmed ∙ c.if-settled.false))
