use Rattle.std.proofs.Common.{length, refl, sym, ◌∙◌}
use Rattle.std.proofs.lemmas.Bool.{false≢true}
use Rattle.dfu_asks.specs.Lent.{lent}
use Rattle.dfu_asks.specs.Asks.{flash_store}
use Rattle.dfu_asks.proofs.Refuses.{filled_mode_may_be_entered}
use Rattle.dfu_asks.proofs.asking.Asking.refuse_close.Goals as goal

pub returns-then-not-mode_closes-clause-closes : goal.returns-then-not-mode_closes-clause-closes
returns-then-not-mode_closes-clause-closes c block held flash is =
    let l = lent c.args.self.now block held in
    let told = c.mode_closes.ensures l flash (record { config_is = refl; mode_is = refl; device = is }) in
    (λ yes. absurd (false≢true yes), λ closes. sym c.if-not-mode_closes.true ∙ told.closes.1 closes)

pub returns-clause-closes : goal.returns-clause-closes
returns-clause-closes c block held flash is =
    let l = lent c.args.self.now block held in
    let told = c.mode_closes.ensures l flash (record { config_is = refl; mode_is = refl; device = is }) in
    (λ yes. told.closes.0 c.if-not-mode_closes.false, λ closes. refl)

pub returns-clause-is_device : goal.returns-clause-is_device
returns-clause-is_device c block held flash is =
    let l = lent c.args.self.now block held in
    filled_mode_may_be_entered l c.after_refused_close-self.result flash is
    (c.after_refused_close-self.ensures.filled (length l.block) (flash_store l flash))
