use Rattle.std.proofs.Common.{◌∙◌, sym}
use Rattle.std.proofs.lemmas.Bool.{false≢true}
use Rattle.dfu_asks.specs.Asks.{device_in}
use Rattle.dfu_asks.proofs.Closing.{close_verdict_holds_of_row}
use Rattle.dfu_asks.proofs.Refuses.{mode_may_close}
use Rattle.dfu_asks.proofs.closes.mode_closes.Goals as goal

pub returns-then-not-may_close : goal.returns-then-not-may_close
returns-then-not-may_close c a flash is =
    let may = mode_may_close c.args.config.now c.args.mode a flash c.least.result c.may_close.result is c.least.ensures c.may_close.ensures
    in
    close_verdict_holds_of_row _ c.args.setup.now (device_in a flash)
    (λ yes. absurd (false≢true yes), λ closes. sym c.if-not-may_close.true ∙ may ∙ closes.1)

pub returns : goal.returns
returns c a flash is =
    let may = mode_may_close c.args.config.now c.args.mode a flash c.least.result c.may_close.result is c.least.ensures c.may_close.ensures
    in
    close_verdict_holds_of_row _ c.args.setup.now (device_in a flash)
    (λ yes. (c.is_close.ensures.0 yes, sym may ∙ c.if-not-may_close.false), λ closes. c.is_close.ensures.1 closes.0)
