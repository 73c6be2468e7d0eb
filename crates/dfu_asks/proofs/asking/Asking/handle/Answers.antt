use Rattle.std.proofs.Common.{List, ℕ, sym, ◌∙◌, subst, rules}
use Rattle.dfu_device.specs.Rows.{Handles}
use Rattle.dfu_asks.specs.Lent.{lent}
use Rattle.dfu_asks.specs.Calls.{DeviceCalled}
use Rattle.dfu_asks.specs.Refused.{IsDeviceOn}
use Rattle.dfu_asks.proofs.CallResults.{no_work_if_is_some_is_false}
use Rattle.dfu_asks.proofs.asking.Asking.handle.Goals as goal

pub returns-clause-outcome : goal.returns-clause-outcome
returns-clause-outcome c =
    let l = lent c.args.self.now c.args.block.now c.args.held.now in
    subst (λ (flash : List ℕ). IsDeviceOn c.args.self.now c.args.block.now c.args.held.now flash → DeviceCalled l flash c.args.out.now
    (λ d x sent d'. Handles c.args.setup.now c.args.body.now d x sent d')
    (lent c.respond.new.self c.respond.new.block c.respond.new.held) c.respond.new.out c.respond.result)
    c.in_ok-medium.ensures.medium.2 c.respond.ensures.outcome

pub returns-clause-served : goal.returns-clause-served
returns-clause-served c = record {
  work = no_work_if_is_some_is_false c.args.self.now.work (sym c.is_some.ensures ∙ c.if-is_some.false);
  enough = search rules;
  there = c.in_ok-medium.ensures.there;
  fits = c.in_ok-medium.ensures.block_fits;
}
