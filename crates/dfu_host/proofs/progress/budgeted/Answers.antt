use Rattle.dfu_host.proofs.Steps.{spent_budget_gives_up, unspent_budget_keeps_phase}
use Rattle.dfu_host.proofs.progress.budgeted.Goals as goal

pub returns-in_default : goal.returns-in_default
returns-in_default c = record {
  next = λ memory. spent_budget_gives_up memory c.args.phase c.args.left c.in_default.not-Over c.in_default.not-OverUploaded
      c.if-left-eq0.true;
  within = λ task h. tt;
}

pub returns-in_default-2 : goal.returns-in_default-2
returns-in_default-2 c = record {
  next = λ memory. unspent_budget_keeps_phase memory c.args.phase c.args.left c.if-left-eq0.false;
  within = λ task h. h;
}
