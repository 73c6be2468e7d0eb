use Rattle.std.proofs.Common.{◌≡◌, ◌-◌, ◌≤◌, sym, subst}
use Rattle.dfuse_host.specs.declared.session.Session.{Session}
use Rattle.dfuse_host.specs.Sessions.{remaining_dfuse_inputs}
use Rattle.dfuse_host.proofs.SpentActions.{live_session_uses_up_one_input, over_session_takes_any_result}
use Rattle.dfuse_host.proofs.RunLaws.{heard_step_keeps_plan}
use Rattle.dfuse_host.proofs.session.Session.take.Goals as goal

pub returns-in-On-clause-budget : goal.returns-in-On-clause-budget
returns-in-On-clause-budget c =
    let s = c.args.self.now in
    subst (λ (t : Session). remaining_dfuse_inputs t ≤ remaining_dfuse_inputs s - 1) (sym c.after.ensures)
    (live_session_uses_up_one_input s c.in-On.at c.hear-heard.result c.in-On.is)

pub returns-in-On-clause-plan : goal.returns-in-On-clause-plan
returns-in-On-clause-plan c =
    let s = c.args.self.now in
    let at = c.in-On.at in
    subst (λ (t : Session). t.plan ≡ s.plan) (sym c.after.ensures) (heard_step_keeps_plan s at.work at.place at.step c.hear-heard.result)

pub returns-in_default-clause-row : goal.returns-in_default-clause-row
returns-in_default-clause-row c = over_session_takes_any_result c.args.self.now c.args.seen c.in_default.not-On
