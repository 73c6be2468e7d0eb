use Rattle.std.proofs.Common.{◌∙◌}
use Rattle.dfu_host.specs.inside.View.{host_of_progress}
use Rattle.dfu_host.proofs.Steps.{spent_restarts_end_session, restart_leads_to_find}
use Rattle.dfu_host.proofs.progress.Progress.restarted.Goals as goal

pub returns-then-self-eq0-clause-state : goal.returns-then-self-eq0-clause-state
returns-then-self-eq0-clause-state c = λ task memory old.
    c.spent-then-self-eq0.ensures.state task memory old
    ∙ spent_restarts_end_session (host_of_progress old task c.args.self) old c.args.self.phase c.args.self.restarts
    c.in_default.not-GiveUp c.if-self-eq0.true

pub returns-else-self-eq0-clause-state : goal.returns-else-self-eq0-clause-state
returns-else-self-eq0-clause-state c = λ task memory old.
    c.spent-else-self-eq0.ensures.state task memory old
    ∙ restart_leads_to_find (host_of_progress old task c.args.self) old c.args.self.phase c.args.self.restarts
    c.in_default.not-GiveUp c.if-self-eq0.false

pub returns-in-GiveUp-clause-within : goal.returns-in-GiveUp-clause-within
returns-in-GiveUp-clause-within c = λ task. c.spent.ensures.within task tt

pub returns-then-self-eq0-clause-within : goal.returns-then-self-eq0-clause-within
returns-then-self-eq0-clause-within c = λ task. c.spent-then-self-eq0.ensures.within task tt

pub returns-else-self-eq0-clause-within : goal.returns-else-self-eq0-clause-within
returns-else-self-eq0-clause-within c = λ task. c.spent-else-self-eq0.ensures.within task tt
