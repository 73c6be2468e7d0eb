use Rattle.std.proofs.Common.{◌⊎◌, inl, inr}
use Rattle.dfu_host.proofs.task.Task.row.Goals as goal

either_case_follows : {A B C : Type 0} → A ⊎ B → (A → C) → (B → C) → C
either_case_follows (inl a) first second = first a
either_case_follows (inr b) first second = second b

pub returns-in-Find-clause-next : goal.returns-in-Find-clause-next
returns-in-Find-clause-next c = λ memory memory' part keeps compares. either_case_follows c.in-Find.is
    (λ is. rw is (rw is at c.on_status.ensures.next memory' part))
    (λ is. rw is (rw is at c.on_status.ensures.next memory' part))

pub returns-in-FindAgain-clause-next : goal.returns-in-FindAgain-clause-next
returns-in-FindAgain-clause-next c = λ memory memory' part keeps compares.
    rw c.in-FindAgain.is (rw c.in-FindAgain.is at c.on_status-in-FindAgain.ensures.next memory' part)

pub returns-in-Poll-clause-next : goal.returns-in-Poll-clause-next
returns-in-Poll-clause-next c = λ memory memory' part keeps compares. either_case_follows c.in-Poll.is
    (λ is. rw is.1 (rw is.1 at c.on_status-in-Poll.ensures.next memory' part))
    (λ is. rw is (rw is at c.on_status-in-Poll.ensures.next memory' part))

pub returns-in-Detach-clause-within : goal.returns-in-Detach-clause-within
returns-in-Detach-clause-within c = c.on_ack.ensures.within c.args.self.now.goal c.args.self.now.transfer tt tt tt

pub returns-in-WaitFind-clause-within : goal.returns-in-WaitFind-clause-within
returns-in-WaitFind-clause-within c = c.on_waited.ensures.within c.args.self.now.goal c.args.self.now.transfer tt c.requires

pub returns-in-Block-clause-within : goal.returns-in-Block-clause-within
returns-in-Block-clause-within c =
    let sends = rw c.in-Block.is at c.requires in
    c.on_ack-in-Block.ensures.within c.args.self.now.goal c.args.self.now.transfer sends tt sends

pub returns-in-WaitPoll-clause-within : goal.returns-in-WaitPoll-clause-within
returns-in-WaitPoll-clause-within c =
    let sends = rw c.in-WaitPoll.is at c.requires in
    c.on_waited-in-WaitPoll.ensures.within c.args.self.now.goal c.args.self.now.transfer sends sends

pub returns-in-Close-clause-within : goal.returns-in-Close-clause-within
returns-in-Close-clause-within c =
    let closes = rw c.in-Close.is at c.requires in
    c.on_ack-in-Close.ensures.within c.args.self.now.goal c.args.self.now.transfer tt tt closes

pub returns-in-WaitManifest-clause-within : goal.returns-in-WaitManifest-clause-within
returns-in-WaitManifest-clause-within c = c.on_waited-in-WaitManifest.ensures.within c.args.self.now.goal c.args.self.now.transfer tt c.requires

pub returns-in-WaitLast-clause-within : goal.returns-in-WaitLast-clause-within
returns-in-WaitLast-clause-within c = c.on_waited-in-WaitLast.ensures.within c.args.self.now.goal c.args.self.now.transfer tt c.requires
