use Rattle.std.proofs.Common.{refl, arith, inl, inr}
use Rattle.dfu_host.proofs.Counts.{payload_has_first_block}
use Rattle.dfu_host.proofs.task.Task.start.Goals as goal

pub returns-in-Load-clause-next : goal.returns-in-Load-clause-next
returns-in-Load-clause-next c = λ memory. rw c.in-Load.is refl

pub returns-in-Load-clause-within : goal.returns-in-Load-clause-within
returns-in-Load-clause-within c =
    payload_has_first_block c.args.self.now.goal c.args.self.now.transfer c.in-Load.field-0 (inl c.in-Load.is) c.args.self.now.some

pub returns-in-Verify-clause-next : goal.returns-in-Verify-clause-next
returns-in-Verify-clause-next c = λ memory. rw c.in-Verify.is refl

pub returns-in-Verify-clause-within : goal.returns-in-Verify-clause-within
returns-in-Verify-clause-within c =
    payload_has_first_block c.args.self.now.goal c.args.self.now.transfer c.in-Verify.field-0 (inr c.in-Verify.is) c.args.self.now.some

pub returns-in-Fetch-clause-next : goal.returns-in-Fetch-clause-next
returns-in-Fetch-clause-next c = λ memory. rw c.in-Fetch.is refl

pub returns-in-Fetch-clause-within : goal.returns-in-Fetch-clause-within
returns-in-Fetch-clause-within c = (rw c.in-Fetch.is tt, omega arith)

pub returns-in-Compare-clause-next : goal.returns-in-Compare-clause-next
returns-in-Compare-clause-next c = λ memory. rw c.in-Compare.is refl
