use Rattle.std.proofs.Common.{ℕ, ◌≤◌, length, sym, subst}
use Rattle.dfu_host_c.proofs.steps.step.Goals as goal

pub returns-clause-held : goal.returns-clause-held
returns-clause-held c = λ payload carries. record {
  stands = c.record_of.ensures.says payload (c.take-count.ensures.payload payload carries);
  room = subst (λ (n : ℕ). n ≤ length c.take-count.new.room) (sym c.record_of.ensures.kept) c.take-count.ensures.within;
}
