use Rattle.std.specs.Prelude.{◌≢◌, ℕ}
use Rattle.std.proofs.Common.{arith, ◌∙◌, get_or-set_other, length-set}
use Rattle.dfu_conformance.specs.Candidates.{applies_to}
use Rattle.dfu_conformance.proofs.JoinedBits.{next_word_is_joined}
use Rattle.dfu_conformance.proofs.held.join.Goals as goal

pub loop-a-preserved : goal.loop-a-preserved
loop-a-preserved c =
    let i = c.loop-a.invariant in
    record {
      size = length-set _ _ _ ∙ i.size;
      done =
          next_word_is_joined c.loop-a.after c.args.to.now c.args.from.now c.loop-a.a c.word.result (λ (a r : ℕ). applies_to c.args.when a
          r)
          (omega arith)
          i.kept i.done c.word.ensures;
      kept = λ a above. let other : a ≢ c.loop-a.a = omega arith in get_or-set_other c.loop-a.after c.loop-a.a a _ 0 other
          ∙ i.kept a (omega arith);
    }
