use Rattle.std.proofs.Common.{◌==◌, ◌+◌, ℕ, List, arith, sym, ap, ◌∙◌, cond, length}
use Rattle.std.specs.List.{filter}
use Rattle.std.proofs.lemmas.List.{take_all}
use Rattle.std.proofs.lemmas.List.Filters.{length-filter_more}
use Rattle.dfu_conformance.specs.declared.row.StandardState.{StandardState}
use Rattle.dfu_output.specs.declared.judge.names.TheConstants.{STATES}
use Rattle.dfu_output.specs.judge.Texts.{is_single, may_be_in_state}
use Rattle.dfu_output.proofs.judge.texts.is_single.Goals as goal

pub loop-place-preserved : goal.loop-place-preserved
loop-place-preserved c =
    let i = c.loop-place.place-index in
    let more = length-filter_more (may_be_in_state c.args.at.now) STATES i _ (omega arith) in
    let one = c.count_if-count.ensures.value ∙ ap (λ b. cond b 1 0) c.may_be_in_state.ensures in (
      (λ k. c.loop-place.invariant.0 k + one k) ∙ sym more,
      omega (arith, c.loop-place.invariant.1, c.count_if-count.ensures.at_most_1),
    )

pub returns : goal.returns
unfolding is_single
returns c = ap (λ (n : ℕ). n == 1) (c.loop-place.invariant.0
    ∙ ap (λ (ps : List StandardState). length (filter (may_be_in_state c.args.at.now) ps))
    (take_all c.loop-place.place-index STATES (omega arith)))
