use Rattle.dfu_asks.specs.Cuts.{step_of_cut}
use Rattle.dfu_asks.specs.Asks.{steps_in}
use Rattle.dfu_asks.specs.Lent.{lent}
use Rattle.dfu_asks.proofs.CallResults.{true_test_holds, negation_true_if_false, no_bytes_left}
use Rattle.dfu_asks.proofs.Cutting.{cut_step_has_piece_size, found_piece_is_in_work, none_left_in_steps}
use Rattle.dfu_asks.proofs.asking.Asking.look_at.Goals as goal

pub returns-clause-next : goal.returns-clause-next
returns-clause-next c = λ some.
    let w = c.args.work.now in
    let yes = true_test_holds c.next_piece.result c.if-not-next_piece.false in
    let cut = c.next_piece.new.cut in
    let size = cut_step_has_piece_size _ cut (c.next_piece.ensures.found_piece yes) in
    record {
      piece = step_of_cut cut;
      is = found_piece_is_in_work (lent c.args.self.now c.args.block.now c.args.held.now) w c.inputs.result c.inputs.ensures.steps
          c.cut_at-cut.result
          c.cut_at-cut.ensures.inputs c.cut_at-cut.ensures.rest (step_of_cut cut) (c.next_piece.ensures.found yes);
      size = size;
      within = c.stands.ensures.within;
      there = c.stands.ensures.stands;
    }

pub returns-then-not-next_piece-clause-none : goal.returns-then-not-next_piece-clause-none
returns-then-not-next_piece-clause-none c = λ zero.
    let w = c.args.work.now in
    let a = lent c.args.self.now c.args.block.now c.args.held.now in
    no_bytes_left a w (none_left_in_steps w.job c.inputs.result (steps_in a w) (c.inputs.ensures.steps w) w.done c.cut_at-cut.result
    c.cut_at-cut.ensures.inputs c.cut_at-cut.ensures.rest
    (c.next_piece.ensures.none (negation_true_if_false c.next_piece.result c.if-not-next_piece.true)))
