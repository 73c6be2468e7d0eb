use Rattle.std.proofs.Common.{◌≡◌, ⊎_elim, length, drop, sym, ◌∙◌, ap, subst, arith}
use Rattle.dfu_asks.specs.declared.pending_writes.PendingWrites.{PendingWrites}
use Rattle.dfu_asks.specs.Lent.{lent}
use Rattle.dfu_asks.specs.Steps.{Step}
use Rattle.dfu_asks.specs.Carried.{total, IsStepPiece, ErasesSectorOrPrograms}
use Rattle.dfu_asks.specs.Cuts.{zero_padded_source}
use Rattle.dfu_asks.specs.Asks.{writes_in, steps_in}
use Rattle.dfu_asks.proofs.Cutting.{cut_step_has_piece_size, found_piece_is_in_work, none_left_in_steps}
use Rattle.dfu_asks.proofs.CallResults.{kept_work_is_unique, true_test_holds, not_true_if_false, negation_true_if_false, piece_of_equal_work, asked_piece_is_unique, work_with_piece_has_bytes_left, no_bytes_left}
use Rattle.dfu_asks.proofs.SpareGate.{asked_piece_in_closed_slot}
use Rattle.dfu_asks.proofs.RowErases.{asked_piece_erases_sector}
use Rattle.dfu_asks.proofs.asking.Asking.next.Goals as goal

pub returns-then-not-next_piece-clause-none : goal.returns-then-not-next_piece-clause-none
returns-then-not-next_piece-clause-none c = λ w p is piece sound.
    let a = lent c.args.self.now c.args.block.now c.args.held.now in
    let v = c.in_ok-work.work in
    let le = no_bytes_left a v (none_left_in_steps v.job c.inputs.result (steps_in a v) (c.inputs.ensures.steps v)
    v.done c.cut_at-cut.result
    c.cut_at-cut.ensures.inputs c.cut_at-cut.ensures.rest
    (c.next_piece.ensures.none (negation_true_if_false c.next_piece.result c.if-not-next_piece.true))) in
    absurd (omega (
      arith,
      le,
      work_with_piece_has_bytes_left a v p (piece_of_equal_work a w v p (kept_work_is_unique w v (sym is
          ∙ c.in_ok-work.was)) piece),
    ))

pub returns-then-not-next_piece-clause-none_pending : goal.returns-then-not-next_piece-clause-none_pending
returns-then-not-next_piece-clause-none_pending c = λ len s was k.
    let a = lent c.args.self.now c.args.block.now c.args.held.now in
    let v = c.in_ok-work.work in
    let le = no_bytes_left a v (none_left_in_steps v.job c.inputs.result (steps_in a v) (c.inputs.ensures.steps v)
    v.done c.cut_at-cut.result
    c.cut_at-cut.ensures.inputs c.cut_at-cut.ensures.rest
    (c.next_piece.ensures.none (negation_true_if_false c.next_piece.result c.if-not-next_piece.true))) in
    let same : k.work ≡ v = kept_work_is_unique k.work v (sym k.work_is ∙ c.in_ok-work.was) in
    omega (arith, le, k.left, ap (λ (x : PendingWrites). x.done) same, ap (λ (x : PendingWrites). total (writes_in a x)) same)

pub returns-then-is_spare-clause-piece : goal.returns-then-is_spare-clause-piece
returns-then-is_spare-clause-piece c = λ w is.
    let a = lent c.args.self.now c.args.block.now c.args.held.now in
    let v = c.in_ok-work.work in
    let found = found_piece_is_in_work a v c.inputs.result c.inputs.ensures.steps c.cut_at-cut.result c.cut_at-cut.ensures.inputs
    c.cut_at-cut.ensures.rest
    _ (c.next_piece.ensures.found (true_test_holds c.next_piece.result c.if-not-next_piece.false)) in
    subst (λ (y : Step). IsStepPiece (steps_in a w) w.done y) (sym c.fill.ensures.step)
    (piece_of_equal_work a v w _ (kept_work_is_unique v w (sym c.in_ok-work.was ∙ is)) found)

pub returns-then-is_spare-clause-due : goal.returns-then-is_spare-clause-due
returns-then-is_spare-clause-due c =
    let a = lent c.args.self.now c.args.block.now c.args.held.now in
    let v = c.in_ok-work.work in
    let found = found_piece_is_in_work a v c.inputs.result c.inputs.ensures.steps c.cut_at-cut.result c.cut_at-cut.ensures.inputs
    c.cut_at-cut.ensures.rest
    _ (c.next_piece.ensures.found (true_test_holds c.next_piece.result c.if-not-next_piece.false)) in
    (v, record { work_is = c.in_ok-work.was; left = work_with_piece_has_bytes_left a v _ found })

pub returns-then-not-is_sound-clause-none : goal.returns-then-not-is_sound-clause-none
returns-then-not-is_sound-clause-none c = λ w p is piece sound.
    let a = lent c.args.self.now c.args.block.now c.args.held.now in
    let v = c.in_ok-work.work in
    let found = found_piece_is_in_work a v c.inputs.result c.inputs.ensures.steps c.cut_at-cut.result c.cut_at-cut.ensures.inputs
    c.cut_at-cut.ensures.rest
    _ (c.next_piece.ensures.found (true_test_holds c.next_piece.result c.if-not-next_piece.false)) in
    let one = asked_piece_is_unique a v w p _ (kept_work_is_unique w v (sym is ∙ c.in_ok-work.was)) piece found in
    absurd (not_true_if_false c.is_sound.result c.if-not-is_sound.true
    ((c.is_sound.ensures (drop c.next_piece.new.cut.from
    (zero_padded_source c.next_piece.new.cut.source c.next_piece.new.cut.inputs c.next_piece.new.cut.front))).1
    (subst (λ (y : Step). ErasesSectorOrPrograms a.sector.size y) one sound)))

pub returns-then-not-is_sound-clause-none_pending : goal.returns-then-not-is_sound-clause-none_pending
returns-then-not-is_sound-clause-none_pending c = λ len s was k.
    let a = lent c.args.self.now c.args.block.now c.args.held.now in
    let v = c.in_ok-work.work in
    let found = found_piece_is_in_work a v c.inputs.result c.inputs.ensures.steps c.cut_at-cut.result c.cut_at-cut.ensures.inputs
    c.cut_at-cut.ensures.rest
    _ (c.next_piece.ensures.found (true_test_holds c.next_piece.result c.if-not-next_piece.false)) in
    let piece = piece_of_equal_work a v k.work _ (kept_work_is_unique v k.work (sym c.in_ok-work.was ∙ k.work_is)) found in
    not_true_if_false c.is_sound.result c.if-not-is_sound.true
    ((c.is_sound.ensures (drop c.next_piece.new.cut.from
    (zero_padded_source c.next_piece.new.cut.source c.next_piece.new.cut.inputs c.next_piece.new.cut.front))).1
    (asked_piece_erases_sector a len s was c.args.flash.now k _ piece))

pub returns-then-is_spare-clause-spare : goal.returns-then-is_spare-clause-spare
returns-then-is_spare-clause-spare c = c.is_spare.ensures.yes (true_test_holds c.is_spare.result c.if-is_spare.true)

pub returns-else-is_spare-clause-none : goal.returns-else-is_spare-clause-none
returns-else-is_spare-clause-none c = λ w p is piece sound slot either low high.
    let a = lent c.args.self.now c.args.block.now c.args.held.now in
    let v = c.in_ok-work.work in
    let found = found_piece_is_in_work a v c.inputs.result c.inputs.ensures.steps c.cut_at-cut.result c.cut_at-cut.ensures.inputs
    c.cut_at-cut.ensures.rest
    _ (c.next_piece.ensures.found (true_test_holds c.next_piece.result c.if-not-next_piece.false)) in
    let one = asked_piece_is_unique a v w p _ (kept_work_is_unique w v (sym is ∙ c.in_ok-work.was)) piece found in
    let place = ap (λ (y : Step). y.write.at) one in
    let size : length p.write.bytes ≡ c.next_piece.new.cut.piece.len =
    ap (λ (y : Step). length y.write.bytes) one ∙ (cut_step_has_piece_size _ c.next_piece.new.cut (c.next_piece.ensures.found_piece (true_test_holds
    c.next_piece.result c.if-not-next_piece.false))) in
    c.is_spare.ensures.no (negation_true_if_false c.is_spare.result c.if-is_spare.false) slot either (omega (arith, low, place))
    (omega (arith, high, place, size))

pub returns-else-is_spare-clause-none_pending : goal.returns-else-is_spare-clause-none_pending
returns-else-is_spare-clause-none_pending c = λ len s was k.
    let a = lent c.args.self.now c.args.block.now c.args.held.now in
    let v = c.in_ok-work.work in
    let found = found_piece_is_in_work a v c.inputs.result c.inputs.ensures.steps c.cut_at-cut.result c.cut_at-cut.ensures.inputs
    c.cut_at-cut.ensures.rest
    _ (c.next_piece.ensures.found (true_test_holds c.next_piece.result c.if-not-next_piece.false)) in
    let piece = piece_of_equal_work a v k.work _ (kept_work_is_unique v k.work (sym c.in_ok-work.was ∙ k.work_is)) found in
    let g = asked_piece_in_closed_slot a len s was c.args.flash.now k _ piece in
    let no = c.is_spare.ensures.no (negation_true_if_false c.is_spare.result c.if-is_spare.false) g.slot g.either g.low
    (omega (
      arith,
      g.high,
      (cut_step_has_piece_size _ c.next_piece.new.cut (c.next_piece.ensures.found_piece (true_test_holds c.next_piece.result
          c.if-not-next_piece.false))),
    )) in
    ⊎_elim (λ shut. shut no.0) (λ there. no.1 there.0 there.1) g.shut
