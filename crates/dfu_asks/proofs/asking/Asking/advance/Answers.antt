use Rattle.std.proofs.Common.{◌≡◌, ◌<◌, ℕ, List, refl, sym, ◌∙◌, ap, subst, arith}
use Rattle.dfu_asks.specs.declared.pending_writes.PendingWrites.{PendingWrites}
use Rattle.dfu_asks.specs.Lent.{LentDevice, lent}
use Rattle.dfu_asks.specs.Carried.{total, bytes_after_writes, EndsAtPiece}
use Rattle.dfu_asks.specs.Asks.{IsWorkingForRow, writes_in, steps_in}
use Rattle.dfu_device.specs.declared.answer.Answer.{Answer}
use Rattle.dfu_asks.specs.Calls.{CallCompleted, outcome_asks, outcome_answered}
use Rattle.dfu_asks.proofs.CallResults.{kept_work_is_unique, work_with_piece_has_bytes_left, answer_same_in_equal_setting}
use Rattle.dfu_asks.proofs.Ended.{carried_writes_end_row, empty_work_ends_row}
use Rattle.dfu_asks.proofs.asking.Asking.advance.Goals as goal

-- A call that is complete with an answer is also complete with any equal answer.
equal_answer_completes_call : (flash out out' : List ℕ) (now : LentDevice) (Row : Answer → List ℕ → Type 0) (x y : Answer) (count n : ℕ) →
    x ≡ y → count ≡ n
    → CallCompleted flash y n out out' now Row → CallCompleted flash x count out out' now Row
equal_answer_completes_call flash out out' now Row x y count n same size e =
    subst (λ (z : Answer). CallCompleted flash z count out out' now Row) (sym same)
    (subst (λ (k : ℕ). CallCompleted flash y k out out' now Row) (sym size) e)

pub returns-then-len-gt0-clause-outcome : goal.returns-then-len-gt0-clause-outcome
returns-then-len-gt0-clause-outcome c = λ work len s was kept working is reached.
    let l = lent c.args.self.now c.args.block.now c.args.held.now in
    let v = c.in-Some.work in
    let same = kept_work_is_unique work v (sym kept ∙ c.in-Some.is) in
    let nx = c.look_at-len.ensures.next c.if-len-gt0.true in
    outcome_asks (record {
      work = v;
      work_is = c.in-Some.is;
      working = subst (λ (x : PendingWrites). IsWorkingForRow l x len s was) same working;
      left = work_with_piece_has_bytes_left l v nx.piece nx.is;
      flash_is = subst (λ (x : PendingWrites). c.args.flash.now ≡ bytes_after_writes was (writes_in l x) x.done) same is;
      reached = subst (λ (x : PendingWrites). EndsAtPiece (steps_in l x) x.done) same reached;
    }) refl refl

pub returns-clause-outcome : goal.returns-clause-outcome
returns-clause-outcome c = λ work len s was kept working is reached.
    let l = lent c.args.self.now c.args.block.now c.args.held.now in
    let v = c.in-Some.work in
    let same = kept_work_is_unique work v (sym kept ∙ c.in-Some.is) in
    let le = c.look_at-len.ensures.none (omega (arith, c.if-len-gt0.false)) in
    outcome_answered c.answer-answer.result.0 c.answer-answer.result.1
    (carried_writes_end_row l (lent c.finish.new.self c.args.block.now c.finish.new.held) v len s was c.args.flash.now
    (subst (λ (x : PendingWrites). IsWorkingForRow l x len s was) same working)
    c.finish.ensures.notes c.answer-answer.result.0 c.answer-answer.result.1
    c.args.out.now c.answer-answer.new.out (subst (λ (x : PendingWrites). c.args.flash.now ≡ bytes_after_writes was (writes_in l x) x.done)
    same is)
    le c.finish.ensures.finished
    (answer_same_in_equal_setting c.args.self.now.config c.finish.new.self.config c.finish.new.self.mode v.asked c.answer-answer.result.0
    c.answer-answer.result.1 c.args.out.now c.answer-answer.new.out c.finish.ensures.same_config.config c.answer-answer.ensures))

pub returns-clause-begun : goal.returns-clause-begun
returns-clause-begun c = λ work len s x count kept working none is.
    let l = lent c.args.self.now c.args.block.now c.args.held.now in
    let v = c.in-Some.work in
    let same = kept_work_is_unique work v (sym kept ∙ c.in-Some.is) in
    let le = c.look_at-len.ensures.none (omega (arith, c.if-len-gt0.false)) in
    let answer_is : x ≡ c.answer-answer.result.0 = cc in
    let count_is : count ≡ c.answer-answer.result.1 = cc in
    equal_answer_completes_call c.args.flash.now c.args.out.now c.answer-answer.new.out (lent c.finish.new.self c.args.block.now
    c.finish.new.held) _ _ _ _ _
    answer_is count_is
    (empty_work_ends_row l (lent c.finish.new.self c.args.block.now c.finish.new.held) v len s c.args.flash.now
    (subst (λ (y : PendingWrites). IsWorkingForRow l y len s c.args.flash.now) same working)
    c.finish.ensures.notes c.answer-answer.result.0 c.answer-answer.result.1
    c.args.out.now c.answer-answer.new.out (omega (arith, le, none, ap (λ (y : PendingWrites). y.done) same)) c.finish.ensures.finished
    (answer_same_in_equal_setting c.args.self.now.config c.finish.new.self.config c.finish.new.self.mode v.asked c.answer-answer.result.0
    c.answer-answer.result.1 c.args.out.now c.answer-answer.new.out c.finish.ensures.same_config.config c.answer-answer.ensures))

pub returns-then-len-gt0-clause-more : goal.returns-then-len-gt0-clause-more
returns-then-len-gt0-clause-more c = λ work kept.
    let l = lent c.args.self.now c.args.block.now c.args.held.now in
    let v = c.in-Some.work in
    let same = kept_work_is_unique v work (sym c.in-Some.is ∙ kept) in
    let nx = c.look_at-len.ensures.next c.if-len-gt0.true in (
      λ asks. subst (λ (x : PendingWrites). x.done < total (writes_in l x)) same (work_with_piece_has_bytes_left l v nx.piece nx.is),
      λ left. refl,
    )

pub returns-clause-more : goal.returns-clause-more
returns-clause-more c = λ work kept.
    let l = lent c.args.self.now c.args.block.now c.args.held.now in
    let same = kept_work_is_unique work c.in-Some.work (sym kept ∙ c.in-Some.is) in
    let le = c.look_at-len.ensures.none (omega (arith, c.if-len-gt0.false)) in
    (λ asks. cc, λ left. absurd (omega (arith, le, subst (λ (x : PendingWrites). x.done < total (writes_in l x)) same left)))
