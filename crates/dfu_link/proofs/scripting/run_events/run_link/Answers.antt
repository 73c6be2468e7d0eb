use Rattle.std.proofs.Common.{◌≡◌, arith, true, false}
use Rattle.std.proofs.lemmas.Result.{err_from_is_err_and}
use Rattle.dfu_link.specs.LineContent.{given_bytes}
use Rattle.dfu_link.specs.inside.Moving.{all_done, one_line_left}
use Rattle.dfu_link.proofs.MoveLaws.{next_line_joins, image_after_lines_exhausts}
use Rattle.dfu_link.proofs.FallLaws.{source_line_fails_after_moves, image_line_fails_after_moves, stopped_source_fails_after_moves}
use Rattle.dfu_link.proofs.RestLaws.{given_line_is_done, given_line_fails, deferred_line_does_nothing, undeferred_line_is_done}
use Rattle.dfu_link.proofs.scripting.run_events.run_link.Goals as goal

pub returns-in_err-first_line-clause-fault : goal.returns-in_err-first_line-clause-fault
returns-in_err-first_line-clause-fault g c =
    let failed = err_from_is_err_and c.from_residual.result c.from_residual.ensures.1 in
    rw (failed.1, failed.2) (given_line_fails c.number.ensures c.line.ensures c.in_err-first_line.ensures.fault)

pub lines-init : goal.lines-init
lines-init g c = record {
  room = omega arith;
  moves = given_line_is_done c.number.ensures c.line.ensures c.in_ok-first_line.ensures.ok;
}

pub returns-in_err-next-clause-fault : goal.returns-in_err-next-clause-fault
returns-in_err-next-clause-fault g c =
    let failed = err_from_is_err_and c.from_residual-in_err-next.result c.from_residual-in_err-next.ensures.1 in
    rw (failed.1, failed.2)
    (λ s given. stopped_source_fails_after_moves (c.lines.invariant.moves s given) (c.in_err-next.ensures.fault (given_bytes
    c.lines.context.given)))

pub returns-in_err-image_next-clause-fault : goal.returns-in_err-image_next-clause-fault
returns-in_err-image_next-clause-fault g c =
    let failed = err_from_is_err_and c.from_residual-in_err-image_next.result c.from_residual-in_err-image_next.ensures.1 in
    let stops : c.in_ok-next.field-0 ≡ false = grind (arith, c.if-not-branch.true) in
    rw (failed.1, failed.2) (λ s given. image_line_fails_after_moves (c.lines.invariant.moves s given) (rw stops at c.in_ok-next.ensures.ok)
    (rw c.device.ensures.device at c.in_err-image_next.ensures))

pub returns-then-not-branch-clause-ok : goal.returns-then-not-branch-clause-ok
returns-then-not-branch-clause-ok g c =
    let stops : c.in_ok-next.field-0 ≡ false = grind (arith, c.if-not-branch.true) in
    λ s given. all_done (image_after_lines_exhausts (c.lines.invariant.moves s given) (rw stops at c.in_ok-next.ensures.ok)
    (rw c.device.ensures.device at c.in_ok-image_next.ensures))

pub returns-then-is_over-clause-ok : goal.returns-then-is_over-clause-ok
returns-then-is_over-clause-ok g c =
    let goes_on : c.in_ok-next.field-0 ≡ true = grind (arith, c.if-not-branch.false) in
    λ s given. one_line_left (c.lines.invariant.moves s given) (rw goes_on at c.in_ok-next.ensures.ok)

pub returns-in_err-later_line-clause-fault : goal.returns-in_err-later_line-clause-fault
returns-in_err-later_line-clause-fault g c =
    let failed = err_from_is_err_and c.from_residual-in_err-later_line.result c.from_residual-in_err-later_line.ensures.1 in
    let goes_on : c.in_ok-next.field-0 ≡ true = grind (arith, c.if-not-branch.false) in
    rw (failed.1, failed.2) (λ s given. source_line_fails_after_moves (c.lines.invariant.moves s given) (rw goes_on at
    c.in_ok-next.ensures.ok)
    c.number-in-lines.ensures c.line-in-lines.ensures c.in_err-later_line.ensures.fault)

pub returns-then-branch-clause-ok : goal.returns-then-branch-clause-ok
returns-then-branch-clause-ok g c =
    let goes_on : c.in_ok-next.field-0 ≡ true = grind (arith, c.if-not-branch.false) in
    λ s given. one_line_left (deferred_line_does_nothing (rw c.if-branch.true at c.in_ok-later_line.ensures.ok) (c.lines.invariant.moves s
    given))
    (rw goes_on at c.in_ok-next.ensures.ok)

pub lines-preserved : goal.lines-preserved
lines-preserved g c =
    let goes_on : c.in_ok-next.field-0 ≡ true = grind (arith, c.if-not-branch.false) in
    record {
      room = omega (arith, c.lines.invariant.room, c.next.ensures.room);
      moves = λ s given. next_line_joins (c.lines.invariant.moves s given) (rw goes_on at c.in_ok-next.ensures.ok) c.number-in-lines.ensures
          c.line-in-lines.ensures (undeferred_line_is_done (rw c.if-branch.false at c.in_ok-later_line.ensures.ok));
    }
