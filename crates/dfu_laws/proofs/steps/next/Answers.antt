use Rattle.std.specs.Prelude.{◌≡◌, List, ℕ, Some}
use Rattle.std.proofs.Common.{refl}
use Rattle.dfu_slots.specs.Medium.{Torn}
use Rattle.dfu_asks.specs.declared.pending_writes.PendingWrites.{PendingWrites}
use Rattle.dfu_asks.specs.Lent.{lent}
use Rattle.dfu_asks.specs.Carried.{IsStepPiece}
use Rattle.dfu_asks.specs.Asks.{steps_in}
use Rattle.dfu_asks.specs.Refused.{HasRemainingWrites}
use Rattle.dfu_asks.specs.Jobs.{step_of_piece}
use Rattle.dfu_laws.specs.board.Board.{Write, Nothing}
use Rattle.dfu_laws.specs.board.Happens.{EventOutcome}
use Rattle.dfu_laws.specs.board.Steps.{board_of_parts}
use Rattle.dfu_laws.proofs.board.DeviceCalls.{weaken_on_some_by_two}
use Rattle.dfu_laws.proofs.steps.next.Goals as goal

pub returns-clause-written : goal.returns-clause-written
returns-clause-written c =
    let a = c.args.asking.now in
    let l = lent a c.args.block.now c.args.held.now in
    let at = λ (flash : List ℕ). board_of_parts a c.args.block.now c.args.held.now flash in
    let flash = c.args.flash.now in
    let out = c.next.new.out in
    weaken_on_some_by_two (λ p. (w : PendingWrites) → a.work ≡ Some w → IsStepPiece (steps_in l w) w.done (step_of_piece p out))
    (λ p. (w : PendingWrites) × HasRemainingWrites l w)
    (λ p. (now : List ℕ) → Torn flash (step_of_piece p out).write.at (step_of_piece p out).write.bytes now
    → EventOutcome (at flash) Write Nothing (at now))
    c.next.result
    (λ p piece due now torn. (
      refl,
      record {
        piece = step_of_piece p out;
        handed = (due.0, due.1.work_is, piece due.0 due.1.work_is);
        torn = torn;
        asking = refl;
        block = refl;
        held = refl;
      },
    )) c.next.ensures.piece c.next.ensures.due
