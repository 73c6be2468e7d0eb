use Rattle.std.specs.Prelude.{Bool, IsTrue, not, Result, Ok, Err, IfOk}
use Rattle.std.proofs.Common.{◌≡◌, refl}
use Rattle.dfu_asks.specs.declared.reply.Refusal.{Refusal}
use Rattle.dfu_laws.specs.board.Steps.{board_of_parts}
use Rattle.dfu_laws.proofs.board.DeviceCalls.{weaken_on_error}
use Rattle.dfu_laws.proofs.board.RefuseSteps.{close_step}
use Rattle.dfu_laws.proofs.steps.refuse_close.Goals as goal

-- If P implies Q, and P holds when the result is false, Q holds when the result is false.
weaken_on_false : {P Q : Type 0} (r : Result Bool Refusal) → (P → Q) → IfOk r (λ x. IsTrue (not x) → P) → IfOk r (λ x. IsTrue (not x) → Q)
weaken_on_false (Ok x) f p = λ y. f (p y)
weaken_on_false (Err e) f p = tt

pub returns-clause-step : goal.returns-clause-step
returns-clause-step c block held flash =
    let a = c.args.asking.now in
    let a' = c.refuse_close.new.self in
    let same : a' ≡ a → board_of_parts a' block held flash ≡ board_of_parts a block held flash = λ e. λ i. board_of_parts
    (e i) block held flash in
    close_step (board_of_parts a block held flash) (board_of_parts a' block held flash) refl c.args.setup.now c.args.objection
    c.refuse_close.result
    c.refuse_close.ensures.work (c.refuse_close.ensures.is_device block held flash) (c.refuse_close.ensures.closes block held flash)
    (c.refuse_close.ensures.row block held flash) (weaken_on_false c.refuse_close.result same c.refuse_close.ensures.other)
    (weaken_on_error c.refuse_close.result same c.refuse_close.ensures.unchanged)
