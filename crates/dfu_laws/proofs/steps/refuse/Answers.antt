use Rattle.std.proofs.Common.{◌≡◌, refl}
use Rattle.dfu_laws.specs.board.Steps.{board_of_parts}
use Rattle.dfu_laws.proofs.board.DeviceCalls.{weaken_on_error}
use Rattle.dfu_laws.proofs.board.RefuseSteps.{refuse_result_is_outcome}
use Rattle.dfu_laws.proofs.steps.refuse.Goals as goal

pub returns-clause-step : goal.returns-clause-step
returns-clause-step c block held flash =
    let a = c.args.asking.now in
    let a' = c.refuse.new.self in
    refuse_result_is_outcome (board_of_parts a block held flash)
    (board_of_parts a' block held flash) refl c.args.objection c.refuse.result c.refuse.ensures.work
    (c.refuse.ensures.is_device block held flash) (c.refuse.ensures.row block held flash)
    (weaken_on_error c.refuse.result (λ (e : a' ≡ a). λ i. board_of_parts (e i) block held flash) c.refuse.ensures.unchanged)
