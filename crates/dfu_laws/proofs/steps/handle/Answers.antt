use Rattle.std.specs.Prelude.{length}
use Rattle.std.proofs.Common.{refl}
use Rattle.dfu_device.specs.Rows.{Transfer}
use Rattle.dfu_device.specs.Borrowed.{answer_room}
use Rattle.dfu_laws.specs.board.Steps.{board_of_parts}
use Rattle.dfu_laws.proofs.board.DeviceCalls.{weaken_on_error, handle_result_is_served}
use Rattle.dfu_laws.proofs.steps.handle.Goals as goal

pub returns-clause-step : goal.returns-clause-step
returns-clause-step c =
    let b = board_of_parts c.args.asking.now c.args.block.now c.args.held.now c.args.flash.now in
    let b' = board_of_parts c.handle.new.self c.handle.new.block c.handle.new.held c.args.flash.now in
    handle_result_is_served b b' (Transfer c.args.setup.now c.args.body.now) (answer_room c.args.asking.now.config) (length c.args.out.now)
    c.args.out.now c.handle.new.out c.handle.result refl c.handle.ensures.served c.handle.ensures.outcome
    (weaken_on_error c.handle.result (λ e. λ i. board_of_parts (e.0 i) (e.1 i) (e.2 i) c.args.flash.now) c.handle.ensures.unchanged)
