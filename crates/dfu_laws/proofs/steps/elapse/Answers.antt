use Rattle.std.specs.Prelude.{replicate}
use Rattle.std.proofs.Common.{refl}
use Rattle.dfu_laws.specs.board.Steps.{board_of_parts}
use Rattle.dfu_laws.proofs.board.DeviceCalls.{weaken_on_error, elapse_result_is_served}
use Rattle.dfu_laws.proofs.steps.elapse.Goals as goal

pub returns-clause-step : goal.returns-clause-step
returns-clause-step c =
    let b = board_of_parts c.args.asking.now c.args.block.now c.args.held.now c.args.flash.now in
    let b' = board_of_parts c.elapse.new.self c.elapse.new.block c.elapse.new.held c.args.flash.now in
    elapse_result_is_served b b' c.args.ms (replicate 6 0) c.elapse.result refl c.elapse.ensures.served c.elapse.ensures.outcome
    (weaken_on_error c.elapse.result (λ e. λ i. board_of_parts (e.0 i) (e.1 i) (e.2 i) c.args.flash.now) c.elapse.ensures.unchanged)
