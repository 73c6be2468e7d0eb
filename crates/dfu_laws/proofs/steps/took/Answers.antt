use Rattle.std.specs.Prelude.{length}
use Rattle.std.proofs.Common.{refl}
use Rattle.dfu_laws.specs.board.Steps.{board_of_parts}
use Rattle.dfu_laws.proofs.board.DeviceCalls.{weaken_on_error, took_result_is_outcome}
use Rattle.dfu_laws.proofs.board.SeriesLimits.{took_advances_piece}
use Rattle.dfu_laws.proofs.steps.took.Goals as goal

pub returns-clause-step : goal.returns-clause-step
returns-clause-step c =
    let b = board_of_parts c.args.asking.now c.args.block.now c.args.held.now c.args.flash.now in
    let b' = board_of_parts c.took.new.self c.args.block.now c.took.new.held c.args.flash.now in
    took_result_is_outcome b b' c.args.failed (length c.args.out.now) c.args.out.now c.took.new.out c.took.result refl
    c.took.ensures.taken c.took.ensures.outcome
    (weaken_on_error c.took.result (λ e. λ i. board_of_parts (e.0 i) c.args.block.now (e.1 i) c.args.flash.now) c.took.ensures.unchanged)

pub returns-clause-piece_advances : goal.returns-clause-piece_advances
returns-clause-piece_advances c =
    let b = board_of_parts c.args.asking.now c.args.block.now c.args.held.now c.args.flash.now in
    let b' = board_of_parts c.took.new.self c.args.block.now c.took.new.held c.args.flash.now in
    took_advances_piece b b' c.args.failed c.took.new.out c.took.result c.took.ensures.piece_advances
