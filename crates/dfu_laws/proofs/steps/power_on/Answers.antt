use Rattle.std.specs.Prelude.{false}
use Rattle.std.proofs.Common.{refl, sym, subst}
use Rattle.dfu_slots.specs.Medium.{MediumState}
use Rattle.dfu_slots.specs.Image.{HasImage}
use Rattle.dfu_laws.specs.board.Board.{Restart, Nothing}
use Rattle.dfu_laws.specs.board.Happens.{BoardStarts, EventOutcome}
use Rattle.dfu_laws.specs.board.Steps.{board_of_parts}
use Rattle.dfu_laws.proofs.board.DeviceCalls.{power_on_result_starts_board, result_is_some, weaken_on_some}
use Rattle.dfu_laws.proofs.steps.power_on.Goals as goal

pub returns-clause-board_starts : goal.returns-clause-board_starts
returns-clause-board_starts c = λ block held.
    power_on_result_starts_board c.power_on.result block held c.args.flash.now c.args.config c.args.unit c.args.sector
    (c.power_on.ensures.device block held) (c.power_on.ensures.is_device block held) c.power_on.ensures.work c.power_on.ensures.sector

pub returns-clause-step : goal.returns-clause-step
returns-clause-step c = λ b block held same.
    weaken_on_some (λ a. BoardStarts false (board_of_parts a block held c.args.flash.now))
    (λ a. EventOutcome b (Restart false) Nothing (board_of_parts a block held c.args.flash.now)) c.power_on.result
    (λ a on. (refl, sym same, on))
    (power_on_result_starts_board c.power_on.result block held c.args.flash.now c.args.config c.args.unit c.args.sector
    (c.power_on.ensures.device block held) (c.power_on.ensures.is_device block held) c.power_on.ensures.work c.power_on.ensures.sector)

pub returns-clause-starts : goal.returns-clause-starts
returns-clause-starts c = λ b b' steps on run same.
    let first = on.is.store.has_image in
    let kept = c.boards_keep_an_image.ensures.keeps b b' steps first.image on first.active run in
    result_is_some c.power_on.result c.power_on.ensures.none
    (subst (λ (m : MediumState). HasImage m) same (record { image = kept.now; active = kept.active }))
