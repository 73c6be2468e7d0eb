use Rattle.dfu_laws.proofs.board.Accepts.{run_image_passes_check, history_image_passes_check}
use Rattle.dfu_laws.proofs.laws.boards_take_what_is_accepted.Goals as goal

pub returns-clause-at_close : goal.returns-clause-at_close
returns-clause-at_close c = run_image_passes_check c.boards_keep_an_image.ensures.keeps

pub returns-clause-in_time : goal.returns-clause-in_time
returns-clause-in_time c = history_image_passes_check
