use Rattle.dfu_laws.proofs.board.Boards.{runs_refine_device_table, idle_runs_refine_table, runs_keep_image, image_stays_in_run, manifestation_installs}
use Rattle.dfu_laws.proofs.board.Cut.{write_laws}
use Rattle.dfu_laws.proofs.board.SlotRuns.{idle_runs_keep_slots}
use Rattle.dfu_laws.proofs.laws.boards_make_rows.Goals as goal

pub returns : goal.returns
returns c =
    let laws = write_laws c.pieces_are_the_writes.ensures.torn c.steps_are_the_writes.ensures
    c.writes_are_the_calls.ensures.block_broken c.writes_are_the_calls.ensures.commit_broken in
    let takes = c.rows_take.ensures.row in
    let only = c.active_image_is_one.ensures.only in
    record {
      power = runs_refine_device_table laws takes only;
      idle = idle_runs_refine_table laws takes only;
      slots = idle_runs_keep_slots laws takes;
      keeps = runs_keep_image laws takes only;
      stays = image_stays_in_run laws takes only;
      installs = manifestation_installs laws takes only;
    }
