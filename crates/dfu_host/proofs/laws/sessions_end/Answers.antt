use Rattle.dfu_host.proofs.Aborting.{abort_is_final, abort_spends_no_action}
use Rattle.dfu_host.proofs.Budget.{done_in_time, finished_host_is_stable}
use Rattle.dfu_host.proofs.laws.sessions_end.Goals as goal

pub returns : goal.returns
returns c = record { in_time = done_in_time; stays = finished_host_is_stable; aborted = abort_is_final; spends = abort_spends_no_action }
