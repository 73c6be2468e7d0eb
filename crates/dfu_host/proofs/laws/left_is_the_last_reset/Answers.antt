use Rattle.dfu_host.proofs.Leaving.{nothing_confirms_after_close, compare_follows_close, restart_before_close}
use Rattle.dfu_host.proofs.laws.left_is_the_last_reset.Goals as goal

pub returns : goal.returns
returns c = record { ends = nothing_confirms_after_close; compares = compare_follows_close; elsewhere = restart_before_close }
