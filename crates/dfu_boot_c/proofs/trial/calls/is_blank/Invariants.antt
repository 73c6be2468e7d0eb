use Rattle.std.proofs.Common.{◌≡◌, length}
use Rattle.std.specs.List.{list_all}
use Rattle.dfu_boot.specs.trial.Marks.{is_erased}
use Rattle.dfu_boot_c.proofs.trial.calls.is_blank.Given as goal

abbrev pub invariant-loop-rest : goal.invariant-loop-rest
invariant-loop-rest l = list_all is_erased l.rest ≡ list_all is_erased l.flash

abbrev pub decreases-loop-rest : goal.decreases-loop-rest
decreases-loop-rest l = length l.rest
