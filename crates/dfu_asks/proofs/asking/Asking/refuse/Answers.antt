use Rattle.std.proofs.Common.{length}
use Rattle.dfu_device.proofs.PlanRows.{parts_have_mode_bytes}
use Rattle.dfu_asks.specs.Lent.{lent}
use Rattle.dfu_asks.specs.Asks.{flash_store}
use Rattle.dfu_asks.proofs.Refuses.{filled_mode_may_be_entered}
use Rattle.dfu_asks.proofs.asking.Asking.refuse.Goals as goal

pub returns-clause-is_device : goal.returns-clause-is_device
returns-clause-is_device c block held flash is =
    let l = lent c.args.self.now block held in
    filled_mode_may_be_entered l c.after_refusal-self.result flash is
    (c.after_refusal-self.ensures.filled (length l.block) (flash_store l flash)
    (parts_have_mode_bytes l.mode (length l.block) (flash_store l flash) is.sound))
