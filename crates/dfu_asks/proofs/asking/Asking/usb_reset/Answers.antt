use Rattle.std.proofs.Common.{length}
use Rattle.dfu_asks.specs.Lent.{lent}
use Rattle.dfu_asks.specs.Asks.{flash_store}
use Rattle.dfu_asks.proofs.Refuses.{filled_mode_may_be_entered}
use Rattle.dfu_asks.proofs.asking.Asking.usb_reset.Goals as goal

pub returns-clause-stays_device : goal.returns-clause-stays_device
returns-clause-stays_device c = λ kept.
    let l = lent c.args.self.now c.args.block.now c.args.held.now in
    record {
      fits = record { block = kept.fits.block; transfer = kept.fits.transfer };
      is = filled_mode_may_be_entered l c.after_reset-self.result c.args.flash.now kept.is
          (c.after_reset-self.ensures.filled (length l.block) (flash_store l c.args.flash.now));
    }
