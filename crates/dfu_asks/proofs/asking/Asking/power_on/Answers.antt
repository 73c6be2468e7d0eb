use Rattle.std.proofs.Common.{refl}
use Rattle.dfu_slots.specs.StoreView.{store_on}
use Rattle.dfu_slots.specs.Store.{IsStore}
use Rattle.dfu_slots.proofs.VisibleStores.{medium_makes_fresh_store}
use Rattle.dfu_asks.specs.Mapped.{mapped_medium}
use Rattle.dfu_asks.proofs.Working.{idle_store_is_sound}
use Rattle.dfu_asks.proofs.asking.Asking.power_on.Goals as goal

pub returns-clause-is_device : goal.returns-clause-is_device
returns-clause-is_device c = λ block held.
    let m = mapped_medium (record { unit = c.args.unit; sector = c.args.sector.size }) c.args.flash.now in
    let store : IsStore (store_on m) = (medium_makes_fresh_store c.in_ok-noted.ensures.image refl refl).store in
    record { store = store; sound = idle_store_is_sound (store_on m) store; noted = c.in_ok-noted.ensures.some }
