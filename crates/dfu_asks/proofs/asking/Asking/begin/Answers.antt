use Rattle.std.proofs.Common.{ap, refl}
use Rattle.dfu_device.specs.DeviceView.{DeviceView}
use Rattle.dfu_device.specs.Stage.{InDfuIdle}
use Rattle.dfu_device.specs.declared.device_state.DeviceState.TheVariants as device_state
use Rattle.dfu_asks.specs.Lent.{lent}
use Rattle.dfu_asks.proofs.Refuses.{filled_mode_may_be_entered}
use Rattle.dfu_asks.proofs.asking.Asking.begin.Goals as goal

pub returns-clause-device : goal.returns-clause-device
returns-clause-device c block held =
    ap (λ (d : DeviceView). record d { stage = InDfuIdle }) (c.in_ok-device.ensures.device block held)

pub returns-clause-is_device : goal.returns-clause-is_device
returns-clause-is_device c block held =
    filled_mode_may_be_entered (lent c.in_ok-device.device block held) device_state.DfuIdle c.args.flash.now
    (c.in_ok-device.ensures.is_device block held)
    refl
