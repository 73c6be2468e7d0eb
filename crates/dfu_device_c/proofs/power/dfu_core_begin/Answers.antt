use Rattle.std.proofs.Common.{true, refl, w32, arith}
use Rattle.std.proofs.lemmas.Int.{to_z-of_z}
use Rattle.dfu_device_c.proofs.Powered.{power_number_is_restart_call}
use Rattle.dfu_device_c.proofs.power.dfu_core_begin.Goals as goal

pub returns : goal.returns
returns c =
    let restart = power_number_is_restart_call c.args.config.now true c.args.flash.now _ c.start.result c.args.device.now c.start.new.device
    (to_z-of_z w32 _ (omega (arith, c.start.type_inv))) (c.start.ensures.dfu refl) in
    record { outcome = restart.outcome; step = restart.step; powered_on = restart.on }
