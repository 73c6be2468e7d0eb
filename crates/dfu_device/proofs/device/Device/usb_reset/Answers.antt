use Rattle.std.proofs.Common.{length}
use Rattle.dfu_device.proofs.PlanRows.{filled_mode_is_device_part}
use Rattle.dfu_device.proofs.device.Device.usb_reset.Goals as goal

pub invariant_of-self-inside : goal.invariant_of-self-inside
invariant_of-self-inside g c =
    let d = c.self.inside.core in
    let n = length d.block.items in
    record {
      sound = filled_mode_is_device_part d.mode c.after_reset-self-inside.result n d.slots d.sound
          (c.after_reset-self-inside.ensures.filled n d.slots);
    }
