-- State of a device's core, in the form that contracts use.
use Rattle.dfu_slots.specs.declared.medium.Medium.{Ghosts}
use Rattle.dfu_device.specs.declared.device_core.DeviceCore.{DeviceCore}
use Rattle.dfu_device.specs.DeviceView.{DeviceView}
use Rattle.dfu_device.specs.Parts.{view_of_parts}

-- State of a core: its settings, its slot store, and the stage of its mode.
abbrev pub view_of_core : {M : Type 0} {ops : Ghosts M} → DeviceCore M ops → DeviceView
view_of_core d = view_of_parts d.config d.slots d.mode d.block.items
