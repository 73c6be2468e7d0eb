-- Faults of settings with which no device can be configured.
use Rattle.std.specs.Prelude.{◌≢◌, ◌%◌, ◌<◌, length}
use Rattle.dfu_slots.specs.Units.{IsMultiple}
use Rattle.dfu_link.specs.ScriptRun.{Settings}
use Rattle.dfu_link.specs.declared.scripting.setup_fault.SetupFault.{SetupFault}
use Rattle.dfu_link.specs.declared.scripting.setup_fault.SetupFault.TheVariants as fault

-- The settings have this fault, which involves the capacity.
abbrev pub HasRoomFault : SetupFault → Settings → Type 0
HasRoomFault fault.Unit s = ¬ IsMultiple s.grain.unit s.capacity
HasRoomFault fault.Sector s = (0 < s.grain.sector) × (s.capacity % s.grain.sector ≢ 0)
HasRoomFault fault.Image s = s.capacity < length s.image
HasRoomFault f s = ⊥
