-- Meaning of `ScriptConfig`, the settings of the code.
use Rattle.std.specs.Prelude.{ℕ, List, [], ◌∷◌, Option, Some, None, Vec}
use Rattle.std.specs.declared.alloc.Global.{Global}
use Rattle.dfu_device.specs.declared.config.Pace.{Pace}
use Rattle.dfu_device.specs.Setting.{Setting}
use Rattle.dfu_link.specs.LineContent.{given_bytes}
use Rattle.dfu_link.specs.ScriptRun.{Settings}
use Rattle.dfu_slots.specs.declared.layout.Unit.{Unit as WriteUnit}
use Rattle.dfu_slots.specs.Units.{Grain}
use Rattle.dfu_link.specs.declared.scripting.line.Sector.{Sector}
use Rattle.dfu_link.specs.declared.scripting.script_config.ScriptConfig.{ScriptConfig}

-- Image of the device at the start: the byte 00 if no line sets one.
abbrev pub image_bytes : Option (Vec ℕ Global) → List ℕ
image_bytes None = 0 ∷ []
image_bytes (Some image) = image.items

-- First bytes of each image that the program accepts; empty if it accepts every image.
abbrev pub check_bytes : Option (Vec ℕ Global) → List ℕ
check_bytes None = []
check_bytes (Some front) = front.items

-- Grain of a medium by its unit and its sectors.
abbrev pub setup_grain : WriteUnit → Sector → Grain
setup_grain unit sector = record { unit = unit; sector = sector.bytes }

-- Pace of the device's flash, with the unit and the sectors of the settings.
abbrev pub pace_of : ScriptConfig → Pace
pace_of s = record { erase_ms = s.erase_ms; program_ms = s.program_ms; unit = s.unit; sector = s.sector.bytes }

-- Setting of the device, from the settings of a script.
abbrev pub setting_of_device : ScriptConfig → Setting
setting_of_device s = record {
  ids = s.ids;
  functional = s.functional;
  least = s.least;
  busy_ms = s.busy_ms;
  manifest_ms = s.manifest_ms;
  pace = pace_of s;
}

-- Settings of a script, as plain data.
abbrev pub settings_of : ScriptConfig → Settings
settings_of s = record {
  device = setting_of_device s;
  grain = setup_grain s.unit s.sector;
  capacity = s.room.bytes;
  image = image_bytes s.image;
  check = check_bytes s.check;
  limits = s.limits;
  given = given_bytes s.given;
}
