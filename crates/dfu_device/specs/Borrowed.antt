-- Size of a buffer for answers.
use Rattle.std.specs.Prelude.{ℕ, max}
use Rattle.dfu_device.specs.Setting.{Setting}

-- Size of a buffer that can hold any answer of a device: six bytes for a status, or the transfer size if that is larger.
abbrev pub answer_room : Setting → ℕ
answer_room s = max 6 s.functional.transfer
