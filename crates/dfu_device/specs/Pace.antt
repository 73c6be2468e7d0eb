-- Time that a device's flash takes for a block and for an image.
use Rattle.std.specs.Prelude.{ℕ, ◌+◌, ◌-◌, ◌*◌, ◌/◌, ◌%◌, ◌^◌, ◌==◌, nat_le, min, if◌then◌else◌}
use Rattle.dfu_slots.specs.declared.layout.Unit.TheVariants.{Byte}
use Rattle.dfu_slots.specs.Units.{unit_size, whole_part}
use Rattle.dfu_device.specs.declared.config.Pace.{Pace}

-- Pace at which erases and programs take no time.
abbrev pub no_pace : Pace
no_pace = record { erase_ms = 0; program_ms = 0; unit = Byte; sector = 0 }

-- Number of sectors, each of `sector` bytes, that begin in the range of `count` bytes from offset `at`.
abbrev pub sector_starts_from : (sector at count : ℕ) → ℕ
sector_starts_from sector at count =
    let behind = at % sector in
    let rest = if behind == 0 then 0 else sector - behind in
    if nat_le count rest then 0 else (count - rest - 1) / sector + 1

-- Milliseconds to erase `count` sectors; 0 if the flash is overwritten in place.
abbrev pub erases_ms : Pace → ℕ → ℕ
erases_ms p count = if p.sector == 0 then 0 else count * p.erase_ms

-- Milliseconds to program `count` bytes, rounded up.
abbrev pub programs_ms : Pace → ℕ → ℕ
programs_ms p count = (count * p.program_ms + 255) / 256

-- `base` plus the milliseconds to write `count` bytes from offset `at` of a slot's data and `others` gates and headers. A gate or a header
-- takes one erase and the programs of 256 bytes. The sum is limited to 2^24 - 1, the maximum of bwPollTimeout.
abbrev pub writes_ms : Pace → (base at count others : ℕ) → ℕ
writes_ms p base at count others =
    min (base + erases_ms p (sector_starts_from p.sector at count + others) + programs_ms p (count + 256 * others)) (2 ^ 24 - 1)

-- `base` plus the milliseconds to write a block of `block` bytes, at most 4,096, after `before` bytes. Only the units that the block
-- completes are written, and the gate is closed before the first block.
abbrev pub block_ms : Pace → (base before block : ℕ) → ℕ
block_ms p base before block =
    let behind = before % unit_size p.unit in
    writes_ms p base (before - behind) (whole_part p.unit (behind + min block 4096)) (if before == 0 then 1 else 0)

-- `base` plus the milliseconds to make an image of `taken` bytes active: the last unit is written if the image doesn't fill it, then the
-- header and the gate.
abbrev pub image_ms : Pace → (base taken : ℕ) → ℕ
image_ms p base taken =
    let behind = taken % unit_size p.unit in
    writes_ms p base (taken - behind) (if behind == 0 then 0 else unit_size p.unit) 2
