-- Parts of a format, and the steps of each.
use Rattle.std.specs.Prelude.{ℕ, zero, suc, ◌+◌, ◌*◌, ◌/◌, List, [], ◌∷◌, ◌++◌, length, take, drop}
use Rattle.dfu_suffix.specs.Register.{register}
use Rattle.dfu_slots.specs.Units.{Grain, gate_size, gate_room, filled_units}
use Rattle.dfu_slots.specs.Medium.{MediumState}
use Rattle.dfu_slots.specs.Layout.{OPEN, slot_size, gate_unit, header_unit}
use Rattle.dfu_asks.specs.declared.formatting.FormatStep.{FormatStep}
use Rattle.dfu_asks.specs.declared.formatting.FormatStep.TheVariants.{CloseSecond, CloseFirst, Image, Header, Gate, Ended}
use Rattle.dfu_asks.specs.declared.formatting.Formatting.{Formatting}
use Rattle.dfu_asks.specs.Mapped.{grain_of}
use Rattle.dfu_asks.specs.Steps.{Step, write_anew_steps, write_some_steps, open_steps, close_step}

-- Steps that write `bytes` from an offset on, 4096 at a time. The count limits the number of writes; the length of `bytes` is always
-- enough.
abbrev pub piece_steps : ℕ → ℕ → ℕ → List ℕ → List Step
piece_steps sector zero at bytes = []
piece_steps sector (suc n) at [] = []
piece_steps sector (suc n) at (b ∷ bs) =
    write_anew_steps sector at (take 4096 (b ∷ bs)) ++ piece_steps sector n (at + 4096) (drop 4096 (b ∷ bs))

-- Steps that write an image into the first slot, from its byte `from` on.
abbrev pub image_steps : Grain → List ℕ → ℕ → List Step
image_steps grain image from =
    let rest = drop from (filled_units grain.unit image) in
    piece_steps grain.sector (length rest) (2 * gate_room grain + from) rest

-- Steps of a format from one of its parts on. `size` is the size of a slot, and `crc` the CRC register over the image.
abbrev pub format_steps_from : Grain → ℕ → List ℕ → ℕ → FormatStep → List Step
format_steps_from grain size image crc CloseSecond =
    close_step grain size ∷ close_step grain 0 ∷ image_steps grain image 0 ++ open_steps grain 0 0 (length image) crc
format_steps_from grain size image crc CloseFirst =
    close_step grain 0 ∷ image_steps grain image 0 ++ open_steps grain 0 0 (length image) crc
format_steps_from grain size image crc (Image from) = image_steps grain image from ++ open_steps grain 0 0 (length image) crc
format_steps_from grain size image crc Header = open_steps grain 0 0 (length image) crc
format_steps_from grain size image crc Gate = write_anew_steps grain.sector 0 (gate_unit (gate_size grain.unit) OPEN)
format_steps_from grain size image crc Ended = []

-- All steps of a format: closing both gates, writing the image and its header into the first slot, and opening the gate of this slot.
abbrev pub format_steps : MediumState → List ℕ → List Step
format_steps m image = format_steps_from m.grain (slot_size m.bytes) image (register image) CloseSecond

-- Steps of a single part of a format.
abbrev pub part_steps : Grain → ℕ → List ℕ → ℕ → FormatStep → List Step
part_steps grain size image crc CloseSecond = close_step grain size ∷ []
part_steps grain size image crc CloseFirst = close_step grain 0 ∷ []
part_steps grain size image crc (Image from) =
    write_some_steps grain.sector (2 * gate_room grain + from) (take 4096 (drop from (filled_units grain.unit image)))
part_steps grain size image crc Header =
    write_anew_steps grain.sector (0 + gate_room grain) (header_unit (gate_size grain.unit) 0 (length image) crc)
part_steps grain size image crc Gate = write_anew_steps grain.sector 0 (gate_unit (gate_size grain.unit) OPEN)
part_steps grain size image crc Ended = []

-- Unit and sector in which the flash of a format is written.
abbrev pub format_grain : Formatting → Grain
format_grain f = grain_of f.unit f.sector

-- Steps of a format on flash of `size` bytes, from the current part on.
abbrev pub remaining_steps : Formatting → ℕ → List ℕ → List Step
remaining_steps f size image = format_steps_from (format_grain f) (size / 2) image f.register f.phase

-- Steps of the current part of a format.
abbrev pub steps_of_part : Formatting → ℕ → List ℕ → List Step
steps_of_part f size image = part_steps (format_grain f) (size / 2) image f.register f.phase
