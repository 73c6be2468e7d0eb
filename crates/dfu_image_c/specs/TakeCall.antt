-- Result of `dfu_image_take`, and the record that it writes.
use Rattle.std.specs.Prelude.{◌≡◌, ◌⊎◌, ◌≤◌, ◌<◌, ◌==◌, nat_lt, if◌then◌else◌, ℕ, ℤ, pos, List, ◌++◌, drop, length, Option, Some, None, Result, Ok, Err}
use Rattle.dfu_formats.specs.declared.images.format.Format.{Format}
use Rattle.dfu_formats.specs.declared.images.format.Format.TheVariants.{IntelHex, SRecord, Uf2, Elf}
use Rattle.dfu_formats.specs.declared.images.making.Image.{Image}
use Rattle.dfu_formats.specs.declared.images.making.ImageFileFault.{ImageFileFault}
use Rattle.dfu_formats.specs.images.Making.{MakeImageResult, elements_in}
use Rattle.dfu_image_c.specs.declared.taking.DfuTaken.{DfuTaken}
use Rattle.dfu_image_c.specs.Refusals.{unknown_format_number, room_too_short_number, image_refusal}

-- Format for a number: 1 Intel HEX, 2 S-records, 3 UF2, 4 ELF. None for any other number.
abbrev pub format_of : ℕ → Option Format
format_of n =
    if n == 1 then Some IntelHex
    else if n == 2 then Some SRecord
    else if n == 3 then Some Uf2
    else if n == 4 then Some Elf
    else None

-- The number as the byte that fills gaps, or None for a number above 255.
abbrev pub fill_byte_of : ℕ → Option ℕ
fill_byte_of n = if nat_lt n 256 then Some n else None

-- If the image fits the room, the result is 0, the room begins with the image, and its other bytes are unchanged. Otherwise the room is
-- unchanged, and the result is -102.
abbrev pub IsImageWrittenIfItFits : (bytes old new : List ℕ) → ℤ → Type 0
IsImageWrittenIfItFits bytes old new result =
    ((result ≡ pos 0) × (length bytes ≤ length old) × (new ≡ bytes ++ drop (length bytes) old))
    ⊎ ((result ≡ room_too_short_number) × (length old < length bytes) × (new ≡ old))

-- Result of the call for an image or a fault. For an image, the record contains its length and address, and the image is written if it fits
-- the room. For a fault, the record contains its line, block, segment or addresses, the result is its number, and the room is unchanged.
abbrev pub ImageCallResult : Result Image ImageFileFault → (old new : List ℕ) → (taken : DfuTaken) → ℤ → Type 0
ImageCallResult (Ok image) old new taken result =
    (taken ≡ record { length = length image.bytes.items; from = 0; to = 0; address = image.address })
    × IsImageWrittenIfItFits image.bytes.items old new result
ImageCallResult (Err fault) old new taken result =
    let refusal = image_refusal fault in
    (taken ≡ record { length = 0; from = refusal.from; to = refusal.to; address = 0 }) × (result ≡ refusal.number) × (new ≡ old)

-- Result of the call for a format. It is the result for the image or the fault of the file in this format. If the format is None, it is
-- -101, and the room and the record are unchanged.
abbrev pub TakeImageResult : Option Format → (fill : Option ℕ) → (file old new : List ℕ) → (before after : DfuTaken) → ℤ → Type 0
TakeImageResult None fill file old new before after result = (result ≡ unknown_format_number) × (new ≡ old) × (after ≡ before)
TakeImageResult (Some format) fill file old new before after result =
    (read : Result Image ImageFileFault) × MakeImageResult fill (elements_in format file) read × ImageCallResult read old new after result
