-- Refusals of `dfu_image_take`: a number for C, and the line, block, segment or addresses of the fault.
use Rattle.std.specs.Prelude.{ℕ, ℤ, negsuc}
use Rattle.dfu_formats.specs.declared.images.fault.ImageFault.{ImageFault}
use Rattle.dfu_formats.specs.declared.images.fault.ImageFault.TheVariants as file
use Rattle.dfu_formats.specs.declared.images.laying.LayFault.TheVariants as lay
use Rattle.dfu_formats.specs.declared.images.making.ImageFileFault.{ImageFileFault}
use Rattle.dfu_formats.specs.declared.images.making.ImageFileFault.TheVariants.{Unread, NoData, Unlaid}
use Rattle.dfu_image_c.specs.declared.refusals.ImageRefusal.{ImageRefusal}

-- Refusal number of each fault of a file, -103 to -125.
abbrev pub image_fault_number : ImageFault → ℤ
image_fault_number file.NoMemory = negsuc 102
image_fault_number (file.NoMark at) = negsuc 103
image_fault_number (file.BadDigit at) = negsuc 104
image_fault_number (file.BadLength at) = negsuc 105
image_fault_number (file.BadChecksum at) = negsuc 106
image_fault_number (file.BadType at) = negsuc 107
image_fault_number (file.BadCount at) = negsuc 108
image_fault_number (file.PastSegment at) = negsuc 109
image_fault_number (file.Trailing at) = negsuc 110
image_fault_number file.NoEnd = negsuc 111
image_fault_number file.BadSize = negsuc 112
image_fault_number (file.BadMagic at) = negsuc 113
image_fault_number (file.BadBlock at) = negsuc 114
image_fault_number (file.BadNumber at) = negsuc 115
image_fault_number (file.FileContainer at) = negsuc 116
image_fault_number (file.OtherFamily at) = negsuc 117
image_fault_number file.NotElf = negsuc 118
image_fault_number file.CutHeader = negsuc 119
image_fault_number (file.CutSegment at) = negsuc 120
image_fault_number (file.PastTheEnd at) = negsuc 121
image_fault_number (file.TooLarge at) = negsuc 122
image_fault_number (file.TooManyElements at) = negsuc 123
image_fault_number (file.Overlaps address) = negsuc 124

-- Line, block, segment or address of a file's fault, or 0 if it has none.
abbrev pub image_fault_place : ImageFault → ℕ
image_fault_place file.NoMemory = 0
image_fault_place (file.NoMark at) = at
image_fault_place (file.BadDigit at) = at
image_fault_place (file.BadLength at) = at
image_fault_place (file.BadChecksum at) = at
image_fault_place (file.BadType at) = at
image_fault_place (file.BadCount at) = at
image_fault_place (file.PastSegment at) = at
image_fault_place (file.Trailing at) = at
image_fault_place file.NoEnd = 0
image_fault_place file.BadSize = 0
image_fault_place (file.BadMagic at) = at
image_fault_place (file.BadBlock at) = at
image_fault_place (file.BadNumber at) = at
image_fault_place (file.FileContainer at) = at
image_fault_place (file.OtherFamily at) = at
image_fault_place file.NotElf = 0
image_fault_place file.CutHeader = 0
image_fault_place (file.CutSegment at) = at
image_fault_place (file.PastTheEnd at) = at
image_fault_place (file.TooLarge at) = at
image_fault_place (file.TooManyElements at) = at
image_fault_place (file.Overlaps address) = address

-- Refusal for each fault. A fault of the file has its number and its line, block, segment or address. A file without data is -126. A gap is
-- -127, with its first address and the first address after it. An image that is too large once its gaps are filled is -128. If memory runs
-- out, the number is -103.
abbrev pub image_refusal : ImageFileFault → ImageRefusal
image_refusal (Unread fault) = record { number = image_fault_number fault; from = image_fault_place fault; to = 0 }
image_refusal NoData = record { number = negsuc 125; from = 0; to = 0 }
image_refusal (Unlaid lay.NoMemory) = record { number = negsuc 102; from = 0; to = 0 }
image_refusal (Unlaid (lay.Gap from to)) = record { number = negsuc 126; from = from; to = to }
image_refusal (Unlaid lay.TooLarge) = record { number = negsuc 127; from = 0; to = 0 }

-- Result for an unknown format number: -101.
abbrev pub unknown_format_number : ℤ
unknown_format_number = negsuc 100

-- Result for a room that is shorter than the image: -102.
abbrev pub room_too_short_number : ℤ
room_too_short_number = negsuc 101
