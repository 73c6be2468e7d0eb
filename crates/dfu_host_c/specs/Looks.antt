-- Record for C of the recognized kind of a file without a DFU suffix.
use Rattle.std.specs.Prelude.{ℕ, Option, Some, None}
use Rattle.dfu_formats.specs.declared.images.format.Format.{Format}
use Rattle.dfu_formats.specs.declared.images.format.Format.TheVariants.{IntelHex, SRecord, Uf2, Elf}
use Rattle.dfu_formats.specs.declared.images.endings.Ending.{Ending}
use Rattle.dfu_formats.specs.declared.images.endings.Ending.TheVariants as ending
use Rattle.dfu_formats.specs.declared.images.places.Place.{Place}
use Rattle.dfu_formats.specs.declared.images.looks.NotImage.TheVariants.{DfuSe, Zip, Gzip, Text, Named}
use Rattle.dfu_formats.specs.declared.images.looks.Looks.{Looks}
use Rattle.dfu_formats.specs.declared.images.looks.Looks.TheVariants as looks
use Rattle.dfu_formats.specs.declared.images.looks.Look.{Look}
use Rattle.dfu_host_c.specs.declared.looks.DfuLook.{DfuLook}

-- Number of an image format, 1 to 4.
abbrev pub image_format_number : Format → ℕ
image_format_number IntelHex = 1
image_format_number SRecord = 2
image_format_number Uf2 = 3
image_format_number Elf = 4

-- Number of a file's kind, 0 to 9: 0 for raw bytes, 1 to 4 for an image format, and 5 to 9 for a file of another kind.
abbrev pub looks_number : Looks → ℕ
looks_number looks.Raw = 0
looks_number (looks.Of format) = image_format_number format
looks_number (looks.Other DfuSe) = 5
looks_number (looks.Other Zip) = 6
looks_number (looks.Other Gzip) = 7
looks_number (looks.Other Text) = 8
looks_number (looks.Other (Named ending)) = 9

-- Number of a file name's ending, 0 to 5: 0 for no known ending, 1 to 4 for that of an image format, and 5 for `.dfu`.
abbrev pub ending_number : Option Ending → ℕ
ending_number None = 0
ending_number (Some (ending.Of format)) = image_format_number format
ending_number (Some ending.Dfu) = 5

-- Line of a position in a file; 0 if there is no position.
abbrev pub line_number : Option Place → ℕ
line_number None = 0
line_number (Some place) = place.line

-- Column of a position in a file; 0 if there is no position.
abbrev pub column_number : Option Place → ℕ
column_number None = 0
column_number (Some place) = place.column

-- Record of a recognized file: the numbers of its kind and of its name's ending, and the position of its first bad byte.
abbrev pub record_of_look : Look → DfuLook
record_of_look look = record {
  looks = looks_number look.looks;
  named = ending_number look.ending;
  line = line_number look.bad;
  column = column_number look.bad;
}
