-- Lines about image files. Each line ends with 0Ah.
use Rattle.std.specs.Prelude.{ℕ, List, [], ◌∷◌, ◌++◌, codes}
use Rattle.std.specs.Fmt.{decimal}
use Rattle.dfu_formats.specs.declared.images.fault.ImageFault.{ImageFault}
use Rattle.dfu_formats.specs.declared.images.fault.ImageFault.TheVariants as fault
use Rattle.dfu_formats.specs.declared.images.laying.LayFault.{LayFault}
use Rattle.dfu_formats.specs.declared.images.laying.LayFault.TheVariants as lay
use Rattle.dfu_formats.specs.declared.images.making.ImageFileFault.{ImageFileFault}
use Rattle.dfu_formats.specs.declared.images.making.ImageFileFault.TheVariants.{Unread, NoData, Unlaid}
use Rattle.dfu_formats.specs.declared.images.format.Format.{Format}
use Rattle.dfu_formats.specs.declared.images.format.Format.TheVariants.{IntelHex, SRecord, Uf2, Elf}
use Rattle.dfu_formats.specs.declared.images.endings.Ending.{Ending}
use Rattle.dfu_formats.specs.declared.images.endings.Ending.TheVariants as ending
use Rattle.dfu_formats.specs.declared.images.looks.NotImage.{NotImage}
use Rattle.dfu_formats.specs.declared.images.looks.NotImage.TheVariants.{DfuSe, Zip, Gzip, Text, Named}
use Rattle.dfu_output.specs.AnswerLines.{hex_padded}

-- Name of a format, as a value of `--format`.
abbrev pub format_name : Format → List ℕ
format_name IntelHex = codes "ihex"
format_name SRecord = codes "srec"
format_name Uf2 = codes "uf2"
format_name Elf = codes "elf"

-- Line for an image: `format FORMAT address 0xAAAAAAAA`, with the address of the image's first byte.
unfoldable pub image_format_line : Format → ℕ → List ℕ
image_format_line format address = codes "format " ++ format_name format ++ (codes " address 0x" ++ hex_padded 8 address) ++ 10 ∷ []

-- Name of a fault of a file, followed by the number or the address to which the fault refers, if there is one.
unfoldable pub image_fault_text : ImageFault → List ℕ
image_fault_text fault.NoMemory = codes "NoMemory"
image_fault_text (fault.NoMark at) = codes "NoMark " ++ decimal at
image_fault_text (fault.BadDigit at) = codes "BadDigit " ++ decimal at
image_fault_text (fault.BadLength at) = codes "BadLength " ++ decimal at
image_fault_text (fault.BadChecksum at) = codes "BadChecksum " ++ decimal at
image_fault_text (fault.BadType at) = codes "BadType " ++ decimal at
image_fault_text (fault.BadCount at) = codes "BadCount " ++ decimal at
image_fault_text (fault.PastSegment at) = codes "PastSegment " ++ decimal at
image_fault_text (fault.Trailing at) = codes "Trailing " ++ decimal at
image_fault_text fault.NoEnd = codes "NoEnd"
image_fault_text fault.BadSize = codes "BadSize"
image_fault_text (fault.BadMagic at) = codes "BadMagic " ++ decimal at
image_fault_text (fault.BadBlock at) = codes "BadBlock " ++ decimal at
image_fault_text (fault.BadNumber at) = codes "BadNumber " ++ decimal at
image_fault_text (fault.FileContainer at) = codes "FileContainer " ++ decimal at
image_fault_text (fault.OtherFamily at) = codes "OtherFamily " ++ decimal at
image_fault_text fault.NotElf = codes "NotElf"
image_fault_text fault.CutHeader = codes "CutHeader"
image_fault_text (fault.CutSegment at) = codes "CutSegment " ++ decimal at
image_fault_text (fault.PastTheEnd at) = codes "PastTheEnd " ++ decimal at
image_fault_text (fault.TooLarge at) = codes "TooLarge " ++ decimal at
image_fault_text (fault.TooManyElements at) = codes "TooManyElements " ++ decimal at
image_fault_text (fault.Overlaps address) = codes "Overlaps " ++ hex_padded 8 address

-- Name of the fault because of which elements can't form one image. A Gap is followed by the addresses at which it begins and ends.
unfoldable pub lay_fault_text : LayFault → List ℕ
lay_fault_text lay.NoMemory = codes "NoMemory"
lay_fault_text (lay.Gap from to) = codes "Gap " ++ hex_padded 8 from ++ (codes " " ++ hex_padded 8 to)
lay_fault_text lay.TooLarge = codes "TooLarge"

-- Name of the fault because of which no image can be read from a file, followed by its number or addresses if it has any.
abbrev pub fault_text : ImageFileFault → List ℕ
fault_text (Unread fault) = image_fault_text fault
fault_text NoData = codes "NoData"
fault_text (Unlaid fault) = lay_fault_text fault

-- Line for a file from which no image can be read: `refused NAME`, followed by the number or addresses of the fault if it has any.
unfoldable pub refused_line : ImageFileFault → List ℕ
refused_line fault = codes "refused " ++ fault_text fault ++ 10 ∷ []

-- Word for the extension of a file's name: the name of a format, or `dfu`.
abbrev pub ending_name : Ending → List ℕ
ending_name (ending.Of format) = format_name format
ending_name ending.Dfu = codes "dfu"

-- Word for a kind of file that isn't an image.
abbrev pub not_image_word : NotImage → List ℕ
not_image_word DfuSe = codes "dfuse"
not_image_word Zip = codes "zip"
not_image_word Gzip = codes "gzip"
not_image_word Text = codes "text"
not_image_word (Named ending) = codes "named-" ++ ending_name ending

-- Line for a file that isn't an image: `refused NotAnImage WORD`.
unfoldable pub not_image_line : NotImage → List ℕ
not_image_line other = codes "refused NotAnImage " ++ not_image_word other ++ 10 ∷ []
