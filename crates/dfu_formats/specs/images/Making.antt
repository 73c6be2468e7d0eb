-- The image of a file of any format, as one piece.
use Rattle.std.specs.Prelude.{◌≡◌, ◌<◌, ℕ, List, [], length, Option, Result, Ok, Err}
use Rattle.dfu_formats.specs.declared.images.fault.ImageFault.{ImageFault}
use Rattle.dfu_formats.specs.declared.images.format.Format.{Format}
use Rattle.dfu_formats.specs.declared.images.format.Format.TheVariants as format
use Rattle.dfu_formats.specs.declared.images.making.Image.{Image}
use Rattle.dfu_formats.specs.declared.images.making.ImageFileFault.{ImageFileFault}
use Rattle.dfu_formats.specs.declared.images.making.ImageFileFault.TheVariants.{Unread, NoData, Unlaid}
use Rattle.dfu_formats.specs.images.Elements.{Piece}
use Rattle.dfu_formats.specs.images.Laying.{IsLayFault, laid_bytes, lowest_address}
use Rattle.dfu_formats.specs.images.Reading.{IsReadFault}
use Rattle.dfu_formats.specs.images.IntelHex as hex
use Rattle.dfu_formats.specs.images.SRecord as srec
use Rattle.dfu_formats.specs.images.Blocks as uf2
use Rattle.dfu_formats.specs.images.Elf as elf

-- The elements of a file in this format, or its first fault.
abbrev pub elements_in : Format → List ℕ → Result (List Piece) ImageFault
elements_in format.IntelHex file = hex.hex_elements_of file
elements_in format.SRecord file = srec.srec_elements_of file
elements_in format.Uf2 file = uf2.uf2_elements_of file
elements_in format.Elf file = elf.elf_elements_of file

-- At least one element was read, and `image` contains the bytes of all elements, from the lowest address on. Gaps contain the byte `fill`.
abbrev pub ElementsMakeImage : Option ℕ → Result (List Piece) ImageFault → Image → Type 0
ElementsMakeImage fill read image = (ps : List Piece) × (read ≡ Ok ps) × (0 < length ps) × (image.address ≡ lowest_address ps)
    × (laid_bytes fill 0 (lowest_address ps) ps ≡ Ok image.bytes.items)

-- Result of making an image from the elements of a file. It is their bytes as one piece, the fault of reading the file, NoData if there are
-- no elements, or the fault of joining them.
abbrev pub MakeImageResult : Option ℕ → Result (List Piece) ImageFault → Result Image ImageFileFault → Type 0
MakeImageResult fill read (Ok image) = ElementsMakeImage fill read image
MakeImageResult fill read (Err (Unread fault)) = IsReadFault fault read
MakeImageResult fill read (Err NoData) = read ≡ Ok []
MakeImageResult fill read (Err (Unlaid fault)) = (ps : List Piece) × (read ≡ Ok ps) × (0 < length ps) ×
    IsLayFault fault (laid_bytes fill 0 (lowest_address ps) ps)
