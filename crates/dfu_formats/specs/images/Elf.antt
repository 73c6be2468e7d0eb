-- Reads a 32-bit little-endian ELF file segment by segment, up to the first fault. The first segment has number 0.
use Rattle.std.specs.Prelude.{ℕ, ◌+◌, ◌*◌, ◌^◌, ◌==◌, ◌&&◌, ◌||◌, not, nat_lt, Bool, if◌then◌else◌, List, length, take, drop, slice_index, Result, Ok, Err}
use Rattle.dfu_formats.specs.declared.images.fault.ImageFault.{ImageFault}
use Rattle.dfu_formats.specs.declared.images.fault.ImageFault.TheVariants.{NotElf, CutHeader, CutSegment, PastTheEnd}
use Rattle.dfu_formats.specs.images.Numbers.{le16, le32}
use Rattle.dfu_formats.specs.images.Elements.{Piece, Gathering, empty_gathering, bytes_added, gathered_elements, elements_by_part}

-- The file has an ELF header of 52 bytes. Its class (32 bits), its byte order (little endian) and its version are 1.
abbrev pub is_elf : List ℕ → Bool
is_elf file =
    not (nat_lt (length file) 52) && ((le32 file 0 == 0x464C457F)
    && ((slice_index file 4 == 1) && ((slice_index file 5 == 1) && (slice_index file 6 == 1))))

-- Adds the bytes of a segment at its physical address. The file must contain all of them, and none may lie beyond address FFFFFFFFh. A
-- segment that isn't loaded, or has no bytes in the file, is skipped.
unfoldable pub segment_read : (file : List ℕ) → (index : ℕ) → Gathering → (header : List ℕ) → Result Gathering ImageFault
segment_read file index g header =
    if not (le32 header 0 == 1) || (le32 header 16 == 0) then Ok g
    else if nat_lt (length file) (le32 header 4 + le32 header 16) then Err (CutSegment index)
    else if nat_lt (2 ^ 32) (le32 header 12 + le32 header 16) then Err (PastTheEnd index)
    else bytes_added index g (record { address = le32 header 12; bytes = take (le32 header 16) (drop (le32 header 4) file) })

-- The program headers have 32 bytes each, and the file contains all of them.
abbrev pub has_program_headers : List ℕ → Bool
has_program_headers file = (le16 file 42 == 32) && not (nat_lt (length file) (le32 file 28 + 32 * le16 file 44))

-- The elements of an ELF file, or its first fault. A file without program headers has no elements.
unfoldable pub elf_elements_of : List ℕ → Result (List Piece) ImageFault
elf_elements_of file =
    if not (is_elf file) then Err NotElf
    else if le16 file 44 == 0 then gathered_elements empty_gathering
    else if not (has_program_headers file) then Err CutHeader
    else elements_by_part 32 (segment_read file) (le16 file 44) (drop (le32 file 28) file)
