-- Reads a UF2 file block by block, up to the first fault. The first block has number 0.
use Rattle.std.specs.Prelude.{ℕ, ◌+◌, ◌/◌, ◌%◌, ◌^◌, ◌==◌, ◌&&◌, ◌||◌, not, nat_lt, Bool, if◌then◌else◌, List, length, take, drop, Result, Ok, Err}
use Rattle.dfu_formats.specs.declared.images.fault.ImageFault.{ImageFault}
use Rattle.dfu_formats.specs.declared.images.fault.ImageFault.TheVariants.{BadSize, BadMagic, BadBlock, BadNumber, FileContainer, OtherFamily, PastTheEnd}
use Rattle.dfu_formats.specs.images.Numbers.{le32}
use Rattle.dfu_formats.specs.images.Elements.{Piece, Gathering, bytes_added, elements_by_part}

-- The block has the three magic numbers of UF2.
abbrev pub is_uf2_block : List ℕ → Bool
is_uf2_block block = (le32 block 0 == 0x0A324655) && ((le32 block 4 == 0x9E5D5157) && (le32 block 508 == 0x0AB16F30))

-- The block has the flag `flag`, a number with a single bit set.
abbrev pub has_flag : List ℕ → ℕ → Bool
has_flag block flag = le32 block 8 / flag % 2 == 1

-- Family of boards that a block is for, or 0 if the block contains no family.
abbrev pub family_of : List ℕ → ℕ
family_of block = if has_flag block 0x2000 then le32 block 28 else 0

-- Adds the data of a block at its address, and skips a block that isn't for the main flash. A block for the main flash has a fault if it
-- belongs to a file container, is for another family, or has data beyond address FFFFFFFFh.
unfoldable pub block_gathered : (family index : ℕ) → Gathering → List ℕ → Result Gathering ImageFault
block_gathered family index g block =
    if has_flag block 1 then Ok g
    else if has_flag block 0x1000 then Err (FileContainer index)
    else if not (family_of block == family) then Err (OtherFamily index)
    else if nat_lt (2 ^ 32) (le32 block 12 + le32 block 16) then Err (PastTheEnd index)
    else bytes_added index g (record { address = le32 block 12; bytes = take (le32 block 16) (drop 32 block) })

-- Reads a block. It must have the magic numbers, at most 476 bytes of data, its index as its number, and the count of all blocks.
unfoldable pub block_read : (total family index : ℕ) → Gathering → List ℕ → Result Gathering ImageFault
block_read total family index g block =
    if not (is_uf2_block block) then Err (BadMagic index)
    else if nat_lt 476 (le32 block 16) then Err (BadBlock index)
    else if not ((le32 block 20 == index) && (le32 block 24 == total)) then Err (BadNumber index)
    else block_gathered family index g block

-- The elements of a UF2 file, or its first fault. The file is one or more blocks of 512 bytes. Each block for the main flash must be for
-- the family of the first block.
unfoldable pub uf2_elements_of : List ℕ → Result (List Piece) ImageFault
uf2_elements_of file =
    if (length file == 0) || not (length file % 512 == 0) then Err BadSize
    else elements_by_part 512 (block_read (length file / 512) (family_of (take 512 file))) (length file / 512) file
