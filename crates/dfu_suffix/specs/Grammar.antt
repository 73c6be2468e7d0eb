-- The grammar of a DFU file (USB DFU 1.1, appendix B): the encoding of its parts.
use Rattle.std.specs.Prelude.{◌≡◌, ◌≢◌, ℕ, ◌+◌, ◌-◌, ◌<◌, ◌≤◌, ◌^◌, ◌==◌, ◌&&◌, ◌||◌, Bool, false, not, nat_lt, List, [], ◌∷◌, ◌++◌, length, take, drop, slice_index, find}
use Rattle.std.specs.Prelude.{Some}
use Rattle.std.specs.Int.{w16, w32, to_le_bytes}
use Rattle.byteorder.specs.Endian.{little_number}
use Rattle.dfu_suffix.specs.Register.{register}
use Rattle.dfu_wire.specs.declared.ids.Ids.{Ids}
use Rattle.dfu_suffix.specs.declared.fault.SuffixFault.{SuffixFault}
use Rattle.dfu_suffix.specs.declared.fault.SuffixFault.TheVariants.{TooShort, NoSignature, BadLength, DfuSe, BadCrc, AlreadySuffixed, TooLarge, NoMemory, Read, Write}

-- Content of a file: its payload, its identifiers, bcdDFU and bLength.
pub record Content : Type 0 where
  pub payload : List ℕ
  pub ids : Ids
  pub dfu : ℕ
  pub suffix : ℕ

-- The fields before dwCRC: bcdDevice, idProduct, idVendor, bcdDFU, the letters UFD, and bLength, which counts the extra bytes too.
abbrev pub fields_before_crc : Ids → ℕ → List ℕ → List ℕ
fields_before_crc ids dfu extra =
    to_le_bytes w16 ids.device ++ (to_le_bytes w16 ids.product ++ (to_le_bytes w16 ids.vendor
    ++ (to_le_bytes w16 dfu ++ (0x55 ∷ 0x46 ∷ 0x44 ∷ (16 + length extra) ∷ []))))

-- All bytes of a file before dwCRC: the payload, the extra bytes and the fields.
abbrev pub before_crc : List ℕ → Ids → ℕ → List ℕ → List ℕ
before_crc payload ids dfu extra = payload ++ (extra ++ fields_before_crc ids dfu extra)

-- The bytes are the payload, at most 239 extra bytes, the fields of a suffix, and dwCRC, which is the register over all bytes before it.
-- Each field fits in its bytes, bcdDFU isn't 011Ah, and there are at most 16,777,216 bytes.
pub record IsFile (payload : List ℕ) (ids : Ids) (dfu : ℕ) (extra : List ℕ) (bytes : List ℕ) : Type 0 where
  pub spelled : bytes ≡ before_crc payload ids dfu extra ++ to_le_bytes w32 (register (before_crc payload ids dfu extra))
  pub extra_fits : length extra ≤ 239
  pub device_fits : ids.device < 2 ^ 16
  pub product_fits : ids.product < 2 ^ 16
  pub vendor_fits : ids.vendor < 2 ^ 16
  pub dfu_fits : dfu < 2 ^ 16
  pub not_dfuse : dfu ≢ 0x011A
  pub small : length bytes ≤ 16777216

-- The last 16 bytes, or all bytes if there are fewer.
abbrev pub tail_of : List ℕ → List ℕ
tail_of bytes = drop (length bytes - 16) bytes

-- Bytes 8 to 10 of the tail are the letters UFD.
abbrev pub is_signed : List ℕ → Bool
is_signed tail = (slice_index tail 8 == 0x55) && ((slice_index tail 9 == 0x46) && (slice_index tail 10 == 0x44))

-- The condition of a fault is true for the bytes. For AlreadySuffixed, NoMemory, Read and Write the condition is always false.
abbrev pub has_fault : List ℕ → SuffixFault → Bool
has_fault bytes TooLarge = nat_lt 16777216 (length bytes)
has_fault bytes TooShort = nat_lt (length bytes) 16
has_fault bytes NoSignature = not (is_signed (tail_of bytes))
has_fault bytes BadLength = nat_lt (slice_index (tail_of bytes) 11) 16 || nat_lt (length bytes) (slice_index (tail_of bytes) 11)
has_fault bytes DfuSe = little_number 2 (drop 6 (tail_of bytes)) == 0x011A
has_fault bytes BadCrc = not (little_number 4 (drop 12 (tail_of bytes)) == register (take (length bytes - 4) bytes))
has_fault bytes AlreadySuffixed = false
has_fault bytes NoMemory = false
has_fault bytes Read = false
has_fault bytes Write = false

-- Order in which the conditions of the faults are tested.
abbrev pub fault_order : List SuffixFault
fault_order = TooLarge ∷ TooShort ∷ NoSignature ∷ BadLength ∷ DfuSe ∷ BadCrc ∷ []

-- `fault` is the first fault of the bytes, in the order of `fault_order`.
abbrev pub First : SuffixFault → List ℕ → Type 0
First fault bytes = find (has_fault bytes) fault_order ≡ Some fault
