-- The bytes of a functional descriptor (USB DFU 1.1 and USB DFU 1.0, section 4.1.3 of each).
use Rattle.std.specs.Prelude.{◌≡◌, ◌≢◌, ◌⊎◌, ◌↔◌, ℕ, ◌+◌, ◌*◌, ◌<◌, ◌^◌, ◌==◌, Bool, not, List, length, slice_index, bit_and, IsTrue, IsBitSet}
use Rattle.dfu_wire.specs.declared.functionals.Functional.{Functional}
use Rattle.dfu_wire.specs.declared.fault.WireFault.{WireFault}
use Rattle.dfu_wire.specs.declared.fault.WireFault.TheVariants as fault

-- `n` is a valid bLength of a functional descriptor: 7 in DFU 1.0, or 9 in DFU 1.1.
abbrev pub IsFunctionalLength : ℕ → Type 0
IsFunctionalLength n = (n ≡ 7) ⊎ (n ≡ 9)

-- The bytes `b` encode the functional descriptor `f`. The first byte is the number of bytes, 7 or 9, and the second byte is 21h. Two-byte
-- numbers have their low byte first. Bits 4 to 7 of the attributes are ignored. Seven bytes have no version field and mean version 0100h.
pub record IsFunctional (f : Functional) (b : List ℕ) : Type 0 where
  -- bLength, the first byte, is 7 or 9.
  pub has_functional_length : IsFunctionalLength (slice_index b 0)
  -- The number of bytes is bLength.
  pub length : length b ≡ slice_index b 0
  -- bDescriptorType, the second byte, is 21h.
  pub has_type_byte : slice_index b 1 ≡ 0x21
  -- Bit 0 of bmAttributes is bitCanDnload.
  pub download : IsTrue f.can_download ↔ IsBitSet (slice_index b 2) 0
  -- Bit 1 of bmAttributes is bitCanUpload.
  pub upload : IsTrue f.can_upload ↔ IsBitSet (slice_index b 2) 1
  -- Bit 2 of bmAttributes is bitManifestationTolerant.
  pub tolerant : IsTrue f.tolerant ↔ IsBitSet (slice_index b 2) 2
  -- Bit 3 of bmAttributes is bitWillDetach.
  pub will_detach : IsTrue f.will_detach ↔ IsBitSet (slice_index b 2) 3
  -- wDetachTimeOut is in bytes 3 and 4.
  pub detach : f.detach_ms ≡ slice_index b 3 + 256 * slice_index b 4
  -- wTransferSize is in bytes 5 and 6.
  pub transfer : f.transfer ≡ slice_index b 5 + 256 * slice_index b 6
  -- If there are nine bytes, bytes 7 and 8 are bcdDFUVersion.
  pub version : slice_index b 0 ≡ 9 → f.version ≡ slice_index b 7 + 256 * slice_index b 8
  -- If there are seven bytes, the version is 0100h.
  pub short_has_version_1_0 : slice_index b 0 ≡ 7 → f.version ≡ 0x0100

-- True if this bit of the number is 1, where bit 0 is the lowest.
abbrev pub has_bit : (number bit : ℕ) → Bool
has_bit number bit = not (bit_and number (2 ^ bit) == 0)

-- Functional descriptor with this bmAttributes, whose bits 0 to 3 are the flags, and with this detach timeout, transfer size and version.
abbrev pub functional_of : (attributes detach transfer version : ℕ) → Functional
functional_of attributes detach transfer version = record {
  can_download = has_bit attributes 0;
  can_upload = has_bit attributes 1;
  tolerant = has_bit attributes 2;
  will_detach = has_bit attributes 3;
  detach_ms = detach;
  transfer = transfer;
  version = version;
}

-- First fault of bytes that aren't a functional descriptor, in this order: there are no bytes; the first byte is neither 7 nor 9; there are
-- fewer bytes than the first byte specifies; there are more; the second byte isn't 21h.
abbrev pub FirstFunctionalFault : WireFault → List ℕ → Type 0
FirstFunctionalFault fault.Short b =
    (length b ≡ 0) ⊎ (IsFunctionalLength (slice_index b 0) × (length b < slice_index b 0))
FirstFunctionalFault fault.WrongLength b =
    (0 < length b) × (slice_index b 0 ≢ 7) × (slice_index b 0 ≢ 9)
FirstFunctionalFault fault.Long b =
    IsFunctionalLength (slice_index b 0) × (slice_index b 0 < length b)
FirstFunctionalFault fault.WrongType b =
    IsFunctionalLength (slice_index b 0) × (length b ≡ slice_index b 0) × (slice_index b 1 ≢ 0x21)
FirstFunctionalFault fault.UnknownState b = ⊥
FirstFunctionalFault fault.UnknownCode b = ⊥
FirstFunctionalFault fault.PollTooLong b = ⊥
