-- Bytes that `dfu show configuration` reads: a configuration descriptor and the descriptors after it (USB 2.0, sections 9.5 and 9.6).
use Rattle.std.specs.Prelude.{◌≡◌, ◌≢◌, ◌⊎◌, ◌+◌, ◌*◌, ◌<◌, ◌≤◌, ◌==◌, if◌then◌else◌, ℕ, Bool, true, false, List, [], ◌∷◌, ◌++◌, length, take, drop, slice_index, Result, Ok, Err, codes}
use Rattle.std.specs.Fmt.{decimal}
use Rattle.dfu_wire.specs.Functional.{IsFunctional, FirstFunctionalFault}
use Rattle.dfu_wire.specs.declared.functionals.Functional.{Functional}
use Rattle.dfu_wire.specs.declared.fault.WireFault.{WireFault}
use Rattle.dfu_wire.specs.declared.fault.WireFault.TheVariants as fault
use Rattle.dfu_output.specs.ShowLines.{functional_line}

-- The descriptor describes a DFU interface: class FEh and subclass 01h (USB DFU 1.1, section 4.1.2).
abbrev pub IsDfuInterface : List ℕ → Type 0
IsDfuInterface d = (slice_index d 5 ≡ 0xfe) × (slice_index d 6 ≡ 1)

-- Name of the mode for the protocol of a DFU interface: `run-time` for 1, `dfu` for 2, and `other` for any other.
abbrev pub mode_name : ℕ → List ℕ
mode_name n = if n == 1 then codes "run-time" else (if n == 2 then codes "dfu" else codes "other")

-- Line for a configuration: `configuration N`, where N is its bConfigurationValue.
unfoldable pub configuration_line : ℕ → List ℕ
configuration_line value = codes "configuration " ++ decimal value ++ 10 ∷ []

-- Line for a DFU interface: `interface N alternate N mode MODE string N`.
unfoldable pub interface_line : (number alternate protocol string : ℕ) → List ℕ
interface_line number alternate protocol string =
    codes "interface" ++ (codes " " ++ decimal number) ++ (codes " alternate " ++ decimal alternate)
    ++ (codes " mode " ++ mode_name protocol) ++ (codes " string " ++ decimal string) ++ 10 ∷ []

-- Text that one descriptor adds, or its fault. A DFU interface adds a line, and so does a functional descriptor that belongs to one; other
-- descriptors add nothing. `inside` is true if the descriptor belongs to a DFU interface, and the second Bool is true if the next
-- descriptor belongs to one.
pub data DescriptorText (inside : Bool) (d : List ℕ) : Bool → Result (List ℕ) WireFault → Type 0 where
  -- A descriptor of a DFU interface adds a line.
  dfu_interface : slice_index d 1 ≡ 4 → 9 ≤ length d → IsDfuInterface d →
      DescriptorText inside d true (Ok (interface_line (slice_index d 2) (slice_index d 3) (slice_index d 7) (slice_index d 8)))
  -- A descriptor of any other interface adds no text.
  other_interface : slice_index d 1 ≡ 4 → 9 ≤ length d → ¬ IsDfuInterface d → DescriptorText inside d false (Ok [])
  -- An interface descriptor with fewer than nine bytes has a wrong length.
  short_interface : slice_index d 1 ≡ 4 → length d < 9 → DescriptorText inside d inside (Err fault.WrongLength)
  -- A functional descriptor of a DFU interface adds a line.
  functional : {f : Functional} → inside ≡ true → slice_index d 1 ≡ 0x21 → IsFunctional f d →
      DescriptorText inside d inside (Ok (functional_line f))
  -- A functional descriptor of a DFU interface can't be decoded. Its first fault is reported.
  bad_functional : {e : WireFault} → inside ≡ true → slice_index d 1 ≡ 0x21 → FirstFunctionalFault e d
      → DescriptorText inside d inside (Err e)
  -- A descriptor of another type, or of type 21h outside a DFU interface, adds no text.
  other : slice_index d 1 ≢ 4 → (inside ≡ false) ⊎ (slice_index d 1 ≢ 0x21) → DescriptorText inside d inside (Ok [])

-- Puts a text before the text of a result. A fault stays unchanged.
abbrev pub text_then_result : List ℕ → Result (List ℕ) WireFault → Result (List ℕ) WireFault
text_then_result text (Ok rest) = Ok (text ++ rest)
text_then_result text (Err e) = Err e

-- Text that successive descriptors add, or their first fault. The first byte of a descriptor is its length, which must be at least 2 and at
-- most the number of remaining bytes.
pub data DescriptorsText : Bool → List ℕ → Result (List ℕ) WireFault → Type 0 where
  -- No bytes remain.
  end : {inside : Bool} → DescriptorsText inside [] (Ok [])
  -- The first byte, which is the descriptor's length, is below 2.
  descriptor_without_length : {inside : Bool} {b : List ℕ} → 0 < length b → slice_index b 0 < 2 →
      DescriptorsText inside b (Err fault.WrongLength)
  -- The next descriptor extends beyond the last byte.
  short : {inside : Bool} {b : List ℕ} → 2 ≤ slice_index b 0 → 0 < length b → length b < slice_index b 0
      → DescriptorsText inside b (Err fault.Short)
  -- The next descriptor has a fault.
  stops : {inside now : Bool} {b : List ℕ} {e : WireFault} → 2 ≤ slice_index b 0 → slice_index b 0 ≤ length b →
      DescriptorText inside (take (slice_index b 0) b) now (Err e) → DescriptorsText inside b (Err e)
  -- The next descriptor adds its text. The descriptors after it add theirs or have the first fault.
  goes_on : {inside now : Bool} {b text : List ℕ} {rest : Result (List ℕ) WireFault} → 2 ≤ slice_index b 0 → slice_index b 0 ≤ length b →
      DescriptorText inside (take (slice_index b 0) b) now (Ok text) → DescriptorsText now (drop (slice_index b 0) b) rest →
      DescriptorsText inside b (text_then_result text rest)

-- Value of wTotalLength: the number of bytes of a configuration descriptor and of the descriptors after it.
abbrev pub total_length : List ℕ → ℕ
total_length bytes = slice_index bytes 2 + 256 * slice_index bytes 3

-- Text of a configuration descriptor of nine bytes and of the descriptors after it, or the first fault of the bytes.
pub data ConfigurationText (bytes : List ℕ) : Result (List ℕ) WireFault → Type 0 where
  -- There are fewer than nine bytes.
  fewer_than_nine : length bytes < 9 → ConfigurationText bytes (Err fault.Short)
  -- The second byte, which is the descriptor's type, isn't 02h.
  not_a_configuration : 9 ≤ length bytes → slice_index bytes 1 ≢ 2 → ConfigurationText bytes (Err fault.WrongType)
  -- The first byte, which is the descriptor's length, isn't 9.
  wrong_own_length : 9 ≤ length bytes → slice_index bytes 1 ≡ 2 → slice_index bytes 0 ≢ 9 → ConfigurationText bytes (Err fault.WrongLength)
  -- There are fewer than wTotalLength bytes.
  short : 9 ≤ length bytes → slice_index bytes 1 ≡ 2 → slice_index bytes 0 ≡ 9 → length bytes < total_length bytes →
      ConfigurationText bytes (Err fault.Short)
  -- There are more than wTotalLength bytes.
  long : 9 ≤ length bytes → slice_index bytes 1 ≡ 2 → slice_index bytes 0 ≡ 9 → total_length bytes < length bytes →
      ConfigurationText bytes (Err fault.Long)
  -- The lengths are right. The text is the line of the configuration and the text of the descriptors after it, or their first fault.
  whole : {rest : Result (List ℕ) WireFault} → 9 ≤ length bytes → slice_index bytes 1 ≡ 2 → slice_index bytes 0 ≡ 9 →
      total_length bytes ≡ length bytes → DescriptorsText false (drop 9 bytes) rest
      → ConfigurationText bytes (text_then_result (configuration_line (slice_index bytes 5)) rest)

-- Ok means that a descriptor added its text to a line, where `now` is true if the next descriptor belongs to a DFU interface. Err holds the
-- fault of the descriptor.
abbrev pub DescriptorTextAdded : (inside : Bool) (d old new : List ℕ) → Result Bool WireFault → Type 0
DescriptorTextAdded inside d old new (Ok now) = (text : List ℕ) × DescriptorText inside d now (Ok text) × (new ≡ old ++ text)
DescriptorTextAdded inside d old new (Err e) = DescriptorText inside d inside (Err e)

-- Successive descriptors added their text to a line, or `e` is their first fault.
abbrev pub DescriptorsTextAdded : (bytes old new : List ℕ) → Result (Unit {0}) WireFault → Type 0
DescriptorsTextAdded bytes old new (Ok done) = (text : List ℕ) × DescriptorsText false bytes (Ok text) × (new ≡ old ++ text)
DescriptorsTextAdded bytes old new (Err e) = DescriptorsText false bytes (Err e)
