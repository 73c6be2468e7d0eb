-- The grammar of a DfuSe file (UM0391): the encoding of its parts.
use Rattle.std.specs.Prelude.{◌≡◌, ◌⊎◌, ℕ, ◌+◌, ◌<◌, ◌≤◌, ◌^◌, List, [], ◌∷◌, ◌++◌, length, Err}
use Rattle.std.specs.Int.{w32, to_le_bytes}
use Rattle.dfu_formats.specs.images.Elements.{Piece}
use Rattle.dfu_suffix.specs.Register.{register}
use Rattle.dfu_suffix.specs.Grammar.{before_crc}
use Rattle.dfu_formats.specs.declared.dfuse.fault.FileFault.{FileFault}
use Rattle.dfu_formats.specs.dfuse.Reading.{Target, PayloadAndIds, DfuseContent, file_at}

-- Encodes a 32-bit number as four bytes, the low byte first.
abbrev pub four_bytes_of : ℕ → List ℕ
four_bytes_of n = to_le_bytes w32 n

-- Encodes elements: each as its address, its size and its bytes.
unfoldable pub spelled_elements : List Piece → List ℕ
spelled_elements [] = []
spelled_elements (e ∷ es) = four_bytes_of e.address ++ (four_bytes_of (length e.bytes) ++ (e.bytes ++ spelled_elements es))

-- An element has at least one byte, its size fits in 32 bits, and its last byte has a 32-bit address.
pub record ElementInRange (e : Piece) : Type 0 where
  pub some : 1 ≤ length e.bytes
  pub size_fits : length e.bytes < 2 ^ 32
  pub within : e.address + length e.bytes ≤ 2 ^ 32

-- Every element of the list satisfies ElementInRange.
unfoldable pub ElementsInRange : List Piece → Type 0
ElementsInRange [] = Unit {0}
ElementsInRange (e ∷ es) = ElementInRange e × ElementsInRange es

-- The letters Target, with which each target begins.
abbrev pub target_letters : List ℕ
target_letters = 84 ∷ 97 ∷ 114 ∷ 103 ∷ 101 ∷ 116 ∷ []

-- Encodes targets: each as the letters Target, its setting, a field that is 0 if it has no name, the name, the size of its elements, their
-- number, and the elements.
unfoldable pub spelled_targets : List Target → List ℕ
spelled_targets [] = []
spelled_targets (t ∷ ts) =
    target_letters ++ (t.setting ∷ (four_bytes_of t.named ++
    (t.name ++ (four_bytes_of (length (spelled_elements t.elements)) ++ (four_bytes_of (length t.elements)
    ++ (spelled_elements t.elements ++ spelled_targets ts))))))

-- Each field of a target fits in the number of bytes that the format reserves for it.
pub record TargetInRange (t : Target) : Type 0 where
  pub setting_fits : t.setting < 256
  pub named_fits : t.named < 2 ^ 32
  pub name_fits : length t.name ≡ 255
  pub size_fits : length (spelled_elements t.elements) < 2 ^ 32
  pub count_fits : length t.elements < 2 ^ 32
  pub elements_fit : ElementsInRange t.elements

-- Every target of the list satisfies TargetInRange.
unfoldable pub TargetsInRange : List Target → Type 0
TargetsInRange [] = Unit {0}
TargetsInRange (t ∷ ts) = TargetInRange t × TargetsInRange ts

-- The letters DfuSe and the version 1, with which each file begins.
abbrev pub dfuse_opening : List ℕ
dfuse_opening = 68 ∷ 102 ∷ 117 ∷ 83 ∷ 101 ∷ 1 ∷ []

-- `bytes` are those before the suffix in a file of `whole` bytes: the opening, the size with or without the suffix, the number of targets,
-- and one to 255 targets, each in range.
pub record IsBody (targets : List Target) (whole : ℕ) (bytes : List ℕ) : Type 0 where
  pub size : ℕ
  pub spelled : bytes ≡ dfuse_opening ++ (four_bytes_of size ++ (length targets ∷ spelled_targets targets))
  pub size_is : (size ≡ length bytes) ⊎ (size ≡ whole)
  pub size_fits : size < 2 ^ 32
  pub some : 1 ≤ length targets
  pub few : length targets < 256
  pub fit : TargetsInRange targets

-- `bytes`, at most 16,777,216, is the payload of `s` followed by a suffix. The suffix has the identifiers of `s`, bcdDFU 011Ah, at most 239
-- extra bytes, and the CRC register over all bytes before it (USB DFU 1.1, appendix B).
pub record SuffixedFile (bytes : List ℕ) (s : PayloadAndIds) : Type 0 where
  pub extra : List ℕ
  pub spelled : bytes ≡ before_crc s.payload s.ids 0x011A extra ++ four_bytes_of (register (before_crc s.payload s.ids 0x011A extra))
  pub extra_fits : length extra ≤ 239
  pub device_fits : s.ids.device < 2 ^ 16
  pub product_fits : s.ids.product < 2 ^ 16
  pub vendor_fits : s.ids.vendor < 2 ^ 16
  pub small : length bytes ≤ 16777216

-- The bytes are a DfuSe file: a body, followed by a suffix with the identifiers of `f`.
pub record IsDfuSe (f : DfuseContent) (bytes : List ℕ) : Type 0 where
  pub payload : List ℕ
  pub suffix : SuffixedFile bytes (record { payload = payload; ids = f.ids })
  pub body : IsBody f.targets (length bytes) payload

-- `fault` is the first fault found when the bytes are read as a DfuSe file.
abbrev pub FirstFileFault : FileFault → List ℕ → Type 0
FirstFileFault fault bytes = file_at bytes ≡ Err fault
