-- Laws of the file format, which follow from its definitions.
use Rattle.std.specs.Prelude.{◌≡◌, ◌↔◌, ◌⊎◌, ℕ, ◌-◌, ◌<◌, ◌≤◌, List, length, take, drop, slice_index}
use Rattle.byteorder.specs.Endian.{little_number}
use Rattle.dfu_suffix.specs.Register.{register}
use Rattle.dfu_suffix.specs.Grammar.{IsFile, First}
use Rattle.dfu_wire.specs.declared.ids.Ids.{Ids}
use Rattle.dfu_suffix.specs.declared.fault.SuffixFault.{SuffixFault}

-- Each number in the list is a byte.
abbrev pub AreBytes : List ℕ → Type 0
AreBytes bytes = (k : ℕ) → slice_index bytes k < 256

-- The bytes are a file of the grammar, with some payload and fields.
abbrev pub HasReading : List ℕ → Type 0
HasReading bytes = (payload : List ℕ) × (ids : Ids) × (dfu : ℕ) × (extra : List ℕ) × IsFile payload ids dfu extra bytes

-- Bytes are either a file of the grammar or have a first fault, and never both.
abbrev pub EitherFileOrFault : Type 0
EitherFileOrFault = (bytes : List ℕ) → AreBytes bytes → (HasReading bytes ⊎ ((fault : SuffixFault) × First fault bytes))
    × ((fault : SuffixFault) → HasReading bytes → First fault bytes → ⊥)

-- The register over four bytes or more is 0 exactly if the number in the last four is the register over the bytes before them.
abbrev pub ZeroRegisterByLastFour : Type 0
ZeroRegisterByLastFour = (bytes : List ℕ) → AreBytes bytes → 4 ≤ length bytes → (register bytes ≡ 0)
    ↔ (little_number 4 (drop (length bytes - 4) bytes) ≡ register (take (length bytes - 4) bytes))

-- A file of the grammar has no fault.
abbrev pub FilesHaveNoFault : Type 0
FilesHaveNoFault = (bytes : List ℕ) (fault : SuffixFault) → HasReading bytes → First fault bytes → ⊥

-- Bytes can be read as a file of the grammar in at most one way.
abbrev pub OneReading : Type 0
OneReading =
    (bytes p q : List ℕ) (i j : Ids) (d e : ℕ) (x y : List ℕ) → IsFile p i d x bytes → IsFile q j e y bytes → (p ≡ q) × (i ≡ j)
    × (d ≡ e) × (x ≡ y)
