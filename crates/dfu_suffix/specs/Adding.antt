-- Result of adding a suffix, and the text that is written.
use Rattle.std.specs.Prelude.{◌≡◌, ◌⊎◌, ℕ, ◌<◌, ◌≤◌, List, [], length, Option, Result, Ok, Err, ⊤}
use Rattle.std.specs.Io.KnownBytes.{Appends, Keeps}
use Rattle.dfu_suffix.specs.Grammar.{IsFile, First}
use Rattle.dfu_suffix.specs.Laws.{HasReading}
use Rattle.dfu_suffix.specs.Writing.{IsPartlyWritten}
use Rattle.dfu_wire.specs.declared.ids.Ids.{Ids}
use Rattle.dfu_suffix.specs.declared.fault.SuffixFault.{SuffixFault}
use Rattle.dfu_suffix.specs.declared.fault.SuffixFault.TheVariants.{AlreadySuffixed, DfuSe, TooLarge, NoMemory, Read, Write}

-- The bytes already have a suffix: they are a file of the grammar, or their first fault is `DfuSe`.
abbrev pub HasSuffix : List ℕ → Type 0
HasSuffix bytes = HasReading bytes ⊎ First DfuSe bytes

-- A suffix can be added to the bytes: they have no suffix, and there are at most 16,777,200 bytes.
abbrev pub CanGetSuffix : List ℕ → Type 0
CanGetSuffix bytes = (length bytes ≤ 16777200) × (HasSuffix bytes → ⊥)

-- The text is the file with this payload and these identifiers, bcdDFU 0100h and no extra bytes.
abbrev pub IsFileWithSuffix : List ℕ → Ids → List ℕ → Type 0
IsFileWithSuffix payload ids text = IsFile payload ids 0x0100 [] text

-- After `Ok`, a suffix could be added, the whole file is written, and its length is returned. After `Write`, a suffix could be added, but
-- only a prefix of the file is written. `TooLarge` and `AlreadySuffixed` mean that no suffix could be added. `Read` and `NoMemory` may be
-- returned for any bytes, and no other fault is returned.
abbrev pub AddResult : List ℕ → Ids → Option (List ℕ) → Option (List ℕ) → Result ℕ SuffixFault → Type 0
AddResult all ids old new (Ok n) = CanGetSuffix all × (text : List ℕ) × IsFileWithSuffix all ids text × Appends old new text × (n
    ≡ length text)
AddResult all ids old new (Err TooLarge) = 16777200 < length all
AddResult all ids old new (Err AlreadySuffixed) = (length all ≤ 16777200) × HasSuffix all
AddResult all ids old new (Err Write) = CanGetSuffix all × (text : List ℕ) × IsFileWithSuffix all ids text × IsPartlyWritten old new text
AddResult all ids old new (Err Read) = ⊤
AddResult all ids old new (Err NoMemory) = ⊤
AddResult all ids old new (Err fault) = ⊥

-- After a fault other than Write, the contents of the writer are unchanged.
abbrev pub UnchangedAtFault : {T : Type 0} → Option (List ℕ) → Option (List ℕ) → Result T SuffixFault → Type 0
UnchangedAtFault old new (Ok n) = ⊤
UnchangedAtFault old new (Err Write) = ⊤
UnchangedAtFault old new (Err fault) = Keeps old new
