-- Change of the identifiers of a DFU file, which leaves everything else unchanged.
use Rattle.std.specs.Prelude.{ℕ, List, [], ◌∷◌, ◌++◌, Result, Ok, Err, Vec, unwrap_or}
use Rattle.std.specs.Int.{w16, w32, to_le_bytes}
use Rattle.std.specs.declared.alloc.Global.{Global}
use Rattle.dfu_suffix.specs.Grammar.{IsFile, First}
use Rattle.dfu_suffix.specs.Register.{register}
use Rattle.dfu_suffix.specs.declared.fault.SuffixFault.{SuffixFault}
use Rattle.dfu_suffix.specs.declared.fault.SuffixFault.TheVariants.{NoMemory}
use Rattle.dfu_wire.specs.declared.ids.Ids.{Ids}
use Rattle.dfu_fs.specs.declared.changing.Change.{Change}

-- Identifiers after a change: the new one if the change contains it, and the old one otherwise.
abbrev pub changed_ids : Change → Ids → Ids
changed_ids change ids = record {
  device = unwrap_or change.device ids.device;
  product = unwrap_or change.product ids.product;
  vendor = unwrap_or change.vendor ids.vendor;
}

-- Fields of a suffix before dwCRC, with these identifiers, this bcdDFU and this bLength.
abbrev pub suffix_fields : Ids → (dfu suffix : ℕ) → List ℕ
suffix_fields ids dfu suffix = to_le_bytes w16 ids.device ++ (to_le_bytes w16 ids.product ++ (to_le_bytes w16 ids.vendor
    ++ (to_le_bytes w16 dfu ++ (0x55 ∷ 0x46 ∷ 0x44 ∷ suffix ∷ []))))

-- Bytes followed by their CRC.
abbrev pub with_check_sum : List ℕ → List ℕ
with_check_sum bytes = bytes ++ to_le_bytes w32 (register bytes)

-- The new file has the changed identifiers, and the payload, bcdDFU and extra bytes of the old file.
abbrev pub IsChangedFile : Change → (old new : List ℕ) → Type 0
IsChangedFile change old new = (payload : List ℕ) × (ids : Ids) × (dfu : ℕ) × (extra : List ℕ) × IsFile payload ids dfu extra old
    × IsFile payload (changed_ids change ids) dfu extra new

-- The result of a change is the changed file, NoMemory, or the first fault of the old file.
abbrev pub ChangesFile : Change → List ℕ → Result (Vec ℕ Global) SuffixFault → Type 0
ChangesFile change old (Ok new) = IsChangedFile change old new.items
ChangesFile change old (Err NoMemory) = Unit {0}
ChangesFile change old (Err fault) = First fault old
