-- Laws of each due operation, even if it fails, reports a false success or is cut off.
use Rattle.std.specs.Prelude.{◌≡◌, ◌⊎◌, ℕ, ◌+◌, ◌%◌, ◌≤◌, List, take}
use Rattle.dfu_slots.specs.Medium.{MediumState, ChangedWithin}
use Rattle.dfu_slots.specs.Layout.{slot_size, HasOpenGate, header_length}
use Rattle.dfu_slots.specs.Image.{Active, gate_of, spare_at}
use Rattle.dfu_boot.specs.install.Area.{RangeIsBlank}
use Rattle.dfu_home.specs.declared.due.Due.{Due}
use Rattle.dfu_home.specs.declared.due.Due.TheVariants.{Refuse, Home, Erase, Program}
use Rattle.dfu_home.specs.declared.due.Progress.{Progress}
use Rattle.dfu_home.specs.Places.{first_of, IsActiveHome}
use Rattle.dfu_home.specs.Next.{IsNextDue}

-- Offset of the first byte in an operation's range.
abbrev pub place_of : Due → ℕ
place_of (Erase at) = at
place_of (Program at len) = at
place_of (Refuse refusal) = 0
place_of Home = 0

-- Offset after the last byte in an operation's range. If no operation is due, the range is empty.
abbrev pub end_of_due : ℕ → Due → ℕ
end_of_due sector (Erase at) = at + sector
end_of_due sector (Program at len) = at + len
end_of_due sector (Refuse refusal) = 0
end_of_due sector Home = 0

-- An operation that was due is carried out, with any outcome: afterwards its range contains any bytes, and all other bytes are unchanged.
-- So it may succeed, fail, report a false success or be cut off.
pub record HomeOperationOutcome (m : MediumState) (due : Due) (now : MediumState) : Type 0 where
  pub bytes : ChangedWithin (place_of due) (end_of_due m.grain.sector due) m.bytes now.bytes
  pub grain : now.grain ≡ m.grain

-- The active image stays active for any outcome of the due operation.
abbrev pub ImageStays : Type 0
ImageStays =
    (m now : MediumState) (image : List ℕ) (p : Progress) (due : Due) → Active m image → IsNextDue m p due →
    HomeOperationOutcome m due now →
    Active now image

-- An operation lies in the first slot, and erases a whole sector or programs blank bytes. True if no operation is due.
abbrev pub IsFirstSlotOperation : MediumState → Due → Type 0
IsFirstSlotOperation m (Erase at) = (at + m.grain.sector ≤ slot_size m.bytes) × (at % m.grain.sector ≡ 0)
IsFirstSlotOperation m (Program at len) = (at + len ≤ slot_size m.bytes) × RangeIsBlank m.bytes at (at + len)
IsFirstSlotOperation m (Refuse refusal) = Unit {0}
IsFirstSlotOperation m Home = Unit {0}

-- Each due operation lies in the first slot, and erases a whole sector or programs blank bytes.
abbrev pub WritesTheFirstSlot : Type 0
WritesTheFirstSlot = (m : MediumState) (p : Progress) (due : Due) → IsNextDue m p due → IsFirstSlotOperation m due

-- While the active image is in the first slot, the second slot is the spare slot, which a download writes.
abbrev pub SecondIsSpare : Type 0
SecondIsSpare = (m : MediumState) → IsActiveHome m → spare_at (gate_of m) m.bytes ≡ slot_size m.bytes

-- For any outcome of the due operation: if the gate of the first slot is open afterwards, the slot is unchanged, or contains the active
-- image.
abbrev pub FirstSlotIsKnown : Type 0
FirstSlotIsKnown =
    (m now : MediumState) (image : List ℕ) (p : Progress) (due : Due) → Active m image → IsNextDue m p due →
    HomeOperationOutcome m due now → HasOpenGate (first_of now) →
    (first_of now ≡ first_of m) ⊎ (take (header_length (first_of now)) (first_of now).data_bytes ≡ image)
