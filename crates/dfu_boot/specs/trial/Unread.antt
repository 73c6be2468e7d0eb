-- Bytes of a medium that the slot store does not read, such as marks. A change of such bytes changes no image.
use Rattle.std.specs.Prelude.{◌≡◌, ◌↔◌, ℕ, ◌≤◌, List, length}
use Rattle.dfu_slots.specs.Medium.{MediumState}
use Rattle.dfu_slots.specs.Layout.{ArePlaces}
use Rattle.dfu_slots.specs.Image.{slot_of, IsSizedMedium, Active}
use Rattle.dfu_boot.specs.trial.Marks.{AreTries}
use Rattle.dfu_boot.specs.trial.Calls.{mark_op}
use Rattle.dfu_boot.specs.trial.Laws.{OperationOutcome}

-- The medium changed only in bytes that the store does not read: gate, header and data of both slots are unchanged.
pub record ChangedUnreadBytes (m now : MediumState) : Type 0 where
  pub size : length now.bytes ≡ length m.bytes
  pub grain : now.grain ≡ m.grain
  pub slots : (p q : ℕ) → ArePlaces m.bytes p q → slot_of now p ≡ slot_of m p

-- A mark of one of the two slots was written, for a confirmation or a start, with any outcome.
pub record MarkIsWritten (m : MediumState) (tries : ℕ) (now : MediumState) : Type 0 where
  pub at : ℕ
  pub other : ℕ
  pub places : ArePlaces m.bytes at other
  pub mark : ℕ
  pub few : mark ≤ tries
  pub carried : OperationOutcome m (mark_op m.grain at mark) now

-- The store does not read marks, on any medium of two slots with room for the tries, on trial or not.
abbrev pub MarksAreUnread : Type 0
MarksAreUnread =
    (m now : MediumState) (tries : ℕ) → IsSizedMedium m → AreTries m.grain tries → MarkIsWritten m tries now → ChangedUnreadBytes m now

-- A change of bytes that the store does not read changes no image: an image is active afterwards exactly if it was active before.
abbrev pub UnreadChangesNoImage : Type 0
UnreadChangesNoImage = (m now : MediumState) (image : List ℕ) → ChangedUnreadBytes m now → Active now image ↔ Active m image
