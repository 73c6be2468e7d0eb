-- Effects of a store's calls, and the reasons for which `format` and `open` fail.
use Rattle.std.specs.Prelude.{◌≡◌, ◌≤◌, ◌<◌, ℕ, List, length, Result, Ok, Err}
use Rattle.dfu_slots.specs.Medium.{MediumState}
use Rattle.dfu_slots.specs.Layout.{slot_size, ArePlaces, HasHeader}
use Rattle.dfu_slots.specs.Image.{slot_of, capacity_of, IsSizedMedium, SlotCounts, IsNewest}
use Rattle.dfu_slots.specs.StoreView.{SlotsState, StoreCall, Ending, AllWorked, BrokenBy, CallEnds}
use Rattle.dfu_slots.specs.declared.fault.FormatFault.{FormatFault}
use Rattle.dfu_slots.specs.declared.fault.FormatFault.TheVariants.{WrongSize as NotSized, TooLarge as ImageTooLarge, Failed as FormatFailed}
use Rattle.dfu_slots.specs.declared.fault.OpenFault.{OpenFault}
use Rattle.dfu_slots.specs.declared.fault.OpenFault.TheVariants.{WrongSize, NoImage, TwoImages, BadHeader}
use Rattle.dfu_slots.specs.declared.fault.PutFault.{PutFault}
use Rattle.dfu_slots.specs.declared.fault.PutFault.TheVariants.{TooLarge, Failed, NotVerified, NotBegun}
use Rattle.dfu_slots.specs.declared.fault.WriteFault.{WriteFault}
use Rattle.dfu_slots.specs.declared.fault.WriteFault.TheVariants.{Failed as WriteFailed, NotVerified as WriteNotVerified}

-- A fault interrupted a call: one of its writes failed, or other bytes were read back than were written.
abbrev pub CallIsBroken : {T : Type 0} → Result T PutFault → Type 0
CallIsBroken (Ok _) = ⊥
CallIsBroken (Err Failed) = Unit {0}
CallIsBroken (Err NotVerified) = Unit {0}
CallIsBroken (Err TooLarge) = ⊥
CallIsBroken (Err NotBegun) = ⊥

-- Fault of the write that interrupted a call: WriteNotVerified if the call returned NotVerified, otherwise WriteFailed.
abbrev pub fault_of : PutFault → WriteFault
fault_of NotVerified = WriteNotVerified
fault_of fault = WriteFailed

-- Ending of the writes of a call that was not refused: all of them worked, or one of them had a fault.
abbrev pub ending_of : {T : Type 0} → Result T PutFault → Ending
ending_of (Ok _) = AllWorked
ending_of (Err fault) = BrokenBy (fault_of fault)

-- Effect of a call, by its result. After Ok all its writes worked. After Failed or NotVerified a write had this fault, and no later write
-- was made. After any other fault the store is unchanged.
abbrev pub CallChanges : {T : Type 0} → SlotsState → StoreCall → Result T PutFault → SlotsState → Type 0
CallChanges old call (Ok _) now = CallEnds old call AllWorked now
CallChanges old call (Err Failed) now = CallEnds old call (BrokenBy WriteFailed) now
CallChanges old call (Err NotVerified) now = CallEnds old call (BrokenBy WriteNotVerified) now
CallChanges old call (Err TooLarge) now = now ≡ old
CallChanges old call (Err NotBegun) now = now ≡ old

-- A medium can be formatted with an image if its length allows two slots, and the image fits into the data of a slot.
pub record CanFormat (m : MediumState) (image : List ℕ) : Type 0 where
  pub sized : IsSizedMedium m
  pub fits : length image ≤ capacity_of m

-- Condition for each fault of `format`, in the order of the checks. Failed is returned only if the medium can be formatted with the image.
abbrev pub IsFormatFault : FormatFault → MediumState → List ℕ → Type 0
IsFormatFault NotSized m image = ¬ IsSizedMedium m
IsFormatFault ImageTooLarge m image = IsSizedMedium m × (capacity_of m < length image)
IsFormatFault FormatFailed m image = CanFormat m image

-- One of the two slots counts, and the other one doesn't count or is one generation older.
pub record HasNewest (m : MediumState) : Type 0 where
  pub at : ℕ
  pub other : ℕ
  pub places : ArePlaces m.bytes at other
  pub newest : IsNewest (slot_of m at) (slot_of m other)

-- The newest of the two slots has no well-formed header.
pub record HasBadHeader (m : MediumState) : Type 0 where
  pub newest : HasNewest m
  pub none : (len : ℕ) → ¬ HasHeader (slot_of m newest.at) len

abbrev pub FirstSlotCounts : MediumState → Type 0
FirstSlotCounts m = SlotCounts (slot_of m 0)

abbrev pub SecondSlotCounts : MediumState → Type 0
SecondSlotCounts m = SlotCounts (slot_of m (slot_size m.bytes))

-- The fault is the first one for which `open` refuses the medium.
abbrev pub FirstOpenFault : OpenFault → MediumState → Type 0
FirstOpenFault WrongSize m = ¬ IsSizedMedium m
FirstOpenFault NoImage m = IsSizedMedium m × (¬ FirstSlotCounts m) × (¬ SecondSlotCounts m)
FirstOpenFault TwoImages m = IsSizedMedium m × FirstSlotCounts m × SecondSlotCounts m × (¬ HasNewest m)
FirstOpenFault BadHeader m = IsSizedMedium m × HasBadHeader m
