-- Sequences of events of a run area.
use Rattle.std.specs.Prelude.{◌≡◌, ◌⊎◌, ℕ, ◌≤◌, Bool, List, [], ◌∷◌, length, slice_index, Option, None}
use Rattle.dfu_boot.specs.declared.install.due.Due.{Due}
use Rattle.dfu_boot.specs.declared.install.due.Due.TheVariants.{Refuse, Erase, Program, Start}
use Rattle.dfu_boot.specs.install.Area.{AreaStores, start_of}
use Rattle.dfu_boot.specs.install.Next.{IsNextDue}
use Rattle.dfu_boot.specs.install.OperationReport.{IsNoteOfDue}
use Rattle.dfu_boot.specs.install.Operations.{operation_start, operation_end, OutsideUnchanged}

-- State of a run area: the image to start, the bytes of the run area, the offset of the last operation, and the operations since the last
-- power on, newest first.
pub record InstallMoment : Type 0 where
  pub image : List ℕ
  pub run : List ℕ
  pub last : Option ℕ
  pub since : List Due

-- The next operation is carried out and read back. It may succeed, be cut off, fail, or be reported wrongly, and leaves any bytes in its
-- range.
pub record OperationCarriedOut (sector : ℕ) (before after : InstallMoment) : Type 0 where
  pub due : Due
  pub does : IsNextDue before.image before.run sector before.last due
  pub leaves : OutsideUnchanged before.run after.run (operation_start due) (operation_end sector due)
  pub failed : Bool
  pub took : IsNoteOfDue before.image after.run sector due failed after.last
  pub image : after.image ≡ before.image
  pub since : after.since ≡ due ∷ before.since

-- After a loss of power, the offset of the last operation is not known, and another image may be the one to start.
pub record PowerIsLost (before after : InstallMoment) : Type 0 where
  pub run : after.run ≡ before.run
  pub last : after.last ≡ None
  pub since : after.since ≡ []

-- Another image, or the same one, becomes the image to start.
pub record ImageIsReplaced (before after : InstallMoment) : Type 0 where
  pub run : after.run ≡ before.run
  pub last : after.last ≡ before.last
  pub since : after.since ≡ before.since

-- An event of a run area: an operation, a loss of power, or another image.
abbrev pub IsInstallStep : ℕ → InstallMoment → InstallMoment → Type 0
IsInstallStep sector before after = OperationCarriedOut sector before after ⊎ (PowerIsLost before after ⊎ ImageIsReplaced before after)

-- Each state in the list is a possible result of one event in the state before it.
abbrev pub IsInstallTrace : ℕ → InstallMoment → List InstallMoment → Type 0
IsInstallTrace sector m [] = Unit {0}
IsInstallTrace sector m (next ∷ rest) = IsInstallStep sector m next × IsInstallTrace sector next rest

-- State after all events.
abbrev pub end_of_trace : InstallMoment → List InstallMoment → InstallMoment
end_of_trace m [] = m
end_of_trace m (next ∷ rest) = end_of_trace next rest

-- None of the images to start, neither the first nor one after an event, reaches the sector that contains the offset `at`.
abbrev pub NoImageReachesSector : ℕ → ℕ → InstallMoment → List InstallMoment → Type 0
NoImageReachesSector sector at m [] = length m.image ≤ start_of sector at
NoImageReachesSector sector at m (next ∷ rest) = (length m.image ≤ start_of sector at) × NoImageReachesSector sector at next rest

-- The operations, newest first, erased the sector of a piece, and did not program the piece after that erase.
abbrev pub IsErasedSinceProgram : ℕ → ℕ → List Due → Type 0
IsErasedSinceProgram sector piece [] = ⊥
IsErasedSinceProgram sector piece (Erase at ∷ earlier) = (at ≡ start_of sector piece) ⊎ IsErasedSinceProgram sector piece earlier
IsErasedSinceProgram sector piece (Program at ∷ earlier) = (¬ (at ≡ piece)) × IsErasedSinceProgram sector piece earlier
IsErasedSinceProgram sector piece (Refuse refusal ∷ earlier) = IsErasedSinceProgram sector piece earlier
IsErasedSinceProgram sector piece (Start ∷ earlier) = IsErasedSinceProgram sector piece earlier

-- After any events, the image is started only if the run area holds all of it.
abbrev pub StartsOnlyWhole : Type 0
StartsOnlyWhole =
    (sector : ℕ) (m : InstallMoment) (rest : List InstallMoment) → IsInstallTrace sector m rest → let e = end_of_trace m rest in
    IsNextDue e.image e.run sector e.last Start → AreaStores e.run e.image

-- After any events, the bytes of a sector that no image reaches are unchanged.
abbrev pub NeighboursUnchanged : Type 0
NeighboursUnchanged =
    (sector at : ℕ) (m : InstallMoment) (rest : List InstallMoment) → IsInstallTrace sector m rest
    → NoImageReachesSector sector at m rest →
    slice_index (end_of_trace m rest).run at ≡ slice_index m.run at

-- After any events since the first power on, a piece is programmed only if its sector was erased since the last power on, and the piece was
-- not programmed since that erase.
abbrev pub ProgramsOnlyFresh : Type 0
ProgramsOnlyFresh = (sector at : ℕ) (m : InstallMoment) (rest : List InstallMoment) → m.last ≡ None → IsInstallTrace sector m rest →
    let e = end_of_trace m rest in IsNextDue e.image e.run sector e.last (Program at) → IsErasedSinceProgram sector at e.since
