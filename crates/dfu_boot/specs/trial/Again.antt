-- Standing that `look_again` derives from gates, headers and marks, as long as the images that `look` found are whole.
use Rattle.std.specs.Prelude.{◌≡◌, ◌⊎◌, ℕ, Option, Some, None}
use Rattle.dfu_slots.specs.Medium.{MediumState}
use Rattle.dfu_slots.specs.Layout.{slot_size, ArePlaces}
use Rattle.dfu_slots.specs.Image.{slot_of, IsSizedMedium}
use Rattle.dfu_boot.specs.trial.Marks.{recorded_starts}
use Rattle.dfu_boot.specs.trial.Trial.{IsFilledSlot}
use Rattle.dfu_boot.specs.trial.Calls.{image_place}
use Rattle.dfu_boot.specs.declared.trial.standing.Standing.{Standing}
use Rattle.dfu_boot.specs.declared.trial.standing.Standing.TheVariants as standing

-- If the data of a slot begins at the offset `at`, the image in that slot is whole: the slot's gate is open, and its header is well-formed.
abbrev pub IsImageWholeAt : MediumState → ℕ → Type 0
IsImageWholeAt m at = (slot : ℕ) → image_place m.grain slot ≡ at → IsFilledSlot (slot_of m slot)

-- The images that `look` found are whole: the active image and, on trial, the confirmed one.
abbrev pub ImagesAreWhole : MediumState → ℕ → Option ℕ → Type 0
ImagesAreWhole m at None = IsImageWholeAt m at
ImagesAreWhole m at (Some base) = IsImageWholeAt m at × IsImageWholeAt m base

-- A standing matches a medium: its slots are those of the medium, and its number of starts is the number of recorded starts. The images
-- need not be whole.
abbrev pub MatchesMedium : MediumState → ℕ → Standing → Type 0
MatchesMedium m tries (standing.Settled s) = IsSizedMedium m × ((s.slot ≡ 0) ⊎ (s.slot ≡ slot_size m.bytes))
MatchesMedium m tries (standing.OnTrial t) = IsSizedMedium m × ArePlaces m.bytes t.slot t.base × (t.starts ≡ recorded_starts m tries t.slot)
