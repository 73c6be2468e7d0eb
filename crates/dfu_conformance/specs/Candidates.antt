-- Candidates of a judge: for each state, the devices that may be in it, as bits of words. A `Reading` is a habit. A set of habits is a
-- number in which bit n is for habit n.
use Rattle.std.specs.Prelude.{ℕ, ◌==◌, Bool, true, false, List, [], slice_index, slice_index_or}
use Rattle.std.specs.Int.{bit_at}
use Rattle.dfu_conformance.specs.declared.row.StandardState.{StandardState}
use Rattle.dfu_conformance.specs.RowMatches.{place_number}
use Rattle.dfu_conformance.specs.declared.row.When.{When}
use Rattle.dfu_conformance.specs.declared.row.When.TheVariants.{Always, CanDownload, CanUpload, Tolerant, NotTolerant, WillDetach, By}
use Rattle.dfu_conformance.specs.declared.row.Reading.{Reading}
use Rattle.dfu_conformance.specs.declared.row.Reading.TheVariants.{Bootloader, RuntimeMute, SelfReset, DetachAtOnce, DetachLeaves, ErrorWithoutCode}

-- Index of a habit's bit in the number of a set of habits.
abbrev pub reading_bit : Reading → ℕ
reading_bit Bootloader = 0
reading_bit RuntimeMute = 1
reading_bit SelfReset = 2
reading_bit DetachAtOnce = 3
reading_bit DetachLeaves = 4
reading_bit ErrorWithoutCode = 5

-- A row or move with this `when` applies to devices with these bmAttributes and this set of habits.
abbrev pub applies_to : When → (attributes readings : ℕ) → Bool
applies_to Always a r = true
applies_to CanDownload a r = bit_at a 0 == 1
applies_to CanUpload a r = bit_at a 1 == 1
applies_to Tolerant a r = bit_at a 2 == 1
applies_to NotTolerant a r = bit_at a 2 == 0
applies_to WillDetach a r = bit_at a 3 == 1
applies_to (By reading) a r = bit_at r (reading_bit reading) == 1

-- The words contain the device with bmAttributes `a` and the set of habits `r`: bit `r` of word `a` is 1.
abbrev pub holds_device : List ℕ → (attributes readings : ℕ) → Bool
holds_device words a r = bit_at (slice_index words a) r == 1

-- The device with these bmAttributes and habits is a candidate in state `p`.
abbrev pub is_held_at : List (List ℕ) → StandardState → (attributes readings : ℕ) → Bool
is_held_at held p a r = holds_device (slice_index_or held (place_number p) []) a r

-- The two groups of candidates of a judge, for the events since the last departure and for all events.
pub record JudgedDevices : Type 0 where
  -- Candidates for the events since the last departure, or for all events if there was none.
  pub since : List (List ℕ)
  -- Candidates for all events.
  pub whole : List (List ℕ)

-- Candidates for the events since the last departure, or for all events before the first departure.
abbrev pub devices_since : (has_departed : Bool) → (since whole : List (List ℕ)) → List (List ℕ)
devices_since true since whole = since
devices_since false since whole = whole
