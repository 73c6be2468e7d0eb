-- One step of a judge, as the judge computes it.
use Rattle.std.specs.Prelude.{◌≡◌, ◌<◌, ℕ, ◌==◌, ◌&&◌, ◌||◌, nat_le, Bool, true, false, zero, suc, List, [], slice_index_or, Option, Some, None, count_ones, if◌then◌else◌}
use Rattle.std.specs.List.{list_any}
use Rattle.dfu_conformance.specs.declared.row.StandardState.{StandardState}
use Rattle.dfu_conformance.specs.declared.row.Row.{Row}
use Rattle.dfu_conformance.specs.declared.row.Drift.{Drift}
use Rattle.dfu_conformance.specs.declared.event.LogEvent.{LogEvent}
use Rattle.dfu_conformance.specs.declared.standard.TheConstants.{STANDARD}
use Rattle.dfu_conformance.specs.declared.marks.TheConstants.{MARKS}
use Rattle.dfu_conformance.specs.declared.habits.TheConstants.{HABITS}
use Rattle.dfu_conformance.specs.declared.drifts.TheConstants.{DRIFTS}
use Rattle.dfu_conformance.specs.RowMatches.{place_number, row_fits, may_stay_at_event}
use Rattle.dfu_conformance.specs.Candidates.{applies_to, holds_device, is_held_at}

-- If the list lacks a state, no device is a candidate in this state.
abbrev pub CoversPlaces : List (List ℕ) → List Bool → Type 0
CoversPlaces held at = (n a r : ℕ) → n < 12 → a < 16 → r < 64 → slice_index_or at n false ≡ false
    → holds_device (slice_index_or held n []) a r ≡ false

-- At the event, the row leads the device with these bmAttributes and habits to state `n`, from a state in which it is a candidate.
abbrev pub row_leads : List (List ℕ) → LogEvent → StandardState → (attributes readings : ℕ) → Row → Bool
row_leads held e n a r row =
    (place_number row.next == place_number n) && (row_fits row e && (is_held_at held row.from a r && applies_to row.when a r))

-- The move leads the device with these bmAttributes and habits to state `n`, from a state in which it is a candidate.
abbrev pub drift_leads : List (List ℕ) → StandardState → (attributes readings : ℕ) → Drift → Bool
drift_leads held n a r d = (place_number d.next == place_number n) && (is_held_at held d.from a r && applies_to d.when a r)

-- Right after the event, before a move, the device is a candidate in state `n`: it stayed there, or a row led it there.
abbrev pub is_held_before_moves : List (List ℕ) → LogEvent → StandardState → (attributes readings : ℕ) → Bool
is_held_before_moves held e n a r =
    (((may_stay_at_event e && is_held_at held n a r) || list_any (row_leads held e n a r) STANDARD)
    || list_any (row_leads held e n a r) MARKS)
    || list_any (row_leads held e n a r) HABITS

-- The device is a candidate in state `n` after at most one move by itself, from a state for which `held` is true.
abbrev pub is_held_after_move : (StandardState → Bool) → StandardState → (attributes readings : ℕ) → Bool
is_held_after_move held n a r =
    held n || list_any (λ (d : Drift). (place_number d.next == place_number n) && (held d.from && applies_to d.when a r)) DRIFTS

-- After the event and at most one move by itself, the device is a candidate in state `n`.
abbrev pub is_held_after_event : List (List ℕ) → LogEvent → StandardState → (attributes readings : ℕ) → Bool
is_held_after_event held e n a r = is_held_after_move (λ (p : StandardState). is_held_before_moves held e p a r) n a r

-- The test passes for at least one number below n.
abbrev pub passes_below : (ℕ → Bool) → ℕ → Bool
passes_below p zero = false
passes_below p (suc n) = passes_below p n || p n

-- The words contain a device with this set of habits, for some bmAttributes.
unfoldable pub has_candidate : List ℕ → (readings : ℕ) → Bool
has_candidate words r = passes_below (λ (a : ℕ). holds_device words a r) 16

-- A device with this set of habits, for some bmAttributes, is a candidate in some state.
unfoldable pub is_held_anywhere : List (List ℕ) → (readings : ℕ) → Bool
is_held_anywhere held r = passes_below (λ (n : ℕ). has_candidate (slice_index_or held n []) r) 12

-- The smaller of two sets of habits, which is `r` if the flag is true and `least` is None or has more habits. Otherwise it is `least`.
abbrev pub smaller_set_of_readings : Bool → ℕ → Option ℕ → Option ℕ
smaller_set_of_readings false r least = least
smaller_set_of_readings true r None = Some r
smaller_set_of_readings true r (Some s) = if nat_le (count_ones s) (count_ones r) then Some s else Some r

-- The smallest set of habits with a number below `n` that passes a test, or None. It has the fewest habits and, of the sets with equally
-- many, the lowest number.
abbrev pub least_set_below : (ℕ → Bool) → ℕ → Option ℕ
least_set_below p zero = None
least_set_below p (suc n) = smaller_set_of_readings (p n) n (least_set_below p n)
