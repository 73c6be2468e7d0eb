-- Verdict and departures of a judge.
use Rattle.std.specs.Prelude.{◌≡◌, ◌↔◌, ℕ, ◌<◌, ◌≤◌, Bool, true, false, List, [], ◌∷◌, ◌++◌, slice_index_or, count_ones, ⊤}
use Rattle.dfu_conformance.specs.declared.row.StandardState.{StandardState}
use Rattle.dfu_conformance.specs.declared.event.LogEvent.{LogEvent}
use Rattle.dfu_conformance.specs.declared.verdict.Verdict.{Verdict}
use Rattle.dfu_conformance.specs.declared.verdict.Verdict.TheVariants.{Kept, KeptBy, NotKept}
use Rattle.dfu_conformance.specs.declared.verdict.Departure.{Departure}
use Rattle.dfu_conformance.specs.RowMatches.{place_number}
use Rattle.dfu_conformance.specs.MayAnswer.{MayBeAt, CanAnswer, PlainCandidatesExact}

-- `readings` is the smallest set of habits with which a device may have answered the events. No other such set has fewer habits, and of
-- those with equally many it has the lowest number.
pub record IsLeastSet (readings : ℕ) (events : List LogEvent) : Type 0 where
  -- The set is one of the 64 sets.
  pub below : readings < 64
  -- A device with these habits may have answered the events.
  pub can : CanAnswer readings events
  -- No set with which a device may have answered the events has fewer habits.
  pub fewest : (r : ℕ) → r < 64 → CanAnswer r events → count_ones readings ≤ count_ones r
  -- Each such set with a lower number has more habits.
  pub first : (r : ℕ) → r < readings → CanAnswer r events → count_ones readings < count_ones r

-- The verdict is right for the events. It is `Kept` if a device without habits may have answered them, `KeptBy` with the smallest set of
-- habits if only devices with habits may have answered them, and `NotKept` if no device may have answered them.
abbrev pub IsVerdict : Verdict → List LogEvent → Type 0
IsVerdict Kept events = CanAnswer 0 events
IsVerdict (KeptBy readings) events = (CanAnswer 0 events → ⊥) × IsLeastSet readings events
IsVerdict NotKept events = (r : ℕ) → r < 64 → CanAnswer r events → ⊥

-- If a verdict contains a set of habits, the number of this set has at most six bits, so it is below 64.
abbrev pub HasSixBits : Verdict → Type 0
HasSixBits (KeptBy readings) = readings < 64
HasSixBits verdict = ⊤

-- The list contains exactly those states in which a device with these habits, for some bmAttributes, may be after the events.
abbrev pub ArePlacesAfter : (readings : ℕ) → List LogEvent → List Bool → Type 0
ArePlacesAfter r events at =
    (p : StandardState) → (slice_index_or at (place_number p) false ≡ true) ↔ ((a : ℕ) × (a < 16) × MayBeAt a r events p)

-- The event of `d`, after `events`, is a departure. A device without habits might be in the states of `d` before it, but no such device may
-- have answered `events` and this event. The search restarts with the candidates `since`, which are exact before any event.
pub record EventDeparts (events : List LogEvent) (d : Departure) (since : List (List ℕ)) : Type 0 where
  -- The departure lists the states in which a device without habits may be before the event.
  pub before : ArePlacesAfter 0 events d.before
  -- No device without habits may have answered `events` and this event.
  pub none : CanAnswer 0 (events ++ d.event ∷ []) → ⊥
  -- The candidates of the new search are exact before any event.
  pub anew : PlainCandidatesExact since []
