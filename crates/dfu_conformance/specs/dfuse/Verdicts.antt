-- Results of the judge of a DfuSe device.
use Rattle.std.specs.Prelude.{◌≡◌, ◌↔◌, ℕ, ◌+◌, ◌<◌, Bool, true, false, List, [], ◌∷◌, ◌++◌, length, take, slice_index_or}
use Rattle.dfu_conformance.specs.declared.row.StandardState.{StandardState}
use Rattle.dfu_conformance.specs.declared.event.LogEvent.{LogEvent}
use Rattle.dfu_conformance.specs.declared.verdict.Departure.{Departure}
use Rattle.dfu_conformance.specs.RowMatches.{place_number}
use Rattle.dfu_conformance.specs.dfuse.Runs.{DfuseCanAnswer, DfuseMayBeAt}

-- The list contains state `p`, so a device may be in it.
abbrev pub has_place : List Bool → StandardState → Bool
has_place at p = slice_index_or at (place_number p) false

-- The list contains exactly those states in which a DfuSe device may be after the events.
abbrev pub PlacesExact : List Bool → List LogEvent → Type 0
PlacesExact at events = (p : StandardState) → (has_place at p ≡ true) ↔ DfuseMayBeAt events p

-- The event of `d`, after `events`, is a departure. A DfuSe device might be in the states of `d` before it, but no such device may have
-- answered `events` and this event. The search restarts with the states `since`, which are exact before any event.
pub record DfuseDeparts (events : List LogEvent) (d : Departure) (since : List Bool) : Type 0 where
  -- The departure lists the states in which a DfuSe device may be before the event.
  pub before : PlacesExact d.before events
  -- No DfuSe device may have answered `events` and this event.
  pub none : DfuseCanAnswer (events ++ d.event ∷ []) → ⊥
  -- The states of the new search are exact before any event.
  pub anew : PlacesExact since []

-- The event at index `number` is the first departure. A DfuSe device may have answered the events before it, and might then be in the
-- states of `d`, but none may have answered this event too.
pub record IsFirstDeparture (events : List LogEvent) (number : ℕ) (d : Departure) : Type 0 where
  -- The list has an event at this index.
  pub below : number < length events
  -- A DfuSe device may have answered the events before this one.
  pub kept : DfuseCanAnswer (take number events)
  -- The departure lists the states in which a DfuSe device may be before this event.
  pub before : PlacesExact d.before (take number events)
  -- The event of the departure is the one at this index.
  pub event : take (number + 1) events ≡ take number events ++ d.event ∷ []
  -- No DfuSe device may have answered the events up to and including this one.
  pub none : DfuseCanAnswer (take (number + 1) events) → ⊥
