-- Answers that the standard or a habit of the device allows, as defined by the rows of `src/standard.rt`, `src/marks.rt` and
-- `src/habits.rt`, and by the moves of `src/drifts.rt`.
use Rattle.std.specs.Prelude.{◌≡◌, ◌⊎◌, ◌↔◌, ℕ, ◌<◌, true, List, [], ◌∷◌, Contains}
use Rattle.dfu_conformance.specs.declared.row.StandardState.{StandardState}
use Rattle.dfu_conformance.specs.declared.row.Row.{Row}
use Rattle.dfu_conformance.specs.declared.row.Drift.{Drift}
use Rattle.dfu_conformance.specs.declared.event.LogEvent.{LogEvent}
use Rattle.dfu_conformance.specs.declared.standard.TheConstants.{STANDARD}
use Rattle.dfu_conformance.specs.declared.marks.TheConstants.{MARKS}
use Rattle.dfu_conformance.specs.declared.habits.TheConstants.{HABITS}
use Rattle.dfu_conformance.specs.declared.drifts.TheConstants.{DRIFTS}
use Rattle.dfu_conformance.specs.RowMatches.{row_fits, may_stay_at_event}
use Rattle.dfu_conformance.specs.Candidates.{applies_to, is_held_at}

-- At the event, a row of the list leads a device with these bmAttributes and habits from state `from` to state `next`.
pub record RowStep (rows : List Row) (attributes readings : ℕ) (from : StandardState) (e : LogEvent) (next : StandardState) : Type 0 where
  -- The row that leads the device.
  pub row : Row
  -- The list contains the row.
  pub listed : Contains rows row
  -- The row begins in state `from`.
  pub begins : row.from ≡ from
  -- The row ends in state `next`.
  pub ends : row.next ≡ next
  -- The row fits the event: it is for this kind of event, and allows the logged answer.
  pub speaks : row_fits row e ≡ true
  -- The row applies to the device.
  pub row_is_for_device : applies_to row.when attributes readings ≡ true

-- The event may lead a device from state `from` to state `next` by a row of a table. The device may also stay in its state: if the log has
-- no answer, because the request may not have arrived, or if it stalled a request that is not well-formed by section 3.
abbrev pub MayAnswer : (attributes readings : ℕ) → StandardState → LogEvent → StandardState → Type 0
MayAnswer a r from e next =
    RowStep STANDARD a r from e next ⊎ RowStep MARKS a r from e next ⊎ RowStep HABITS a r from e next
    ⊎ ((next ≡ from) × (may_stay_at_event e ≡ true))

-- Without an event, a device with these bmAttributes and habits goes from state `from` to state `next` by a move of the list.
pub record MovesBy (moves : List Drift) (attributes readings : ℕ) (from next : StandardState) : Type 0 where
  -- The move that the device makes.
  pub row : Drift
  -- The list contains the move.
  pub listed : Contains moves row
  -- The move begins in state `from`.
  pub begins : row.from ≡ from
  -- The move ends in state `next`.
  pub ends : row.next ≡ next
  -- The move applies to the device.
  pub row_is_for_device : applies_to row.when attributes readings ≡ true

-- Between two events, a device stays in its state or makes one move by itself.
abbrev pub MayMove : (attributes readings : ℕ) → StandardState → StandardState → Type 0
MayMove a r from next = (next ≡ from) ⊎ MovesBy DRIFTS a r from next

-- A run of a device through the events, from state `from` to state `last`. Before each event, and at the end, the device stays or moves by
-- itself. At each event, the device goes to a state to which the event may lead it.
abbrev pub Run : (attributes readings : ℕ) → StandardState → List LogEvent → StandardState → Type 0
Run a r from [] last = MayMove a r from last
Run a r from (e ∷ events) last =
    (here : StandardState) × (next : StandardState) × MayMove a r from here × MayAnswer a r here e next × Run a r next events last

-- A device that began in some state may be in this state after the events.
abbrev pub MayBeAt : (attributes readings : ℕ) → List LogEvent → StandardState → Type 0
MayBeAt a r events last = (from : StandardState) × Run a r from events last

-- A device with this set of habits, for some bmAttributes, may have given the answers of the events.
abbrev pub CanAnswer : (readings : ℕ) → List LogEvent → Type 0
CanAnswer r events = (a : ℕ) × (a < 16) × (last : StandardState) × MayBeAt a r events last

-- The candidates are exact: a device is a candidate in a state exactly if it may be in this state after the events.
abbrev pub CandidatesExact : List (List ℕ) → List LogEvent → Type 0
CandidatesExact held events = (a r : ℕ) (p : StandardState) → a < 16 → r < 64 → (is_held_at held p a r ≡ true) ↔ MayBeAt a r events p

-- The candidates without habits are exact: such a device is a candidate in a state exactly if it may be in this state after the events.
abbrev pub PlainCandidatesExact : List (List ℕ) → List LogEvent → Type 0
PlainCandidatesExact held events = (a : ℕ) (p : StandardState) → a < 16 → (is_held_at held p a 0 ≡ true) ↔ MayBeAt a 0 events p
