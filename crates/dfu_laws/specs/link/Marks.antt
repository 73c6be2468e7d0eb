-- Changes of a board's flash by a trial, and steps of a board with such changes or copies between them.
use Rattle.std.specs.Prelude.{◌≡◌, ℕ, ◌+◌, Bool, List, [], ◌∷◌, slice_index}
use Rattle.dfu_slots.specs.Medium.{MediumState, ChangedWithin}
use Rattle.dfu_slots.specs.Layout.{ArePlaces, OPEN}
use Rattle.dfu_boot.specs.trial.Unread.{ChangedUnreadBytes}
use Rattle.dfu_asks.specs.Lent.{SameConfig}
use Rattle.dfu_laws.specs.board.Board.{Board, medium_on, BoardStep}
use Rattle.dfu_laws.specs.board.Happens.{IsPoweredOn, EventOutcome, IsRun}
use Rattle.dfu_laws.specs.link.Copies.{HomeCopy}

-- The flash changed only in bytes that the slot store does not read. A mark of a trial is such a change, even if it is torn or fails.
pub record IsMarkedBoard (b b' : Board) : Type 0 where
  pub unread : ChangedUnreadBytes (medium_on b) (medium_on b')
  pub same : b' ≡ record b { flash = b'.flash }

-- The gate of an open slot is closed, with any result: afterwards the sector of the gate holds any bytes, and no other byte changed.
abbrev pub OpenGateWasClosed : MediumState → List ℕ → Type 0
OpenGateWasClosed m now = (at : ℕ) × (other : ℕ) × ArePlaces m.bytes at other × (slice_index m.bytes at ≡ OPEN)
    × ChangedWithin at (at + m.grain.sector) m.bytes now

-- A trial ends: an open gate was closed, and the board restarts, in dfuIDLE if it begins for a host.
pub record TrialEnd (b : Board) (begins : Bool) (b' : Board) : Type 0 where
  pub closed : OpenGateWasClosed (medium_on b) b'.flash
  pub starts : (on : IsPoweredOn b') × (on.begins ≡ begins)
  pub same : SameConfig b.asking b'.asking

-- Board after any number of marks, ends of trials and copies.
pub data MarksOrTrialEnds (b : Board) : Board → Type 0 where
  no_mark_or_end : MarksOrTrialEnds b b
  -- The last change is a mark.
  one_more : {mid b' : Board} → MarksOrTrialEnds b mid → IsMarkedBoard mid b' → MarksOrTrialEnds b b'
  -- The last change is the end of a trial.
  then_trial_end : {mid b' : Board} {begins : Bool} → MarksOrTrialEnds b mid → TrialEnd mid begins b' → MarksOrTrialEnds b b'
  -- The last change is a copy between two areas.
  then_home_copy : {mid b' : Board} → MarksOrTrialEnds b mid → HomeCopy mid b' → MarksOrTrialEnds b b'

-- The steps lead from the first board to the last. Before, between and after them, marks may be set, trials may end, and copies may be
-- made.
abbrev pub IsRunWithMarks : Board → List BoardStep → Board → Type 0
IsRunWithMarks b [] b' = MarksOrTrialEnds b b'
IsRunWithMarks b (s ∷ rest) b' = MarksOrTrialEnds b s.before × EventOutcome s.before s.event s.says s.after
    × SameConfig s.before.asking s.after.asking
    × IsRunWithMarks s.after rest b'

-- Each step begins where the previous one ended, so nothing happened between the steps.
abbrev pub AreStepsJoined : Board → List BoardStep → Board → Type 0
AreStepsJoined b [] b' = b' ≡ b
AreStepsJoined b (s ∷ rest) b' = (s.before ≡ b) × AreStepsJoined s.after rest b'

-- Between the steps there may be marks, ends of trials and copies. If each step begins where the previous one ended, the steps are one run.
pub record IsRunBetweenMarks (b : Board) (steps : List BoardStep) (b' : Board) : Type 0 where
  pub marked : IsRunWithMarks b steps b'
  pub joined : AreStepsJoined b steps b' → IsRun b steps b'
