-- Changes of the flash of a board in C by a trial or by the copy between two areas, and steps with such changes between them.
use Rattle.std.specs.Prelude.{◌≡◌, pos, Bool, List, [], ◌∷◌}
use Rattle.dfu_boot.specs.trial.Unread.{ChangedUnreadBytes}
use Rattle.dfu_core.specs.Power.{PowerOutcome}
use Rattle.dfu_core.specs.Board.{CoreBoard, medium_of_core}
use Rattle.dfu_core.specs.Happens.{start_mode, CoreEventOutcome}
use Rattle.dfu_laws.specs.link.Marks.{OpenGateWasClosed}
use Rattle.dfu_laws.specs.link.Copies.{HomeOperations}
use Rattle.dfu_laws.specs.in_c.Steps.{CoreStep, IsCoreRun}

-- The flash changed only in bytes that the slot store does not read. The mark that dfu_core_trial_start or dfu_core_trial_confirm requests
-- is such a change, even if it is torn or fails.
pub record IsMarkedCoreBoard (b b' : CoreBoard) : Type 0 where
  pub unread : ChangedUnreadBytes (medium_of_core b) (medium_of_core b')
  pub same : b' ≡ record b { flash = b'.flash }

-- A trial ends: an open gate was closed, and then dfu_core_power_on returned 0, or dfu_core_begin did if the board begins for a host.
pub record CoreTrialEnd (b : CoreBoard) (begins : Bool) (b' : CoreBoard) : Type 0 where
  pub closed : OpenGateWasClosed (medium_of_core b) b'.flash
  pub config : b'.config ≡ b.config
  pub powers : PowerOutcome b'.config (start_mode begins) b'.flash (pos 0) b'.kept

-- The copy between two areas runs on a board in C after a restart, before its device starts. The board b has the record that
-- dfu_core_power_on (or dfu_core_begin) would give before the copy; the program makes that call only after the operations of
-- dfu_core_home_next.
pub record CoreHomeCopy (b b' : CoreBoard) : Type 0 where
  pub begins : Bool
  pub power : PowerOutcome b.config (start_mode begins) b.flash (pos 0) b.kept
  pub operations : HomeOperations (medium_of_core b) (medium_of_core b')
  pub config : b'.config ≡ b.config
  pub starts : PowerOutcome b'.config (start_mode begins) b'.flash (pos 0) b'.kept

-- Board in C after any number of marks, ends of trials and copies.
pub data CoreMarksOrTrialEnds (b : CoreBoard) : CoreBoard → Type 0 where
  no_core_mark_or_end : CoreMarksOrTrialEnds b b
  then_core_mark : {mid b' : CoreBoard} → CoreMarksOrTrialEnds b mid → IsMarkedCoreBoard mid b' → CoreMarksOrTrialEnds b b'
  then_core_trial_end : {mid b' : CoreBoard} {begins : Bool} → CoreMarksOrTrialEnds b mid → CoreTrialEnd mid begins b' →
      CoreMarksOrTrialEnds b b'
  then_core_home_copy : {mid b' : CoreBoard} → CoreMarksOrTrialEnds b mid → CoreHomeCopy mid b' → CoreMarksOrTrialEnds b b'

-- The steps lead from the first board in C to the last. Before, between and after them, marks may be set, trials may end, and copies may be
-- made.
abbrev pub IsCoreRunWithMarks : CoreBoard → List CoreStep → CoreBoard → Type 0
IsCoreRunWithMarks b [] b' = CoreMarksOrTrialEnds b b'
IsCoreRunWithMarks b (s ∷ rest) b' = CoreMarksOrTrialEnds b s.before × CoreEventOutcome s.before s.event s.number s.out s.after
    × IsCoreRunWithMarks s.after rest b'

-- Each step begins where the previous one ended, so nothing happened between the steps.
abbrev pub AreCoreStepsJoined : CoreBoard → List CoreStep → CoreBoard → Type 0
AreCoreStepsJoined b [] b' = b' ≡ b
AreCoreStepsJoined b (s ∷ rest) b' = (s.before ≡ b) × AreCoreStepsJoined s.after rest b'

-- Between the steps there may be marks, ends of trials and copies. If each step begins where the previous one ended, the steps are one run.
pub record IsCoreRunIfJoined (b : CoreBoard) (steps : List CoreStep) (b' : CoreBoard) : Type 0 where
  pub marked : IsCoreRunWithMarks b steps b'
  pub joined : AreCoreStepsJoined b steps b' → IsCoreRun b steps b'
