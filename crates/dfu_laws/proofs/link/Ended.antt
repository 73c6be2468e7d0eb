-- Boards after the end of a trial or a copy, and session facts that still hold.
use Rattle.std.specs.Prelude.{◌≡◌, ℕ, ◌-◌, ◌*◌, ◌/◌, Bool, true, List, [], length}
use Rattle.std.proofs.Common.{inl, inr, refl, sym, ap, ◌∙◌, subst}
use Rattle.dfu_wire.specs.declared.states.State.TheVariants.{DfuIdle}
use Rattle.dfu_slots.specs.Units.{gate_room}
use Rattle.dfu_slots.specs.StoreView.{room_of}
use Rattle.dfu_device.specs.Stage.{Profile, Stage, InDfuIdle, state_of}
use Rattle.dfu_device.specs.Outcome.{Situation}
use Rattle.dfu_device.specs.DeviceView.{DeviceView, profile, profile_of, situation}
use Rattle.dfu_device.specs.History.{IsHistory, HistoryStep as TableRow}
use Rattle.dfu_asks.specs.Mapped.{grain_of}
use Rattle.dfu_asks.specs.Lent.{LentDevice}
use Rattle.dfu_asks.specs.Asks.{grain_in, flash_store}
use Rattle.dfu_host.specs.Blocks.{first_blocks}
use Rattle.dfu_host.specs.Phases.{Goal, LoadGoal, FetchGoal, VerifyGoal, CompareGoal, Task, Phase, Enter, Block, Close, Fetch, Compare}
use Rattle.dfu_host.specs.Table.{deed}
use Rattle.dfu_sim.specs.LinkView.{Session, NoLiveSession, HostSession}
use Rattle.dfu_sim.specs.Fact.{IsAtBlock, WholePayloadAccepted, FetchedSoFar, PhaseFact, FetchFact, CompareFact, GoalFact, SessionFact}
use Rattle.dfu_sim.proofs.CommonFacts.{common_phase_has_goal_fact}
use Rattle.dfu_laws.specs.board.Board.{Board, lent_on, medium_on, device_on, state_on}
use Rattle.dfu_laws.specs.board.Happens.{start_stage, BoardStarts}
use Rattle.dfu_laws.specs.board.Refines.{IsIdleBoard, IdleRunsRefineTable}
use Rattle.dfu_laws.specs.link.Marks.{TrialEnd}
use Rattle.dfu_laws.specs.link.Copies.{HomeCopy}
use Rattle.dfu_laws.specs.link.Trials.{BeginsTransfer, TrialMayEnd}
use Rattle.dfu_laws.proofs.link.BoardsAfterCopies.{operations_keep_size}

-- Flash of the same size has the same room for an image.
same_length_same_room : (a a' : LentDevice) (flash flash' : List ℕ) → length flash' ≡ length flash → grain_in a' ≡ grain_in a
    → room_of (flash_store a' flash') ≡ room_of (flash_store a flash)
unfolding room_of
same_length_same_room a a' flash flash' size grain = λ i. size i / 2 - 2 * gate_room (grain i)

-- The end of a trial does not change the profile of the device.
pub trial_end_keeps_profile : (b b' : Board) (begins : Bool) → TrialEnd b begins b' → profile (device_on b') ≡ profile (device_on b)
trial_end_keeps_profile b b' begins end = λ i. profile_of (end.same.config i)
    (same_length_same_room (lent_on b) (lent_on b') b.flash b'.flash end.closed.4.size (λ j. grain_of (end.same.unit j) (end.same.sector
    j)) i)

-- The copy between two areas does not change the profile of the device.
pub home_copy_keeps_profile : (b b' : Board) → HomeCopy b b' → profile (device_on b') ≡ profile (device_on b)
home_copy_keeps_profile b b' copy = λ i. profile_of (copy.same.config i)
    (same_length_same_room (lent_on b) (lent_on b') b.flash b'.flash
    (operations_keep_size (medium_on b) (medium_on b') copy.operations) (λ j. grain_of (copy.same.unit j) (copy.same.sector j)) i)

-- The copy between two areas does not change the stage of a board.
pub home_copy_keeps_stage : (b b' : Board) → HomeCopy b b' → (device_on b').stage ≡ (device_on b).stage
home_copy_keeps_stage b b' copy =
    ap (λ (d : DeviceView). d.stage) copy.starts.0.device
    ∙ ap start_stage (copy.starts.1 ∙ sym copy.power.1)
    ∙ sym (ap (λ (d : DeviceView). d.stage) copy.power.0.device)

-- A board without pending writes is in the state of its device.
pub idle_board_has_device_state : (refines : IdleRunsRefineTable) (b : Board) (d : DeviceView) → IsIdleBoard b d → state_on b
    ≡ state_of d.stage
idle_board_has_device_state refines b d k =
    let r = refines b b d [] k refl in
    let same : r.device ≡ d = subst (λ (rows : List TableRow). IsHistory d rows r.device) r.tells.0 r.history in
    r.state ∙ ap (λ (x : DeviceView). state_of x.stage) same

-- A board that begins for a host is in dfuIDLE.
pub begun_board_is_in_dfu_idle : (b' : Board) (begins : Bool) → BoardStarts begins b' → begins ≡ true → (device_on b').stage ≡ InDfuIdle
begun_board_is_in_dfu_idle b' begins (on, is) e = ap (λ (d : DeviceView). d.stage) on.device ∙ ap start_stage (is ∙ e)

pub dfu_idle_is_one_stage : (stage : Stage) → state_of stage ≡ DfuIdle → stage ≡ InDfuIdle
dfu_idle_is_one_stage InDfuIdle e = refl
dfu_idle_is_one_stage stage e = absurd (cc)

module _ (c : Profile) (s s' : Situation) (before : s.stage ≡ InDfuIdle) (after : s'.stage ≡ InDfuIdle) where
  -- Both devices are in dfuIDLE, and therefore in the same stage.
  stage_is : s.stage ≡ s'.stage
  stage_is = before ∙ sym after

  -- In dfuIDLE no byte of any image has been fetched.
  nothing_fetched_in_dfu_idle : (k : ℕ) (kept : List ℕ) → FetchedSoFar k kept s.image s.stage → FetchedSoFar k kept s'.image s'.stage
  nothing_fetched_in_dfu_idle k kept f =
      let none : FetchedSoFar k kept s'.image InDfuIdle = subst (λ (x : Stage). FetchedSoFar k kept s.image x) before f in
      subst (λ (x : Stage). FetchedSoFar k kept s'.image x) (sym after) none

  any_image_keeps_load_fact : (p : List ℕ) (task : Task) (phase : Phase) → BeginsTransfer (deed task phase) → PhaseFact c p phase s →
      PhaseFact c p phase s'
  any_image_keeps_load_fact p task (Block n) t f = (f.0, subst (λ (x : Stage). IsAtBlock p c.transfer n x) stage_is f.1)
  any_image_keeps_load_fact p task Close t f = subst (λ (x : Stage). WholePayloadAccepted p x) stage_is f
  any_image_keeps_load_fact p task (Fetch k kept) t f = f
  any_image_keeps_load_fact p task (Compare k) t f = f
  any_image_keeps_load_fact p task Enter t f = f
  any_image_keeps_load_fact p task phase t f = absurd t

  any_image_keeps_fetch_fact : (task : Task) (phase : Phase) → BeginsTransfer (deed task phase) → FetchFact phase s → FetchFact phase s'
  any_image_keeps_fetch_fact task (Fetch k kept) t f = (f.0, nothing_fetched_in_dfu_idle k kept f.1)
  any_image_keeps_fetch_fact task (Block n) t f = f
  any_image_keeps_fetch_fact task Close t f = f
  any_image_keeps_fetch_fact task (Compare k) t f = f
  any_image_keeps_fetch_fact task Enter t f = f
  any_image_keeps_fetch_fact task phase t f = absurd t

  any_image_keeps_compare_fact : (p : List ℕ) (task : Task) (phase : Phase) → BeginsTransfer (deed task phase) → CompareFact c p phase s
      → CompareFact c p phase s'
  any_image_keeps_compare_fact p task (Compare k) t f = (f.0, nothing_fetched_in_dfu_idle k (first_blocks p c.transfer k) f.1)
  any_image_keeps_compare_fact p task (Block n) t f = f
  any_image_keeps_compare_fact p task Close t f = f
  any_image_keeps_compare_fact p task (Fetch k kept) t f = f
  any_image_keeps_compare_fact p task Enter t f = f
  any_image_keeps_compare_fact p task phase t f = absurd t

  -- Before a transfer begins in dfuIDLE, the session facts hold for any image.
  any_image_keeps_goal_fact : (g : Goal) (task : Task) (phase : Phase) → BeginsTransfer (deed task phase) → GoalFact c g phase s →
      GoalFact c g phase s'
  any_image_keeps_goal_fact (LoadGoal p) task phase t f = any_image_keeps_load_fact p task phase t f
  any_image_keeps_goal_fact FetchGoal task phase t f = any_image_keeps_fetch_fact task phase t f
  any_image_keeps_goal_fact (VerifyGoal p) task phase t f = any_image_keeps_load_fact p task phase t f
  any_image_keeps_goal_fact (CompareGoal p) task phase t f = any_image_keeps_compare_fact p task phase t f

-- After the end of a trial, the session facts still hold.
pub trial_end_keeps_session_fact : (c : Profile) (session : Session) (b b' : Board) (begins : Bool) (d : DeviceView) → state_on b
    ≡ state_of d.stage
    → TrialMayEnd session (state_on b) begins → BoardStarts begins b' → SessionFact c (situation d) session
    → SessionFact c (situation (device_on b')) session
trial_end_keeps_session_fact c NoLiveSession b b' begins d state may starts f = tt
trial_end_keeps_session_fact c (HostSession h) b b' begins d state may starts f = record {
  task_is = f.task_is;
  on = f.on;
  some = f.some;
  fact = elim may [
    | inl common ↦ common_phase_has_goal_fact c h.task.goal (situation (device_on b')) h.phase common
    | inr transfer ↦ any_image_keeps_goal_fact c (situation d) (situation (device_on b')) (dfu_idle_is_one_stage d.stage (sym state
        ∙ transfer.1))
        (begun_board_is_in_dfu_idle b' begins starts transfer.2) h.task.goal h.task h.phase transfer.0 f.fact
  ];
}
