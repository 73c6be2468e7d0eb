-- The goal of a session changes only once: a payload that is to be verified is compared after the last reset.
use Rattle.std.proofs.Common.{◌≡◌, List, ℕ, refl}
use Rattle.dfu_device.specs.Stage.{Profile}
use Rattle.dfu_device.specs.Outcome.{Situation}
use Rattle.dfu_host.specs.Phases.{Goal, LoadGoal, VerifyGoal, Phase, Find, Last, Heard, WasReset}
use Rattle.dfu_host.specs.Table.{deed, host_row, goal_after_reset, goal_after}
use Rattle.dfu_sim.specs.Opening.{task_for}
use Rattle.dfu_sim.specs.Agreement.{live_session_of_goal}
use Rattle.dfu_sim.specs.Fact.{PhaseFact, GoalFact}

-- If a property holds for a goal and for the goal after the last reset, it holds for the goal after any phase.
pub goal_after_phase_has_fact : (P : Goal → Type 0) (g : Goal) → P g → P (goal_after_reset g) → (phase : Phase) (heard : Heard) →
    P (goal_after g phase heard)
goal_after_phase_has_fact P g x y (Last report) WasReset = y
goal_after_phase_has_fact P g x y (Last report) heard = x
goal_after_phase_has_fact P g x y phase heard = x

-- The last reset does not change the session machine's live session.
last_reset_keeps_live_goal : (g : Goal) → live_session_of_goal (goal_after_reset g) ≡ live_session_of_goal g
last_reset_keeps_live_goal (VerifyGoal p) = refl
last_reset_keeps_live_goal g = refl

-- No phase changes the session machine's live session.
pub phase_keeps_live_goal : (g : Goal) (phase : Phase) (heard : Heard) → live_session_of_goal (goal_after g phase heard)
    ≡ live_session_of_goal g
phase_keeps_live_goal g phase heard = goal_after_phase_has_fact (λ x. live_session_of_goal x
    ≡ live_session_of_goal g) g refl (last_reset_keeps_live_goal g) phase heard

module _ (c : Profile) where
  -- Fact of the next phase and goal, by the result that the host receives.
  abbrev pub Next : Goal → Situation → Phase → Heard → Type 0
  Next g s phase heard = GoalFact c (goal_after g phase heard) (host_row (task_for c g) phase heard) s

  -- If each fact of a goal implies that of the goal after the last reset, the fact of the next phase still holds when the goal changes.
  pub unchanged_goal_has_next_fact : (g : Goal) → ((phase : Phase) (s : Situation) → GoalFact c g phase s →
      GoalFact c (goal_after_reset g) phase s)
      → (s : Situation) (phase : Phase) (heard : Heard) → GoalFact c g (host_row (task_for c g) phase heard) s → Next g s phase heard
  unchanged_goal_has_next_fact g f s phase heard h =
      goal_after_phase_has_fact (λ x. GoalFact c x (host_row (task_for c g) phase heard) s) g h (f (host_row (task_for c g) phase heard) s
      h) phase heard

  -- A session that verifies has the same deed in each phase as a download.
  pub verify_deed_is_load_deed : (p : List ℕ) (phase : Phase) → deed (task_for c (VerifyGoal p)) phase
      ≡ deed (task_for c (LoadGoal p)) phase
  verify_deed_is_load_deed p Find = refl
  verify_deed_is_load_deed p phase = refl

  -- A session that verifies goes from phase to phase like a download, except at the last reset, after which it begins to compare.
  pub verify_phase_follows_load : (p : List ℕ) (s : Situation) (phase : Phase) (heard : Heard)
      → PhaseFact c p (host_row (task_for c (LoadGoal p)) phase heard) s
      → Next (VerifyGoal p) s phase heard
  verify_phase_follows_load p s (Last report) WasReset h = tt
  verify_phase_follows_load p s (Last report) heard h = h
  verify_phase_follows_load p s phase heard h = h
