-- Number of results that a clean run takes from a phase to its end.
use Rattle.std.proofs.Common.{◌≡◌, if◌then◌else◌, ℕ, zero, suc, pred, ◌+◌, ◌≤◌, List, [], ◌∷◌, refl, sym, ap, ◌∙◌, subst, arith}
use Rattle.dfuse_host.specs.declared.plan.Plan.{Plan}
use Rattle.dfuse_host.specs.declared.phase.Phase.{Phase}
use Rattle.dfuse_host.specs.declared.phase.Phase.TheVariants.{On, Over}
use Rattle.dfuse_host.specs.declared.work.Work.{Work}
use Rattle.dfuse_host.specs.declared.place.Place.{Place}
use Rattle.dfuse_host.specs.declared.step.Step.{Step}
use Rattle.dfuse_host.specs.declared.report.Leaving.{Leaving}
use Rattle.dfuse_host.specs.declared.report.Leaving.TheVariants as leaving
use Rattle.dfuse_host.specs.declared.report.Report.TheVariants.{Verified}
use Rattle.dfuse_host.specs.declared.seen.Seen.{Seen}
use Rattle.dfuse_host.specs.declared.seen.Seen.TheVariants as seen
use Rattle.dfuse_host.specs.declared.session.Session.{Session}
use Rattle.dfuse_host.specs.Settling.{phase_with_step}
use Rattle.dfuse_host.specs.Sessions.{phase_within_budget, session_after_action, session_after_step_heard}
use Rattle.dfuse_host.specs.Wire.{DfuseSeenMeaning}
use Rattle.dfuse_host.proofs.ForCallers.{AnyHeard}
use Rattle.dfuse_link.specs.CleanRuns.{IsCleanResult, CleanSession, clean_nothing_seen, clean_result_more, waits_in}
use Rattle.dfuse_link.specs.Counts.{FinishesAfter}

-- Number of waits that a result ends: one or none.
abbrev pub wait_count_of : Seen → ℕ
wait_count_of seen.Waited = 1
wait_count_of s = 0

waits_in_cons : (x : Seen) (xs : List Seen) → waits_in (x ∷ xs) ≡ wait_count_of x + waits_in xs
waits_in_cons seen.Waited xs = refl
waits_in_cons x xs = omega arith

-- Leaving in the report of a verified session: Left if the plan lets the device leave, and Stayed otherwise.
abbrev pub leaving_of_plan : Plan → Leaving
leaving_of_plan plan = if plan.leaves then leaving.Left else leaving.Stayed

-- A clean run may have this result in this phase.
abbrev IsCleanIn : Plan → Seen → Phase → Type 0
IsCleanIn plan x (On at) = IsCleanResult plan at.work at.step x
IsCleanIn plan x (Over report) = ⊥

-- Session in a phase with the given numbers of actions and restarts left.
abbrev pub session_in_phase : Plan → Phase → (actions restarts : ℕ) → Session
session_in_phase plan phase actions restarts = record { plan = plan; phase = phase; actions = actions; restarts = restarts }

-- A clean run from this phase is over after `n` results, of which `u` end a wait, if at least `n` actions are left.
pub record CleanRunLasts (plan : Plan) (phase : Phase) (n u : ℕ) : Type 0 where
  pub runs : (actions restarts : ℕ) (seens : List Seen) (s : Session) → n ≤ actions →
      CleanSession (session_in_phase plan phase actions restarts) seens s → FinishesAfter plan n u seens s

pub lasts_by_equal_counts : (plan : Plan) (phase : Phase) (n m u v : ℕ) → n ≡ m → u ≡ v → CleanRunLasts plan phase n u →
    CleanRunLasts plan phase m v
lasts_by_equal_counts plan phase n m u v e f l = subst (λ (i : ℕ). CleanRunLasts plan phase i v) e (subst (λ (i : ℕ). CleanRunLasts plan
    phase n i) f l)

pub lasts_from_equal_phase : (plan : Plan) (p q : Phase) (n u : ℕ) → p ≡ q → CleanRunLasts plan q n u → CleanRunLasts plan p n u
lasts_from_equal_phase plan p q n u e l = subst (λ (x : Phase). CleanRunLasts plan x n u) (sym e) l

-- The result leads to a phase from which a clean run is over after `n` results, of which `u` end a wait.
pub record LeadsToLastingPhase (plan : Plan) (w : Work) (p : Place) (s : Step) (h : AnyHeard) (n u : ℕ) : Type 0 where
  pub next : Phase
  -- A clean run from the next phase takes `n` results, of which `u` end a wait.
  pub next_phase_lasts : CleanRunLasts plan next n u
  -- The session is in the next phase after the result.
  pub comes : (actions restarts : ℕ) → session_after_step_heard (session_in_phase plan (phase_with_step w p s) actions restarts) w p s h ≡
      session_after_action (session_in_phase plan (phase_with_step w p s) actions restarts) next restarts

-- The limit of actions doesn't end a session that needs no more actions than are left.
phase_fits_budget : (plan : Plan) (next : Phase) (n u left : ℕ) → CleanRunLasts plan next n u → n ≤ left →
    phase_within_budget left next ≡ next
phase_fits_budget plan (Over r) n u left l h = refl
phase_fits_budget plan (On at) n u zero l h =
    absurd ((l.runs zero zero [] (session_in_phase plan (On at) zero zero) h clean_nothing_seen).enough (omega (arith, h)))
phase_fits_budget plan (On at) n u (suc left) l h = refl

over_session_finishes : (plan : Plan) (actions restarts : ℕ) (seens : List Seen) (s : Session) →
    CleanSession (session_in_phase plan (Over (Verified (leaving_of_plan plan))) actions restarts) seens s → FinishesAfter plan 0 0 seens s
over_session_finishes plan actions restarts _ _ clean_nothing_seen = record { over = λ o. (refl, refl, refl); enough = λ h. tt }
over_session_finishes plan actions restarts (x ∷ xs) s (clean_result_more at is clean row rest) = absurd (subst (IsCleanIn plan x) (sym is)
    clean)

-- A session that is over takes no more results.
pub over_phase_lasts_none : (plan : Plan) → CleanRunLasts plan (Over (Verified (leaving_of_plan plan))) 0 0
over_phase_lasts_none plan = record { runs = λ actions restarts seens s less run. over_session_finishes plan actions restarts seens s run }

module _ (plan : Plan) (w : Work) (p : Place) where
  -- If each clean result of a step leads to a phase that takes `n` results, the run takes `n + 1` results from the step.
  step_finishes_after_next : (s : Step) (n u k : ℕ) → ((x : Seen) → IsCleanResult plan w s x → wait_count_of x ≡ k) →
      ((x : Seen) (h : AnyHeard) → IsCleanResult plan w s x → DfuseSeenMeaning plan w s x h → LeadsToLastingPhase plan w p s h n u) →
      (actions restarts : ℕ) (seens : List Seen) (s' : Session) → suc n ≤ actions →
      CleanSession (session_in_phase plan (phase_with_step w p s) actions restarts) seens s' → FinishesAfter plan (suc n) (k + u) seens s'
  step_finishes_after_next s n u k waits on actions restarts _ _ less clean_nothing_seen =
      record { over = λ o. absurd o; enough = λ h. absurd (omega (arith, h)) }
  step_finishes_after_next s n u k waits on actions restarts (x ∷ xs) s' less (clean_result_more {mid = mid} at is found row rest) =
      let clean = subst (IsCleanIn plan x) (sym is) found in
      let o = on x row.heard clean row.hears in
      let fit = phase_fits_budget plan o.next n u (pred actions) o.next_phase_lasts (omega (arith, less)) in
      let same : mid ≡ session_in_phase plan o.next (pred actions) restarts =
      row.same ∙ o.comes actions restarts ∙ ap (λ (q : Phase). session_in_phase plan q (pred actions) restarts) fit in
      let e = o.next_phase_lasts.runs (pred actions) restarts xs s' (omega (arith, less)) (subst (λ (t : Session). CleanSession t xs s')
      same rest) in
      record {
        over = λ v. let b = e.over v in (b.0, omega (arith, b.1), omega (arith, b.2, waits x clean, waits_in_cons x xs));
        enough = λ h. e.enough (omega (arith, h));
      }

  pub step_lasts_one_more : (s : Step) (n u k : ℕ) → ((x : Seen) → IsCleanResult plan w s x → wait_count_of x ≡ k) →
      ((x : Seen) (h : AnyHeard) → IsCleanResult plan w s x → DfuseSeenMeaning plan w s x h → LeadsToLastingPhase plan w p s h n u) →
      CleanRunLasts plan (phase_with_step w p s) (suc n) (k + u)
  step_lasts_one_more s n u k waits on = record { runs = step_finishes_after_next s n u k waits on }

  pub request_lasts_one_more : (s : Step) (n u : ℕ) → ((x : Seen) → IsCleanResult plan w s x → wait_count_of x ≡ 0) →
      ((x : Seen) (h : AnyHeard) → IsCleanResult plan w s x → DfuseSeenMeaning plan w s x h → LeadsToLastingPhase plan w p s h n u) →
      CleanRunLasts plan (phase_with_step w p s) (suc n) u
  request_lasts_one_more s n u waits on = lasts_by_equal_counts plan (phase_with_step w p s) (suc n) (suc n) (0 + u) u refl (omega arith)
      (step_lasts_one_more s n u 0 waits on)

  -- A step with an acknowledged request takes one result more than the phase after it.
  pub acked_request_lasts_one_more : (s : Step) (next : Phase) (n u : ℕ) → ((x : Seen) → IsCleanResult plan w s x → x ≡ seen.Ack) →
      ((h : AnyHeard) → DfuseSeenMeaning plan w s seen.Ack h → (actions restarts : ℕ) →
      session_after_step_heard (session_in_phase plan (phase_with_step w p s) actions restarts) w p s h ≡
      session_after_action (session_in_phase plan (phase_with_step w p s) actions restarts) next restarts) →
      CleanRunLasts plan next n u → CleanRunLasts plan (phase_with_step w p s) (suc n) u
  acked_request_lasts_one_more s next n u is comes l = request_lasts_one_more s n u (λ x c. ap wait_count_of (is x c))
      (λ x h c hears. record {
        next = next;
        next_phase_lasts = l;
        comes = comes h (subst (λ (y : Seen). DfuseSeenMeaning plan w s y h) (is x c) hears);
      })
