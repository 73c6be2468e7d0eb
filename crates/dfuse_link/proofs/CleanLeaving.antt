-- Number of results that leaving takes in a clean run, and number of those that end a wait.
use Rattle.std.proofs.Common.{◌≡◌, ℕ, suc, ◌+◌, ◌*◌, Bool, true, false, cond, eqb, Option, Some, None, refl, ap, ◌∙◌, subst, arith}
use Rattle.std.proofs.lemmas.Bool.{eq-eqb}
use Rattle.dfuse_host.specs.declared.plan.Plan.{Plan}
use Rattle.dfuse_host.specs.declared.phase.Phase.TheVariants.{Over}
use Rattle.dfuse_host.specs.declared.work.Work.TheVariants as work
use Rattle.dfuse_host.specs.declared.place.Place.{Place}
use Rattle.dfuse_host.specs.declared.place.Place.TheVariants as place
use Rattle.dfuse_host.specs.declared.step.Step.TheVariants as step
use Rattle.dfuse_host.specs.declared.report.Leaving.{Leaving}
use Rattle.dfuse_host.specs.declared.report.Leaving.TheVariants as leaving
use Rattle.dfuse_host.specs.declared.report.Report.TheVariants.{Verified}
use Rattle.dfuse_host.specs.Settling.{phase_with_step, settled_phase, phase_to_set_start, phase_when_compared, to_leave}
use Rattle.dfuse_link.specs.Counts.{start_pointer_sets}
use Rattle.dfuse_link.proofs.CleanRunCounts.{CleanRunLasts, lasts_by_equal_counts, lasts_from_equal_phase, over_phase_lasts_none}
use Rattle.dfuse_link.proofs.CleanSteps.{end_reading_lasts_one_more, close_lasts_two_more, command_lasts_four_more}
use Rattle.dfuse_link.proofs.CleanWriting.{place_of_pointer, owed_abort_count}

to_leave_is_leaving : (plan : Plan) (p : Place) → plan.leaves ≡ true → to_leave plan p ≡ phase_to_set_start plan p
unfolding to_leave
to_leave_is_leaving plan p e = ap (λ (t : Bool). cond t (phase_to_set_start plan p) (phase_when_compared p)) e

to_leave_is_staying : (plan : Plan) (p : Place) → plan.leaves ≡ false → to_leave plan p ≡ phase_when_compared p
unfolding to_leave
to_leave_is_staying plan p e = ap (λ (t : Bool). cond t (phase_to_set_start plan p) (phase_when_compared p)) e

settled_leave_work : (plan : Plan) (p : Place) → settled_phase plan work.Leave p ≡ to_leave plan p
unfolding settled_phase
settled_leave_work plan p = refl

-- Number of results of leaving, after the reading has ended: four for setting the pointer, if it must be set, and two for leaving.
abbrev pub leave_request_count : Plan → Option ℕ → Bool → ℕ
leave_request_count plan last t = cond t (4 * start_pointer_sets plan last + 2) 0

-- Number of results of leaving that end a wait: one if the pointer must be set, and none otherwise.
abbrev pub leave_wait_count : Plan → Option ℕ → Bool → ℕ
leave_wait_count plan last t = cond t (start_pointer_sets plan last) 0

module _ (plan : Plan) (leaves : plan.leaves ≡ true) where
  left_session_is_over : CleanRunLasts plan (Over (Verified leaving.Left)) 0 0
  left_session_is_over = subst (λ (l : Leaving). CleanRunLasts plan (Over (Verified l)) 0 0) (ap (λ (t : Bool). cond t leaving.Left
      leaving.Stayed) leaves)
      (over_phase_lasts_none plan)

  leaving_phase_by_start_test : (p : ℕ) (t : Bool) → eqb p plan.start ≡ t →
      phase_to_set_start plan (place.At p) ≡ cond t (phase_with_step work.Leave (place.At p) step.Close)
      (phase_with_step work.Leave (place.At p) step.Send)
  leaving_phase_by_start_test p t e =
      ap (λ (u : Bool). cond u (phase_with_step work.Leave (place.At p) step.Close) (phase_with_step work.Leave (place.At p) step.Send)) e

  leave_at_start_lasts : (p : ℕ) → eqb p plan.start ≡ true → CleanRunLasts plan (to_leave plan (place.At p)) 2 0
  leave_at_start_lasts p e =
      lasts_from_equal_phase plan _ _ 2 0 (to_leave_is_leaving plan (place.At p) leaves ∙ leaving_phase_by_start_test p true e)
      (lasts_by_equal_counts plan _ (suc (suc 0)) 2 0 0 (omega arith) refl (close_lasts_two_more plan work.Leave (place.At p) 0 0
      left_session_is_over))

  -- Setting the pointer to the start of the application and leaving take six results, one of which ends a wait.
  pointer_to_start_lasts : (p : Place) → CleanRunLasts plan (phase_with_step work.Leave p step.Send) (4 + 2) (1 + 0)
  pointer_to_start_lasts p =
      command_lasts_four_more plan work.Leave p 2 0
      (lasts_from_equal_phase plan _ _ 2 0 (settled_leave_work plan (place.At plan.start)) (leave_at_start_lasts plan.start (eq-eqb
      plan.start plan.start refl)))

  leave_from_place_lasts : (x : ℕ) (t : Bool) → eqb x plan.start ≡ t →
      CleanRunLasts plan (to_leave plan (place.At x)) (4 * cond t 0 1 + 2) (cond t 0 1)
  leave_from_place_lasts x true e = lasts_by_equal_counts plan _ 2 _ 0 _ (omega arith) (omega arith) (leave_at_start_lasts x e)
  leave_from_place_lasts x false e =
      lasts_from_equal_phase plan _ _ _ _ (to_leave_is_leaving plan (place.At x) leaves ∙ leaving_phase_by_start_test x false e)
      (lasts_by_equal_counts plan _ (4 + 2) _ (1 + 0) _ (omega arith) (omega arith) (pointer_to_start_lasts (place.At x)))

  leaving_to_start_lasts : (last : Option ℕ) →
      CleanRunLasts plan (to_leave plan (place_of_pointer last)) (owed_abort_count last + (4 * start_pointer_sets plan last + 2))
      (start_pointer_sets plan last)
  leaving_to_start_lasts None =
      lasts_from_equal_phase plan _ _ _ _ (to_leave_is_leaving plan place.Lost leaves)
      (lasts_by_equal_counts plan _ (4 + 2) _ (1 + 0) _ (omega arith) (omega arith) (pointer_to_start_lasts place.Lost))
  leaving_to_start_lasts (Some x) =
      lasts_from_equal_phase plan _ _ _ _ (to_leave_is_leaving plan (place.Reading x) leaves)
      (lasts_by_equal_counts plan _ (suc (4 * cond (eqb x plan.start) 0 1 + 2)) _ (cond (eqb x plan.start) 0 1) _ (omega arith) refl
      (end_reading_lasts_one_more plan work.Leave (place.Reading x) _ _
      (lasts_from_equal_phase plan _ _ _ _ (settled_leave_work plan (place.At x)) (leave_from_place_lasts x (eqb x plan.start) refl))))

module _ (plan : Plan) (stays : plan.leaves ≡ false) where
  stayed_session_is_over : CleanRunLasts plan (Over (Verified leaving.Stayed)) 0 0
  stayed_session_is_over = subst (λ (l : Leaving). CleanRunLasts plan (Over (Verified l)) 0 0)
      (ap (λ (t : Bool). cond t leaving.Left leaving.Stayed) stays) (over_phase_lasts_none plan)

  staying_lasts : (last : Option ℕ) → CleanRunLasts plan (to_leave plan (place_of_pointer last)) (owed_abort_count last + 0) 0
  staying_lasts None =
      lasts_from_equal_phase plan _ _ _ _ (to_leave_is_staying plan place.Lost stays) (lasts_by_equal_counts plan _ 0 _ 0 _ (omega arith)
      refl stayed_session_is_over)
  staying_lasts (Some x) =
      let there : settled_phase plan work.Leave (place.At x) ≡ Over (Verified leaving.Stayed) =
      settled_leave_work plan (place.At x) ∙ to_leave_is_staying plan (place.At x) stays in
      lasts_from_equal_phase plan _ _ _ _ (to_leave_is_staying plan (place.Reading x) stays)
      (lasts_by_equal_counts plan _ (suc 0) _ 0 _ (omega arith) refl
      (end_reading_lasts_one_more plan work.Leave (place.Reading x) 0 0 (lasts_from_equal_phase plan _ _ 0 0 there stayed_session_is_over)))

pub leave_or_stay_lasts : (plan : Plan) (last : Option ℕ) (t : Bool) → plan.leaves ≡ t →
    CleanRunLasts plan (to_leave plan (place_of_pointer last)) (owed_abort_count last + leave_request_count plan last t) (leave_wait_count
    plan last t)
leave_or_stay_lasts plan last true e = leaving_to_start_lasts plan e last
leave_or_stay_lasts plan last false e = staying_lasts plan e last
