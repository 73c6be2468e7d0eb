-- A start satisfies `StartOutcome`, and leaves an active image.
use Rattle.std.proofs.Common.{◌≡◌, inl, inr, ⊎_elim, ℕ, ◌+◌, Bool, true, false, nat_lt, Some, refl, sym, ap, subst, arith, if◌then◌else◌}
use Rattle.std.proofs.lemmas.Bool.{ltb-true, ltb-false}
use Rattle.dfu_slots.specs.Medium.{MediumState}
use Rattle.dfu_slots.specs.Image.{HasImage}
use Rattle.dfu_boot.specs.trial.Marks.{AreTries}
use Rattle.dfu_boot.specs.trial.Trial.{image_at}
use Rattle.dfu_boot.specs.trial.Calls.{IsStanding, MarkIsWithin, mark_op, trial_start, runs_in}
use Rattle.dfu_boot.specs.trial.Laws.{OperationOutcome, AskedResult, StartOutcome}
use Rattle.dfu_boot.specs.declared.trial.operation.Operation.{Operation}
use Rattle.dfu_boot.specs.declared.trial.operation.Operation.TheVariants.{Mark, Close}
use Rattle.dfu_boot.specs.declared.trial.starting.Starting.{Starting}
use Rattle.dfu_boot.specs.declared.trial.standing.Trial.{Trial}
use Rattle.dfu_boot.specs.declared.trial.standing.Standing.{Standing}
use Rattle.dfu_boot.specs.declared.trial.standing.Standing.TheVariants as standing
use Rattle.dfu_boot.specs.declared.trial.standing.Standing.TheVariants.{OnTrial}
use Rattle.dfu_boot.proofs.Slots.{newest_image_is_active}
use Rattle.dfu_boot.proofs.Outcomes.{start_mark_has_its_outcome, trial_continues_or_ends}

module _ (m now : MediumState) (tries : ℕ) (are : AreTries m.grain tries) where
  trial_start_has_result : (t : Trial) → IsStanding m tries (OnTrial t) → (b : Bool) → nat_lt t.starts tries ≡ b
      → let s = trial_start m.grain tries (OnTrial t) in AskedResult m s.operation now
      → StartOutcome m tries (OnTrial t) now (runs_in now s s.operation)
  trial_start_has_result t stands true is =
      let marks : Starting = record { operation = Some (mark_op m.grain t.slot (t.starts + 1)); slot = t.slot; otherwise = t.base } in
      let abort_moves_host : Starting = record { operation = Some (Close t.slot); slot = t.base; otherwise = t.base } in
      let so : trial_start m.grain tries (OnTrial t) ≡ marks = ap (λ (b : Bool). if b then marks else abort_moves_host) is in
      subst (λ (s : Starting). AskedResult m s.operation now → StartOutcome m tries (OnTrial t) now (runs_in now s s.operation)) (sym so)
      (λ carried. inl (start_mark_has_its_outcome m now tries t are stands (ltb-true t.starts tries is) carried.1 carried.0))
  trial_start_has_result t stands false is =
      let marks : Starting = record { operation = Some (mark_op m.grain t.slot (t.starts + 1)); slot = t.slot; otherwise = t.base } in
      let abort_moves_host : Starting = record { operation = Some (Close t.slot); slot = t.base; otherwise = t.base } in
      let so : trial_start m.grain tries (OnTrial t) ≡ abort_moves_host = ap (λ (b : Bool). if b then marks else abort_moves_host) is in
      subst (λ (s : Starting). AskedResult m s.operation now → StartOutcome m tries (OnTrial t) now (runs_in now s s.operation)) (sym so)
      (λ carried. inr (ltb-false t.starts tries is, refl, trial_continues_or_ends m now tries t are stands carried))

  -- A start satisfies `StartOutcome`, for any outcome of its operation.
  pub start_has_result : (s : Standing) → IsStanding m tries s → AskedResult m (trial_start m.grain tries s).operation now
      → StartOutcome m tries s now (runs_in now (trial_start m.grain tries s) (trial_start m.grain tries s).operation)
  start_has_result (standing.Settled s) stands carried = (carried, refl)
  start_has_result (standing.OnTrial t) stands carried = trial_start_has_result t stands (nat_lt t.starts tries) refl carried

  -- A medium with an image on trial has an active image.
  trial_medium_has_image : (w : MediumState) (t : Trial) → IsStanding w tries (OnTrial t) → HasImage w
  trial_medium_has_image w t stands =
      let trial = stands.0 in
      record { image = image_at w t.slot; active = newest_image_is_active w t.slot t.base trial.sized trial.places trial.newest trial.mine }

  -- After a start some image is active.
  pub image_active_after_start : (s : Standing) (ran : ℕ) → IsStanding m tries s → StartOutcome m tries s now ran → HasImage now
  image_active_after_start (standing.Settled s) ran stands came = subst HasImage (sym came.0) stands.has
  image_active_after_start (standing.OnTrial t) ran stands came = ⊎_elim
      (λ after. ⊎_elim (λ on. trial_medium_has_image now _ on.0.stands) (λ same. trial_medium_has_image now t same.0.stands) after)
      (λ last. ⊎_elim (λ same. trial_medium_has_image now t same.stands) (λ back. back.stands.has) last.2)
      came

-- A mark that lies within the medium before an operation lies within it after the operation.
pub mark_stays_within_medium : (m now : MediumState) (o : Operation) → OperationOutcome m o now → MarkIsWithin m o → MarkIsWithin now o
mark_stays_within_medium m now (Mark at len) carried within = (omega (arith, carried.0.size, within.0), within.1)
mark_stays_within_medium m now (Close at) carried within = within
