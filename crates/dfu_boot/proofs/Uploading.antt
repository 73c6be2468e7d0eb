-- Image that an upload returns: the one that the next start runs.
use Rattle.std.proofs.Common.{◌≡◌, inl, inr, ⊎_elim, ℕ, ◌+◌, nat_lt, Bool, true, false, List, Option, Some, None, refl, sym, ◌∙◌, ap, subst, if◌then◌else◌}
use Rattle.std.proofs.lemmas.Bool.{ltb-true, ltb-false}
use Rattle.dfu_slots.specs.Medium.{MediumState}
use Rattle.dfu_boot.specs.trial.Marks.{AreTries}
use Rattle.dfu_boot.specs.trial.Trial.{image_at}
use Rattle.dfu_boot.specs.trial.Calls.{IsStanding, mark_op, trial_start, runs_in, upload_operation, upload_slot}
use Rattle.dfu_boot.specs.trial.Laws.{AskedResult, RunsAtNextStart, UploadOutcome, RunsOrIsNextToRun}
use Rattle.dfu_boot.specs.declared.trial.operation.Operation.{Operation}
use Rattle.dfu_boot.specs.declared.trial.operation.Operation.TheVariants.{Close}
use Rattle.dfu_boot.specs.declared.trial.starting.Starting.{Starting}
use Rattle.dfu_boot.specs.declared.trial.standing.Trial.{Trial}
use Rattle.dfu_boot.specs.declared.trial.standing.Standing.{Standing}
use Rattle.dfu_boot.specs.declared.trial.standing.Standing.TheVariants as standing
use Rattle.dfu_boot.proofs.Outcomes.{start_is_recorded_or_mark_unset, trial_continues_or_ends}
use Rattle.dfu_boot.proofs.Unique.{standing_is_unique}

-- If a try is left, an upload has no operation; otherwise its operation ends the trial.
pub upload_operation_by_starts : (tries : ℕ) (t : Trial) (b : Bool) → nat_lt t.starts tries ≡ b
    → upload_operation tries (standing.OnTrial t) ≡ (if b then None else Some (Close t.slot))
upload_operation_by_starts tries t b is = ap (λ (x : Bool). if x then None else Some (Close t.slot)) is

no_operation_means_start_left : (o : Operation) (b : Bool) → (if b then None else Some o) ≡ None → b ≡ true
no_operation_means_start_left o true e = refl
no_operation_means_start_left o false e = absurd cc

-- If an upload on trial has no operation, a try is left.
pub start_is_left : (tries : ℕ) (t : Trial) → upload_operation tries (standing.OnTrial t) ≡ None → nat_lt t.starts tries ≡ true
start_is_left tries t e = no_operation_means_start_left (Close t.slot) (nat_lt t.starts tries) e

module _ (m now : MediumState) (tries : ℕ) (are : AreTries m.grain tries) where
  trial_upload_has_result : (t : Trial) → IsStanding m tries (standing.OnTrial t) → (b : Bool) → nat_lt t.starts tries ≡ b
      → AskedResult m (upload_operation tries (standing.OnTrial t)) now → UploadOutcome m tries (standing.OnTrial t) now
  trial_upload_has_result t stands true is carried =
      let asks : upload_operation tries (standing.OnTrial t) ≡ None = upload_operation_by_starts tries t true is in
      let same : now ≡ m = subst (λ (o : Option Operation). AskedResult m o now) asks carried in
      inl (
        ltb-true t.starts tries is,
        subst (λ (x : MediumState). RunsAtNextStart x tries (image_at m t.slot)) (sym same)
            (record { standing = standing.OnTrial t; stands = stands; asks = asks; image_is = refl }),
      )
  trial_upload_has_result t stands false is carried =
      let ends = subst (λ (o : Option Operation). AskedResult m o now) (upload_operation_by_starts tries t false is) carried in
      inr (
        ltb-false t.starts tries is,
        ⊎_elim (λ on. inl on)
            (λ back. inr (record {
              standing = standing.Settled (record { slot = t.base; is_confirmed = true });
              stands = back.stands;
              asks = refl;
              image_is = back.image;
            }))
            (trial_continues_or_ends m now tries t are stands ends),
      )

  -- An upload satisfies `UploadOutcome`, for any outcome of its operation.
  pub upload_has_result : (s : Standing) → IsStanding m tries s → AskedResult m (upload_operation tries s) now → UploadOutcome m tries s now
  upload_has_result (standing.Settled s) stands same =
      subst (λ (x : MediumState). RunsAtNextStart x tries (image_at m s.slot)) (sym same)
      (record { standing = standing.Settled s; stands = stands; asks = refl; image_is = refl })
  upload_has_result (standing.OnTrial t) stands carried = trial_upload_has_result t stands (nat_lt t.starts tries) refl carried

  -- With a try left, a start on trial runs the image on trial, or the mark of the start does not read as set and the image is the next one
  -- to run.
  start_on_trial_runs_image : (t : Trial) → IsStanding m tries (standing.OnTrial t) → nat_lt t.starts tries ≡ true
      → AskedResult m (trial_start m.grain tries (standing.OnTrial t)).operation now
      → let s = trial_start m.grain tries (standing.OnTrial t) in
      RunsOrIsNextToRun (image_at m t.slot) tries s.operation now (runs_in now s s.operation)
  start_on_trial_runs_image t stands is =
      let marks : Starting = record { operation = Some (mark_op m.grain t.slot (t.starts + 1)); slot = t.slot; otherwise = t.base } in
      let abort_moves_host : Starting = record { operation = Some (Close t.slot); slot = t.base; otherwise = t.base } in
      let so : trial_start m.grain tries (standing.OnTrial t) ≡ marks = ap (λ (b : Bool). if b then marks else abort_moves_host) is in
      subst (λ (s : Starting). AskedResult m s.operation now
      → RunsOrIsNextToRun (image_at m t.slot) tries s.operation now (runs_in now s s.operation)) (sym so)
      (λ carried. ⊎_elim
      (λ on. inl (ap (λ (p : ℕ). image_at now p) on.1 ∙ on.0.images.new))
      (λ same. inr (
        same.2,
        record {
          standing = standing.OnTrial t;
          stands = same.0.stands;
          asks = upload_operation_by_starts tries t true is;
          image_is = same.0.images.new;
        },
      ))
      (start_is_recorded_or_mark_unset m now tries t are stands (ltb-true t.starts tries is) carried.1 carried.0))

  start_runs_uploaded_image : (s : Standing) → IsStanding m tries s → upload_operation tries s ≡ None
      → AskedResult m (trial_start m.grain tries s).operation now
      → RunsOrIsNextToRun (image_at m (upload_slot s)) tries (trial_start m.grain tries s).operation now
      (runs_in now (trial_start m.grain tries s) (trial_start m.grain tries s).operation)
  start_runs_uploaded_image (standing.Settled s) stands asks same = inl (ap (λ (x : MediumState). image_at x s.slot) same)
  start_runs_uploaded_image (standing.OnTrial t) stands asks carried = start_on_trial_runs_image t stands (start_is_left tries t asks)
      carried

  -- The next start runs the image that an upload returned, or the mark of the start does not read as set and the image is the next one to
  -- run.
  pub next_start_runs_upload : (image : List ℕ) (s : Standing) → RunsAtNextStart m tries image → IsStanding m tries s
      → AskedResult m (trial_start m.grain tries s).operation now
      → RunsOrIsNextToRun image tries (trial_start m.grain tries s).operation now
      (runs_in now (trial_start m.grain tries s) (trial_start m.grain tries s).operation)
  next_start_runs_upload image s next stands carried =
      let same = standing_is_unique m tries next.standing s next.stands stands in
      let asks = subst (λ (x : Standing). upload_operation tries x ≡ None) same next.asks in
      let is : image_at m (upload_slot s) ≡ image = ap (λ (x : Standing). image_at m (upload_slot x)) (sym same) ∙ next.image_is in
      subst (λ (x : List ℕ). RunsOrIsNextToRun x tries (trial_start m.grain tries s).operation now
      (runs_in now (trial_start m.grain tries s) (trial_start m.grain tries s).operation)) is (start_runs_uploaded_image s stands asks
      carried)
