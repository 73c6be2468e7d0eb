-- After each event of a sequence, the medium has the trusted images.
use Rattle.std.proofs.Common.{◌≡◌, ◌⊎◌, inl, inr, ⊎_elim, ℕ, ◌+◌, ◌≤◌, ◌==◌, nat_lt, Bool, true, false, List, [], ◌∷◌, Option, Some, None, refl, sym, ◌∙◌, ap, subst, arith, if◌then◌else◌}
use Rattle.std.proofs.lemmas.Bool.{true≢false, ltb-true}
use Rattle.dfu_slots.specs.Units.{Grain}
use Rattle.dfu_slots.specs.Medium.{MediumState}
use Rattle.dfu_slots.specs.Image.{HasImage}
use Rattle.dfu_boot.specs.trial.Marks.{is_mark_set, AreTries}
use Rattle.dfu_boot.specs.trial.Trial.{image_at}
use Rattle.dfu_boot.specs.trial.Calls.{IsStanding, image_place, mark_op, trial_start, trial_confirmation, end_of_trial, upload_operation, upload_slot}
use Rattle.dfu_boot.specs.trial.Laws.{OperationOutcome, AskedResult, TrialContinues, StartIsRecorded, ConfirmedImageIsBack, StartOutcome as StartsBy}
use Rattle.dfu_boot.specs.trial.Lists.{TrialEvent, Starts, Confirms, Ends, Uploads, Downloads, TrialStep, IsSlotRunBy, ConfirmationOutcome, UploadResult, IsDownload, DownloadPlacesImageOrNot, TrialStepResult, IsTrialTrace, TrustedImages, Alone, Tried, AreTrusted, TrialContinuesOrIsOver, ImageOfUpload, TrustedImagesAfterEvent, AllTrusted}
use Rattle.dfu_boot.specs.declared.trial.standing.Settled.{Settled}
use Rattle.dfu_boot.specs.declared.trial.standing.Trial.{Trial}
use Rattle.dfu_boot.specs.declared.trial.standing.Standing.{Standing}
use Rattle.dfu_boot.specs.declared.trial.standing.Standing.TheVariants as standing
use Rattle.dfu_boot.specs.declared.trial.operation.Operation.{Operation}
use Rattle.dfu_boot.specs.declared.trial.operation.Operation.TheVariants.{Mark, Close}
use Rattle.dfu_boot.specs.declared.trial.confirming.Confirmation.{Confirmation}
use Rattle.dfu_boot.specs.declared.trial.confirming.Confirmation.TheVariants as confirm
use Rattle.dfu_boot.proofs.Slots.{newest_image_is_active}
use Rattle.dfu_boot.proofs.Outcomes.{confirmed_or_trial_continues, trial_continues_or_ends}
use Rattle.dfu_boot.proofs.Starts.{start_has_result}
use Rattle.dfu_boot.proofs.Unique.{standing_is_unique}
use Rattle.dfu_boot.proofs.Uploading.{upload_operation_by_starts, start_is_left}
use Rattle.dfu_boot.proofs.Downloading.{download_keeps_trust}

-- A medium with trusted images has an active image.
pub trusted_medium_has_image : (m : MediumState) (tries : ℕ) (trust : TrustedImages) → AreTrusted m tries trust → HasImage m
trusted_medium_has_image m tries (Alone base) are = are.1.has
trusted_medium_has_image m tries (Tried base image runs) are =
    let t = are.0 in
    let trial = are.1.0 in
    record { image = image_at m t.slot; active = newest_image_is_active m t.slot t.base trial.sized trial.places trial.newest trial.mine }

-- If the active image is confirmed, it is the only trusted image.
pub confirmed_image_is_trusted : (m : MediumState) (tries : ℕ) (s : Settled) → IsStanding m tries (standing.Settled s) → s.is_confirmed
    ≡ true
    → AreTrusted m tries (Alone (image_at m s.slot))
confirmed_image_is_trusted m tries s stands confirmed = (s, stands, confirmed, refl)

-- An upload returns a trusted image.
uploaded_image_is_trusted : (now : MediumState) (tries : ℕ) (next : TrustedImages) (given : Option (List ℕ)) → AreTrusted now tries next
    → UploadResult now tries given → ImageOfUpload tries given next
uploaded_image_is_trusted now tries next None has by = tt
uploaded_image_is_trusted now tries (Alone base) (Some image) has by =
    sym by.image_is ∙ ap (λ (x : Standing). image_at now (upload_slot x))
    (standing_is_unique now tries by.standing (standing.Settled has.0) by.stands has.1) ∙ has.3
uploaded_image_is_trusted now tries (Tried base new runs) (Some image) has by =
    let same = standing_is_unique now tries by.standing (standing.OnTrial has.0) by.stands has.1 in
    let left = start_is_left tries has.0 (subst (λ (x : Standing). upload_operation tries x ≡ None) same by.asks) in (
      sym by.image_is ∙ ap (λ (x : Standing). image_at now (upload_slot x)) same ∙ has.3,
      omega (arith, has.4, ltb-true has.0.starts tries left),
    )

-- After an event the medium has trusted images, which changed as `TrustedImagesAfterEvent` allows.
abbrev EventKeepsTrust : MediumState → ℕ → TrustedImages → TrialEvent → MediumState → Type 0
EventKeepsTrust m tries trust event now =
    (next : TrustedImages) × TrustedImagesAfterEvent tries trust event now next × AreTrusted now tries next

module _ (m now : MediumState) (tries : ℕ) (are : AreTries m.grain tries) where
  -- Events while only the confirmed image is trusted.
  module _ (base : List ℕ) (has : AreTrusted m tries (Alone base)) where
    abbrev s : Settled
    s = has.0

    confirmed_stays_trusted : now ≡ m → AreTrusted now tries (Alone base)
    confirmed_stays_trusted same = subst (λ (x : MediumState). AreTrusted x tries (Alone base)) (sym same) has

    start_keeps_confirmed_image : (ran : Option ℕ) → AskedResult m (trial_start m.grain tries (standing.Settled s)).operation now
        → IsSlotRunBy (trial_start m.grain tries (standing.Settled s)) now ran → EventKeepsTrust m tries (Alone base) (Starts ran) now
    start_keeps_confirmed_image None carried by = (Alone base, refl, confirmed_stays_trusted carried)
    start_keeps_confirmed_image (Some slot) carried by = (
      Alone base,
      (ap (λ (p : ℕ). image_at now p) by ∙ ap (λ (x : MediumState). image_at x s.slot) carried ∙ has.3, refl),
      confirmed_stays_trusted carried,
    )

    -- A confirmation changes nothing, because the active image is confirmed already.
    confirm_keeps_confirmed_image : (at : ℕ) → ConfirmationOutcome m (trial_confirmation m.grain (standing.Settled s) at) now
        → EventKeepsTrust m tries (Alone base) (Confirms at) now
    confirm_keeps_confirmed_image at by = (
      Alone base,
      refl,
      confirmed_stays_trusted (same (at == image_place m.grain s.slot) s.is_confirmed
          has.2 by),
    )
      where
        same : (here b : Bool) → b ≡ true
            → ConfirmationOutcome m (if here then (if b then confirm.Confirmed else confirm.By (mark_op m.grain s.slot 0)) else
            confirm.Elsewhere) now
            → now ≡ m
        same true true is e = e
        same false b is e = e
        same true false is e = absurd (true≢false (sym is))

    end_keeps_confirmed_image : AskedResult m (end_of_trial (standing.Settled s)) now → EventKeepsTrust m tries (Alone base) Ends now
    end_keeps_confirmed_image carried = (Alone base, refl, confirmed_stays_trusted carried)

    upload_keeps_confirmed_image : (given : Option (List ℕ)) → AskedResult m (upload_operation tries (standing.Settled s)) now →
        UploadResult now tries given
        → EventKeepsTrust m tries (Alone base) (Uploads given) now
    upload_keeps_confirmed_image given carried by = (
      Alone base,
      (refl, uploaded_image_is_trusted now tries (Alone base) given (confirmed_stays_trusted carried) by),
      confirmed_stays_trusted carried,
    )

    download_adds_at_most_a_trial : (image : List ℕ) → IsDownload m tries image now →
        EventKeepsTrust m tries (Alone base) (Downloads image) now
    download_adds_at_most_a_trial image d =
        let slots : d.settled.slot ≡ s.slot = d.stands.slot ∙ sym has.1.slot in
        let confirmed : d.settled.is_confirmed ≡ true =
        d.stands.confirmed ∙ ap (λ (p : ℕ). is_mark_set m p 0) slots ∙ sym has.1.confirmed ∙ has.2 in
        let at_base : image_at m d.settled.slot ≡ base = ap (λ (p : ℕ). image_at m p) slots ∙ has.3 in
        let kept = subst (λ (x : Grain). DownloadPlacesImageOrNot (record now { grain = x }) tries d.settled.slot d.spare image) d.grain
        d.put in
        let came = download_keeps_trust m now tries are d.settled d.spare d.stands confirmed d.places d.keeps image kept in
        let back = subst (λ (b : List ℕ). AreTrusted (record now { grain = m.grain }) tries (Alone b)
        ⊎ AreTrusted (record now { grain = m.grain }) tries (Tried b image 0)) at_base came in
        subst (λ (x : Grain). EventKeepsTrust m tries (Alone base) (Downloads image) (record now { grain = x })) (sym d.grain)
        (⊎_elim (λ old. (Alone base, inl refl, old)) (λ new. (Tried base image 0, inr refl, new)) back)

  -- Events while an image is on trial beside the confirmed one.
  module _ (base image : List ℕ) (runs : ℕ) (has : AreTrusted m tries (Tried base image runs)) where
    abbrev t : Trial
    t = has.0

    trial_stays_trusted : TrialContinues m tries t now → AreTrusted now tries (Tried base image runs)
    trial_stays_trusted g = (t, g.stands, g.images.base ∙ has.2, g.images.new ∙ has.3, has.4, has.5)

    restored_base_is_trusted : ConfirmedImageIsBack m t now → AreTrusted now tries (Alone base)
    restored_base_is_trusted b = (record { slot = t.base; is_confirmed = true }, b.stands, refl, b.image ∙ has.2)

    recorded_start_is_trusted : (more : ℕ) → more ≤ runs + 1 → StartIsRecorded m tries t now → AreTrusted now tries (Tried base image more)
    recorded_start_is_trusted more le h = (
      record t { starts = h.starts },
      h.stands,
      h.images.base ∙ has.2,
      h.images.new ∙ has.3,
      omega (arith, le, has.4, h.more),
      h.most,
    )

    -- If a start runs the slot of the confirmed image, the start runs that image.
    start_of_base_ran_its_image : (ran : ℕ) → image_at now t.base ≡ image_at m t.base → ran ≡ t.base → image_at now ran ≡ base
    start_of_base_ran_its_image ran kept is = ap (λ (p : ℕ). image_at now p) is ∙ kept ∙ has.2

    start_of_new_ran_its_image : (ran : ℕ) → image_at now t.slot ≡ image_at m t.slot → ran ≡ t.slot → image_at now ran ≡ image
    start_of_new_ran_its_image ran kept is = ap (λ (p : ℕ). image_at now p) is ∙ kept ∙ has.3

    -- If a start runs one of the two slots, the trusted images change as `TrustedImagesAfterEvent` allows.
    run_start_keeps_trust : (ran : ℕ) → StartsBy m tries (standing.OnTrial t) now ran →
        EventKeepsTrust m tries (Tried base image runs) (Starts (Some ran)) now
    run_start_keeps_trust ran came = ⊎_elim
        (λ after. ⊎_elim
        (λ on. (
          Tried base image (runs + 1),
          inl (start_of_new_ran_its_image ran on.0.images.new on.1, omega (arith, has.4, on.0.more, on.0.most), refl),
          recorded_start_is_trusted (runs + 1) (omega arith) on.0,
        ))
        (λ same. (
          Tried base image runs,
          inr
              (start_of_base_ran_its_image ran same.0.images.base same.1, inl refl),
          trial_stays_trusted same.0,
        )) after)
        (λ last. ⊎_elim
        (λ same. (Tried base image runs, inr (start_of_base_ran_its_image ran same.images.base last.1, inl refl), trial_stays_trusted same))
        (λ back. (Alone base, inr (start_of_base_ran_its_image ran back.image last.1, inr refl), restored_base_is_trusted back)) last.2)
        came

    -- If the power fails during a start, the trusted images change as `TrustedImagesAfterEvent` allows.
    cut_start_keeps_trust : (ran : ℕ) → StartsBy m tries (standing.OnTrial t) now ran →
        EventKeepsTrust m tries (Tried base image runs) (Starts None) now
    cut_start_keeps_trust ran came = ⊎_elim
        (λ after. ⊎_elim
        (λ on. (Tried base image runs, inl refl, recorded_start_is_trusted runs (omega arith) on.0))
        (λ same. (Tried base image runs, inl refl, trial_stays_trusted same.0)) after)
        (λ last. ⊎_elim
        (λ same. (Tried base image runs, inl refl, trial_stays_trusted same))
        (λ back. (Alone base, inr refl, restored_base_is_trusted back)) last.2)
        came

    trial_start_keeps_trust : (ran : Option ℕ) → AskedResult m (trial_start m.grain tries (standing.OnTrial t)).operation now
        → IsSlotRunBy (trial_start m.grain tries (standing.OnTrial t)) now ran →
        EventKeepsTrust m tries (Tried base image runs) (Starts ran) now
    trial_start_keeps_trust None carried by = cut_start_keeps_trust _ (start_has_result m now tries are (standing.OnTrial t) has.1 carried)
    trial_start_keeps_trust (Some ran) carried by = run_start_keeps_trust ran
        (subst (λ (r : ℕ). StartsBy m tries (standing.OnTrial t) now r) (sym by)
        (start_has_result m now tries are (standing.OnTrial t) has.1 carried))

    -- If the medium is unchanged, the trusted images are unchanged too.
    unchanged_trial_is_trusted : now ≡ m → AreTrusted now tries (Tried base image runs)
    unchanged_trial_is_trusted same = subst (λ (x : MediumState). AreTrusted x tries (Tried base image runs)) (sym same) has

    confirmation_keeps_trust : (at : ℕ) → ConfirmationOutcome m (trial_confirmation m.grain (standing.OnTrial t) at) now
        → EventKeepsTrust m tries (Tried base image runs) (Confirms at) now
    confirmation_keeps_trust at by = so (at == image_place m.grain t.slot) (at == image_place m.grain t.base) by
      where
        so : (mine other : Bool) → ConfirmationOutcome m (if mine then confirm.By (mark_op m.grain t.slot 0)
            else (if other then confirm.Confirmed else confirm.Elsewhere)) now →
            EventKeepsTrust m tries (Tried base image runs) (Confirms at) now
        so true other carried = ⊎_elim
            (λ sure. (
              Alone image,
              inr refl,
              (record { slot = t.slot; is_confirmed = true }, sure.stands, refl, sure.images.new ∙ has.3),
            ))
            (λ on. (Tried base image runs, inl refl, trial_stays_trusted on))
            (confirmed_or_trial_continues m now tries t are has.1 carried)
        so false true same = (Tried base image runs, inl refl, unchanged_trial_is_trusted same)
        so false false same = (Tried base image runs, inl refl, unchanged_trial_is_trusted same)

    end_keeps_trust : AskedResult m (end_of_trial (standing.OnTrial t)) now → EventKeepsTrust m tries (Tried base image runs) Ends now
    end_keeps_trust carried = ⊎_elim
        (λ on. (Tried base image runs, inl refl, trial_stays_trusted on))
        (λ back. (Alone base, inr refl, restored_base_is_trusted back))
        (trial_continues_or_ends m now tries t are has.1 carried)

    -- If no try is left, an upload ends the trial; otherwise it leaves the trial unchanged.
    upload_ends_or_leaves_trial : (b : Bool) → nat_lt t.starts tries ≡ b → AskedResult m (upload_operation tries (standing.OnTrial t)) now
        → (next : TrustedImages) × TrialContinuesOrIsOver base image runs next × AreTrusted now tries next
    upload_ends_or_leaves_trial true is carried = (
      Tried base image runs,
      inl refl,
      unchanged_trial_is_trusted (subst (λ (o : Option Operation). AskedResult m o now) (upload_operation_by_starts tries t true is)
          carried),
    )
    upload_ends_or_leaves_trial false is carried = ⊎_elim
        (λ on. (Tried base image runs, inl refl, trial_stays_trusted on))
        (λ back. (Alone base, inr refl, restored_base_is_trusted back))
        (trial_continues_or_ends m now tries t are has.1 (subst (λ (o : Option Operation). AskedResult m o now) (upload_operation_by_starts
        tries t false is) carried))

    trial_upload_keeps_trust : (given : Option (List ℕ)) → AskedResult m (upload_operation tries (standing.OnTrial t)) now →
        UploadResult now tries given
        → EventKeepsTrust m tries (Tried base image runs) (Uploads given) now
    trial_upload_keeps_trust given carried by =
        let left = upload_ends_or_leaves_trial (nat_lt t.starts tries) refl carried in
        (left.0, (left.1, uploaded_image_is_trusted now tries left.0 given left.2 by), left.2)

    -- No download begins while an image is on trial.
    no_download_on_trial : (new : List ℕ) → IsDownload m tries new now → ⊥
    no_download_on_trial new d = d.stands.none (record { at = t.slot; base = t.base; trial = has.1.0 })

  -- After each event the medium has trusted images, which changed as `TrustedImagesAfterEvent` allows.
  pub event_leaves_trusted_images : (trust : TrustedImages) (event : TrialEvent) → AreTrusted m tries trust →
      TrialStepResult tries m event now
      → EventKeepsTrust m tries trust event now
  event_leaves_trusted_images (Alone base) (Starts ran) has came =
      let same = standing_is_unique m tries came.0 (standing.Settled has.0) came.1 has.1 in
      let both = subst (λ (x : Standing). AskedResult m (trial_start m.grain tries x).operation now ×
      IsSlotRunBy (trial_start m.grain tries x) now ran)
      same (came.2, came.3) in
      start_keeps_confirmed_image base has ran both.0 both.1
  event_leaves_trusted_images (Alone base) (Confirms at) has came =
      confirm_keeps_confirmed_image base has at (subst (λ (x : Standing). ConfirmationOutcome m (trial_confirmation m.grain x at) now)
      (standing_is_unique m tries came.0 (standing.Settled has.0) came.1 has.1) came.2)
  event_leaves_trusted_images (Alone base) Ends has came =
      end_keeps_confirmed_image base has (subst (λ (x : Standing). AskedResult m (end_of_trial x) now)
      (standing_is_unique m tries came.0 (standing.Settled has.0) came.1 has.1) came.2)
  event_leaves_trusted_images (Alone base) (Uploads given) has came =
      upload_keeps_confirmed_image base has given (subst (λ (x : Standing). AskedResult m (upload_operation tries x) now)
      (standing_is_unique m tries came.0 (standing.Settled has.0) came.1 has.1) came.2) came.3
  event_leaves_trusted_images (Alone base) (Downloads image) has came = download_adds_at_most_a_trial base has image came
  event_leaves_trusted_images (Tried base image runs) (Starts ran) has came =
      let same = standing_is_unique m tries came.0 (standing.OnTrial has.0) came.1 has.1 in
      let both = subst (λ (x : Standing). AskedResult m (trial_start m.grain tries x).operation now ×
      IsSlotRunBy (trial_start m.grain tries x) now ran)
      same (came.2, came.3) in
      trial_start_keeps_trust base image runs has ran both.0 both.1
  event_leaves_trusted_images (Tried base image runs) (Confirms at) has came =
      confirmation_keeps_trust base image runs has at (subst (λ (x : Standing). ConfirmationOutcome m (trial_confirmation m.grain x at) now)
      (standing_is_unique m tries came.0 (standing.OnTrial has.0) came.1 has.1) came.2)
  event_leaves_trusted_images (Tried base image runs) Ends has came =
      end_keeps_trust base image runs has (subst (λ (x : Standing). AskedResult m (end_of_trial x) now)
      (standing_is_unique m tries came.0 (standing.OnTrial has.0) came.1 has.1) came.2)
  event_leaves_trusted_images (Tried base image runs) (Uploads given) has came =
      trial_upload_keeps_trust base image runs has given (subst (λ (x : Standing). AskedResult m (upload_operation tries x) now)
      (standing_is_unique m tries came.0 (standing.OnTrial has.0) came.1 has.1) came.2) came.3
  event_leaves_trusted_images (Tried base image runs) (Downloads new) has came = absurd (no_download_on_trial base image runs has new came)

-- An operation does not change the grain of the medium.
operation_keeps_grain : (m now : MediumState) (o : Operation) → OperationOutcome m o now → now.grain ≡ m.grain
operation_keeps_grain m now (Mark at len) carried = carried.1
operation_keeps_grain m now (Close at) carried = carried.1

asked_operation_keeps_grain : (m now : MediumState) (o : Option Operation) → AskedResult m o now → now.grain ≡ m.grain
asked_operation_keeps_grain m now None same = ap (λ (x : MediumState). x.grain) same
asked_operation_keeps_grain m now (Some o) carried = operation_keeps_grain m now o carried

confirmation_keeps_grain : (m now : MediumState) (c : Confirmation) → ConfirmationOutcome m c now → now.grain ≡ m.grain
confirmation_keeps_grain m now (confirm.By o) carried = operation_keeps_grain m now o carried
confirmation_keeps_grain m now confirm.Confirmed same = ap (λ (x : MediumState). x.grain) same
confirmation_keeps_grain m now confirm.Elsewhere same = ap (λ (x : MediumState). x.grain) same

-- An event does not change the grain of the medium.
event_keeps_grain : (tries : ℕ) (m now : MediumState) (event : TrialEvent) → TrialStepResult tries m event now → now.grain ≡ m.grain
event_keeps_grain tries m now (Starts ran) came = asked_operation_keeps_grain m now (trial_start m.grain tries came.0).operation came.2
event_keeps_grain tries m now (Confirms at) came = confirmation_keeps_grain m now (trial_confirmation m.grain came.0 at) came.2
event_keeps_grain tries m now Ends came = asked_operation_keeps_grain m now (end_of_trial came.0) came.2
event_keeps_grain tries m now (Uploads given) came = asked_operation_keeps_grain m now (upload_operation tries came.0) came.2
event_keeps_grain tries m now (Downloads image) came = came.grain

-- After each event of a sequence the medium has trusted images.
pub trace_keeps_trusted_images : (m : MediumState) (tries : ℕ) (trust : TrustedImages) (steps : List TrialStep) → AreTries m.grain tries
    → AreTrusted m tries trust
    → IsTrialTrace tries m steps → AllTrusted tries trust m steps
trace_keeps_trusted_images m tries trust [] are has came = has
trace_keeps_trusted_images m tries trust (s ∷ rest) are has came =
    let on = event_leaves_trusted_images m s.now tries are trust s.event has came.0 in
    let still = subst (λ (g : Grain). AreTries g tries) (sym (event_keeps_grain tries m s.now s.event came.0)) are in
    (has, (on.0, on.1, trace_keeps_trusted_images s.now tries on.0 rest still on.2 came.1))
