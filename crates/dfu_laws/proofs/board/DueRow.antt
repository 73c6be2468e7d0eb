-- Bytes of the download and active image after the pending row.
use Rattle.std.specs.Prelude.{◌≡◌, ◌⊎◌, ℕ, Bool, true, false, if◌then◌else◌, List, ◌++◌}
use Rattle.std.proofs.lemmas.Bool.{false≢true}
use Rattle.std.proofs.Common.{inl, inr, refl, sym, ap, ◌∙◌, subst}
use Rattle.dfu_slots.specs.declared.fault.WriteFault.{WriteFault}
use Rattle.dfu_slots.specs.StoreView.{image_of}
use Rattle.dfu_device.specs.declared.answer.Answer.{Answer}
use Rattle.dfu_device.specs.Stage.{Stage, InDownloadSync, InDownloadSyncWritten, InDownloadBusy, InDownloadIdle, InManifestSync, InManifestSyncComplete, InManifest, InManifestWaitReset, InDfuIdle, InError, state_of}
use Rattle.dfu_device.specs.Table.{write_code, commit_code}
use Rattle.dfu_device.specs.DeviceView.{DeviceView, profile, situation}
use Rattle.dfu_device.specs.Rows.{Committed}
use Rattle.dfu_device.specs.AcceptedBytes.{accepted_in, accepted_of, accepted_in_state}
use Rattle.dfu_asks.specs.Due.{due_plan, PlanWorks, PlanFails, DueRowWorks, DueRowFails}
use Rattle.dfu_laws.specs.board.Accepts.{IsPending}
use Rattle.dfu_laws.proofs.board.Installs.{IsManifestationOver}

-- Outcome of the pending row for the bytes of the download and for the image.
pub record DueRowOutcome (d d' : DeviceView) : Type 0 where
  -- The bytes of the download stay the same, or there are none if no download is under way.
  pub taken : accepted_of (situation d') ≡ accepted_in_state (state_of d'.stage) (accepted_of (situation d))
  -- No image is pending.
  pub waits : (t : List ℕ) → IsPending d'.stage t → ⊥
  -- The image is unchanged, or is the image that was pending.
  pub image : (image_of d'.slots ≡ image_of d.slots) ⊎ IsPending d.stage (image_of d'.slots)
  -- If manifestation is over, the image is the bytes of the download.
  pub puts : IsManifestationOver d'.stage → image_of d'.slots ≡ accepted_of (situation d)

-- If a device enters this stage, the bytes of its download stay the same or are dropped with the download, and no image is pending.
abbrev StageHasDueOutcome : DeviceView → DeviceView → Stage → Type 0
StageHasDueOutcome d d' st =
    (accepted_in (image_of d'.slots) st ≡ accepted_in_state (state_of st) (accepted_of (situation d))) × ((t : List ℕ)
    → IsPending st t → ⊥)

stage_entered_has_outcome : (d d' : DeviceView) (st : Stage) → d'.stage ≡ st → StageHasDueOutcome d d' st
    → (image_of d'.slots ≡ image_of d.slots) ⊎ IsPending d.stage (image_of d'.slots)
    → (IsManifestationOver st → image_of d'.slots ≡ accepted_of (situation d)) → DueRowOutcome d d'
stage_entered_has_outcome d d' st is ends image puts = record {
  taken =
      subst (λ (x : Stage). accepted_in (image_of d'.slots) x ≡ accepted_in_state (state_of x) (accepted_of (situation d))) (sym is) ends.0;
  waits = λ t m. ends.1 t (subst (λ (x : Stage). IsPending x t) is m);
  image = image;
  puts = λ over. puts (subst IsManifestationOver is over);
}

module _ (d d' : DeviceView) (len : ℕ) (a : Answer) (out : List ℕ) where
  works_at : (st : Stage) → d.stage ≡ st → PlanWorks (due_plan (profile d) st) len d a out d' → DueRowOutcome d d'
  works_at (InDownloadSync before block number) is (says, h) =
      stage_entered_has_outcome d d' (InDownloadIdle (before ++ block) number) h.stage_is
      (ap (λ (x : Stage). accepted_in (image_of d.slots) x) (sym is), λ t m. m) (inl h.image)
      (λ over. absurd (false≢true over))
  works_at (InDownloadBusy before block number passed) is (says, h) =
      stage_entered_has_outcome d d' (InDownloadSyncWritten (before ++ block) number) h.stage_is
      (ap (λ (x : Stage). accepted_in (image_of d.slots) x) (sym is), λ t m. m) (inl h.image)
      (λ over. absurd (false≢true over))
  works_at (InManifestSync taken) is (says, h) =
      stage_entered_has_outcome d d' InDfuIdle h.stage_is (refl, λ t m. m)
      (inr (subst (λ (x : Stage). IsPending x (image_of d'.slots)) (sym is) (sym h.image)))
      (λ over. h.image ∙ ap (λ (x : Stage). accepted_in (image_of d.slots) x) (sym is))
  works_at (InManifest taken passed) is (says, h) = by_test (profile d).tolerant h
    where
      by_test : (b : Bool) → Committed taken d.config d.slots (if b then InManifestSyncComplete else InManifestWaitReset) d' →
          DueRowOutcome d d'
      by_test true h =
          stage_entered_has_outcome d d' InManifestSyncComplete h.stage_is
          (h.image ∙ ap (λ (x : Stage). accepted_in (image_of d.slots) x) (sym is), λ t m. m)
          (inr (subst (λ (x : Stage). IsPending x (image_of d'.slots)) (sym is) (sym h.image)))
          (λ over. h.image ∙ ap (λ (x : Stage). accepted_in (image_of d.slots) x) (sym is))
      by_test false h =
          stage_entered_has_outcome d d' InManifestWaitReset h.stage_is (refl, λ t m. m)
          (inr (subst (λ (x : Stage). IsPending x (image_of d'.slots)) (sym is) (sym h.image)))
          (λ over. h.image ∙ ap (λ (x : Stage). accepted_in (image_of d.slots) x) (sym is))
  works_at st is none = absurd none

  -- A pending row that succeeds satisfies `DueRowOutcome`.
  pub working_due_row_outcome : DueRowWorks len d a out d' → DueRowOutcome d d'
  working_due_row_outcome row = works_at d.stage refl row

  failing_plan_outcome : (fault : WriteFault) (st : Stage) → d.stage ≡ st → PlanFails fault (due_plan (profile d) st) len d a out d' →
      DueRowOutcome d d'
  failing_plan_outcome fault (InDownloadSync before block number) is (says, h) =
      stage_entered_has_outcome d d' (InError (write_code fault)) h.stage_is (refl, λ t m. m) (inl h.image)
      (λ over. absurd (false≢true over))
  failing_plan_outcome fault (InDownloadBusy before block number passed) is (says, h) =
      stage_entered_has_outcome d d' (InError (write_code fault)) h.stage_is (refl, λ t m. m) (inl h.image)
      (λ over. absurd (false≢true over))
  failing_plan_outcome fault (InManifestSync taken) is (says, h) =
      stage_entered_has_outcome d d' (InError (commit_code fault)) h.stage_is (refl, λ t m. m) (elim (h.image) [
        | inl old ↦ inl old
        | inr new ↦ inr (subst (λ (x : Stage). IsPending x (image_of d'.slots)) (sym is) (sym new))
      ]) (λ over. absurd (false≢true over))
  failing_plan_outcome fault (InManifest taken passed) is (says, h) =
      stage_entered_has_outcome d d' (InError (commit_code fault)) h.stage_is (refl, λ t m. m) (elim (h.image) [
        | inl old ↦ inl old
        | inr new ↦ inr (subst (λ (x : Stage). IsPending x (image_of d'.slots)) (sym is) (sym new))
      ]) (λ over. absurd (false≢true over))
  failing_plan_outcome fault st is none = absurd none

  -- A pending row that is broken off satisfies `DueRowOutcome`.
  pub failing_due_row_outcome : (fault : WriteFault) → DueRowFails fault len d a out d' → DueRowOutcome d d'
  failing_due_row_outcome fault row = failing_plan_outcome fault d.stage refl row
