-- Rows that put an image in place: those that lead out of manifestation without a fault.
use Rattle.std.specs.Prelude.{◌≡◌, ℕ, ◌+◌, ◌==◌, nat_le, true, List, [], length}
use Rattle.std.proofs.Common.{inl, inr, refl, ap, ◌∙◌, subst}
use Rattle.std.proofs.lemmas.Bool.{false≢true}
use Rattle.dfu_wire.specs.declared.setups.Setup.{Setup}
use Rattle.dfu_wire.specs.declared.requests.Request.{Request as Asked}
use Rattle.dfu_slots.specs.StoreView.{image_of}
use Rattle.dfu_device.specs.Pace.{image_ms}
use Rattle.dfu_device.specs.declared.answer.Answer.{Answer}
use Rattle.dfu_device.specs.declared.objection.Objection.{Objection}
use Rattle.dfu_device.specs.declared.answer.Answer.TheVariants as answer
use Rattle.dfu_device.specs.Stage.{Request, GetStatus, GetState, Ack, Profile, Stage, InAppDetach, InManifestSync, InManifestSyncComplete, InManifest, InManifestWaitReset, state_of}
use Rattle.dfu_device.specs.Table.{Plan, Sure, Writes, Commits, plan, time_plan, reset_stage, refuse_stage}
use Rattle.dfu_device.specs.DeviceView.{DeviceView, profile, situation}
use Rattle.dfu_device.specs.Rows.{request_for_table, asked_length, Done, is_served, setup_plan, handled_by_reading, Cause, Transfer, Passing, BusReset, RefusingClose, Refusing, PowerOn, Row}
use Rattle.dfu_device.specs.AcceptedBytes.{accepted_in, accepted_of}
use Rattle.dfu_device.specs.Cases.{holds_in_both_branches}
use Rattle.dfu_laws.specs.board.ImageSurvival.{is_manifesting, has_manifested}
use Rattle.dfu_laws.specs.board.Accepts.{IsPending}

-- The state of the stage is dfuMANIFEST-SYNC or dfuMANIFEST.
abbrev pub IsManifestingStage : Stage → Type 0
IsManifestingStage st = is_manifesting (state_of st) ≡ true

-- The state of the stage is dfuIDLE or dfuMANIFEST-WAIT-RESET.
abbrev pub IsManifestationOver : Stage → Type 0
IsManifestationOver st = has_manifested (state_of st) ≡ true

-- No stage is both in manifestation and after it.
pub manifesting_stage_is_not_over : (st : Stage) → IsManifestingStage st → IsManifestationOver st → ⊥
manifesting_stage_is_not_over (InManifestSync taken) on over = false≢true over
manifesting_stage_is_not_over InManifestSyncComplete on over = false≢true over
manifesting_stage_is_not_over (InManifest taken passed) on over = false≢true over
manifesting_stage_is_not_over st on over = false≢true on

-- No image is pending after manifestation.
pub nothing_waits_when_over : (st : Stage) (t : List ℕ) → IsManifestationOver st → IsPending st t → ⊥
nothing_waits_when_over (InManifestSync taken) t over m = false≢true over
nothing_waits_when_over (InManifest taken passed) t over m = false≢true over
nothing_waits_when_over st t over m = m

-- If a plan leads to a stage after manifestation, the image is the bytes of the download.
abbrev PlanInstallsTakenBytes : List ℕ → Stage → Plan → Type 0
PlanInstallsTakenBytes image st (Sure reply next) = IsManifestationOver next → image ≡ accepted_in image st
PlanInstallsTakenBytes image st (Writes before block reply next bad) = IsManifestationOver next → ⊥
PlanInstallsTakenBytes image st (Commits taken reply next bad) = taken ≡ accepted_in image st

request_plan_installs : (c : Profile) (image : List ℕ) (st : Stage) (r : Request) → IsManifestingStage st →
    PlanInstallsTakenBytes image st (plan c image st r)
request_plan_installs c image (InManifestSync taken) GetStatus on =
    holds_in_both_branches (PlanInstallsTakenBytes image (InManifestSync taken)) (c.manifest == 0) _ _ refl
    (λ over. absurd (false≢true over))
request_plan_installs c image (InManifestSync taken) GetState on = λ over. absurd (false≢true over)
request_plan_installs c image (InManifestSync taken) r on = λ over. absurd (false≢true over)
request_plan_installs c image InManifestSyncComplete GetStatus on = λ over. refl
request_plan_installs c image InManifestSyncComplete GetState on = λ over. absurd (false≢true over)
request_plan_installs c image InManifestSyncComplete r on = λ over. absurd (false≢true over)
request_plan_installs c image (InManifest taken passed) r on = λ over. absurd (false≢true over)
request_plan_installs c image st r on = absurd (false≢true on)

time_plan_installs : (c : Profile) (image : List ℕ) (st : Stage) (ms : ℕ) → IsManifestingStage st →
    PlanInstallsTakenBytes image st (time_plan c st ms)
time_plan_installs c image (InManifest taken passed) ms on =
    let P : Plan → Type 0 = PlanInstallsTakenBytes image (InManifest taken passed) in
    holds_in_both_branches P (ms == 0) _ _ (λ over. absurd (false≢true over))
    (holds_in_both_branches P (nat_le (image_ms c.pace c.manifest (length taken)) (passed + ms)) _ _
    (holds_in_both_branches
    (λ (next : Stage). P (Commits taken Ack next (λ fault. Ack))) c.tolerant InManifestSyncComplete InManifestWaitReset
    refl refl) (λ over. absurd (false≢true over)))
time_plan_installs c image (InManifestSync taken) ms on = λ over. absurd (false≢true over)
time_plan_installs c image InManifestSyncComplete ms on = λ over. absurd (false≢true over)
time_plan_installs c image st ms on = absurd (false≢true on)

done_plan_installs : (p : Plan) (len : ℕ) (w : DeviceView) (a : Answer) (out : List ℕ) (w' : DeviceView) →
    PlanInstallsTakenBytes (image_of w.slots) w.stage p
    → Done p len w a out w' → IsManifestationOver w'.stage → image_of w'.slots ≡ accepted_of (situation w)
done_plan_installs (Sure reply stage) len w a out w' installs (says, is) over =
    ap (λ (x : DeviceView). image_of x.slots) is ∙ installs (subst (λ (x : DeviceView). IsManifestationOver x.stage) is over)
done_plan_installs (Writes before block reply stage bad) len w a out w' installs (inl (says, h)) over =
    absurd (installs (subst IsManifestationOver h.stage_is over))
done_plan_installs (Writes before block reply stage bad) len w a out w' installs (inr (fault, says, h)) over =
    absurd (false≢true (subst IsManifestationOver h.stage_is over))
done_plan_installs (Commits taken reply stage bad) len w a out w' installs (inl (says, h)) over = h.image ∙ installs
done_plan_installs (Commits taken reply stage bad) len w a out w' installs (inr (fault, says, h)) over =
    absurd (false≢true (subst IsManifestationOver h.stage_is over))

setup_plan_installs : (w : DeviceView) (p : Setup) (q : Asked) (body : List ℕ) → IsManifestingStage w.stage
    → PlanInstallsTakenBytes (image_of w.slots) w.stage (setup_plan w p q body)
setup_plan_installs w p q body on = holds_in_both_branches (PlanInstallsTakenBytes (image_of w.slots) w.stage) (is_served p q body) _ _
    (request_plan_installs (profile w) (image_of w.slots) w.stage (request_for_table q body) on) (λ over. absurd
    (manifesting_stage_is_not_over w.stage on over))

reset_never_ends_manifestation : (st : Stage) → IsManifestingStage st → IsManifestationOver (reset_stage st) → ⊥
reset_never_ends_manifestation (InAppDetach timer passed) on over = false≢true on
reset_never_ends_manifestation st on over = false≢true over

refusal_never_ends_manifestation : (why : Objection) (st : Stage) → IsManifestingStage st → IsManifestationOver (refuse_stage why st) → ⊥
refusal_never_ends_manifestation why (InManifestSync taken) on over = false≢true over
refusal_never_ends_manifestation why InManifestSyncComplete on over = false≢true over
refusal_never_ends_manifestation why (InManifest taken passed) on over = false≢true over
refusal_never_ends_manifestation why st on over = false≢true on

-- If a row leads out of manifestation without a fault, the image after the row is the bytes of the download.
pub row_out_of_manifest_installs : (w : DeviceView) (cause : Cause) (a : Answer) (out : List ℕ) (w' : DeviceView) →
    Row w cause a out w' → IsManifestingStage w.stage
    → IsManifestationOver w'.stage → image_of w'.slots ≡ accepted_of (situation w)
row_out_of_manifest_installs w (Transfer setup body) a out w' (handled_by_reading p q reads asks done) on over =
    done_plan_installs (setup_plan w p q body) (asked_length q) w a out w' (setup_plan_installs w p q body on) done over
row_out_of_manifest_installs w (Passing ms) a out w' (is, none, row) on over =
    done_plan_installs (time_plan (profile w) w.stage ms) 0 w answer.Ack [] w'
    (time_plan_installs (profile w) (image_of w.slots) w.stage ms on) row over
row_out_of_manifest_installs w BusReset a out w' (is, none, same) on over =
    absurd (reset_never_ends_manifestation w.stage on (subst (λ (x : DeviceView). IsManifestationOver x.stage) same over))
row_out_of_manifest_installs w (RefusingClose setup why) a out w' (is, none, closes, same) on over =
    absurd (false≢true (subst (λ (x : DeviceView). IsManifestationOver x.stage) same over))
row_out_of_manifest_installs w (Refusing why) a out w' (is, none, same) on over =
    absurd (refusal_never_ends_manifestation why w.stage on (subst (λ (x : DeviceView). IsManifestationOver x.stage) same over))
row_out_of_manifest_installs w PowerOn a out w' (is, none, same) on over = absurd (false≢true (subst (λ (x : DeviceView).
    IsManifestationOver x.stage) same over))
