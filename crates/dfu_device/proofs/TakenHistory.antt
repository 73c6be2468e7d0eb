-- The bytes that a device has accepted are the bytes accepted by its history.
use Rattle.std.specs.Prelude.{◌≡◌, ℕ, Bool, true, false, if◌then◌else◌, List, [], ◌++◌}
use Rattle.std.proofs.Common.{refl, sym, ap, ◌∙◌, subst}
use Rattle.std.proofs.lemmas.List.{append-nil}
use Rattle.dfu_wire.specs.declared.setups.Setup.{Setup}
use Rattle.dfu_wire.specs.declared.requests.Request.{Request as Asked}
use Rattle.dfu_wire.specs.declared.requests.Request.TheVariants as asked
use Rattle.dfu_wire.specs.Setup.{IsSetup}
use Rattle.dfu_wire.specs.Request.{SetupAsksFor}
use Rattle.dfu_slots.specs.StoreView.{image_of}
use Rattle.dfu_device.specs.declared.answer.Answer.{Answer}
use Rattle.dfu_device.specs.declared.answer.Answer.TheVariants as answer
use Rattle.dfu_device.specs.declared.objection.Objection.{Objection}
use Rattle.dfu_device.specs.Stage.{Request, OtherRequest, Reply, Ack, Stall, Stage, InAppDetach, InDownloadSync, InDownloadSyncWritten, InDownloadBusy, InDownloadIdle, InManifestSync, InManifestSyncComplete, InManifest, state_of}
use Rattle.dfu_device.specs.Table.{Plan, plan, time_plan, reset_stage, refuse_stage}
use Rattle.dfu_device.specs.Outcome.{Outcome}
use Rattle.dfu_device.specs.DeviceView.{DeviceView, profile, situation}
use Rattle.dfu_device.specs.Rows.{request_for_table, asked_length, ReplyAnswer, is_served, Cause, Refusing, Transfer}
use Rattle.dfu_device.specs.PlanOutcomes.{PlanOutcome, setups_have_outcomes, times_have_outcomes}
use Rattle.dfu_device.specs.RowForms.{ReplyMatches, RowForm, row_form, time_plan_has_form}
use Rattle.dfu_device.specs.AcceptedBytes.{accepted_in, accepted_of, is_downloading, accepted_after_reply, accepted_in_state, accepted_after, is_dnload, acknowledged_bytes}
use Rattle.dfu_device.proofs.TakenRow.{row_form_accepts_body}
use Rattle.dfu_device.proofs.FirstBytes.{is_request_with_first_bytes, setup_begins_as_request}
use Rattle.dfu_device.proofs.RowGathers.{GatheringFacts}
use Rattle.dfu_device.specs.AcceptedHistory.{RowAcceptedBody, SetupAcceptsBody, TimeAcceptsNothing}

-- In a row with one of the five forms the device accepts the body that it acknowledges.
row_accepts_acknowledged_body : (p : Plan) (r : Request) (len : ℕ) (w : DeviceView) (a : Answer) (out : List ℕ) (w' : DeviceView)
    → RowForm (profile w) (image_of w.slots) w.stage r p → PlanOutcome p len w a out w' → RowAcceptedBody r len w a out w'
row_accepts_acknowledged_body p r len w a out w' form x = record {
  reply = x.reply;
  answers = x.answers;
  taken = subst (λ (o : Outcome). accepted_of o.after ≡ accepted_after (accepted_of (situation w)) r o) x.same
      (row_form_accepts_body (profile w) (image_of w.slots) w.stage r p form x.luck);
}

-- If a setup packet has a row in the table, the device accepts the body that it acknowledges.
pub setup_accepts_body : SetupAcceptsBody
setup_accepts_body p q setup body w a out w' reads asks on h =
    row_accepts_acknowledged_body (plan (profile w) (image_of w.slots) w.stage (request_for_table q body)) (request_for_table q body)
    (asked_length q) w a out w'
    (row_form (profile w) (image_of w.slots) w.stage (request_for_table q body))
    (setups_have_outcomes p q setup body w a out w' reads asks on h)

-- No bytes are accepted when time passes.
pub time_accepts_nothing : TimeAcceptsNothing
time_accepts_nothing ms w w' row = row_accepts_acknowledged_body (time_plan (profile w) w.stage ms) OtherRequest 0 w answer.Ack [] w'
    (time_plan_has_form (profile w) (image_of w.slots) w.stage ms) (times_have_outcomes ms w w' row)

-- Lemmas about the bytes that a setup packet adds.

-- If a setup packet has a row in the table, it begins with the first two bytes of a DNLOAD exactly if its request is a DNLOAD.
served_setup_is_dnload : (p : Setup) (q : Asked) (setup body : List ℕ) → IsSetup p setup → SetupAsksFor p q → is_served p q body ≡ true
    → is_dnload setup ≡ is_request_with_first_bytes 0x21 1 q
served_setup_is_dnload p q setup body reads asks on = setup_begins_as_request 0x21 1 p setup reads q body
    (λ class other. other.1 (asked.Dnload p.value p.length) (class, refl, refl)) asks on

-- A setup packet other than a DNLOAD adds no bytes.
other_setup_adds_no_block : (setup body : List ℕ) (a : Answer) → is_dnload setup ≡ false → acknowledged_bytes (Transfer setup body) a ≡ []
other_setup_adds_no_block setup body answer.Ack off = ap (λ (b : Bool). if b then body else []) off
other_setup_adds_no_block setup body a off = refl

-- If a setup packet has a row in the table, its reply adds the body that the answer acknowledges.
dnload_answer_joins_body : (p : Setup) (q : Asked) (setup body t : List ℕ) (most len : ℕ) (reply : Reply) (a : Answer) (out : List ℕ) →
    IsSetup p setup
    → SetupAsksFor p q → is_served p q body ≡ true → ReplyMatches most reply (request_for_table q body) → ReplyAnswer len reply a out
    → accepted_after_reply t (request_for_table q body) reply ≡ t ++ acknowledged_bytes (Transfer setup body) a
dnload_answer_joins_body p (asked.Dnload block count) setup body t most len Ack a out reads asks on fits says =
    ap (λ (b : Bool). t ++ (if b then body else [])) (sym (served_setup_is_dnload p (asked.Dnload block count) setup body reads asks on))
    ∙ ap (λ (x : Answer). t ++ acknowledged_bytes (Transfer setup body) x) (sym says.0)
dnload_answer_joins_body p (asked.Dnload block count) setup body t most len Stall a out reads asks on fits says =
    sym (append-nil t) ∙ ap (λ (x : Answer). t ++ acknowledged_bytes (Transfer setup body) x) (sym says.0)
dnload_answer_joins_body p (asked.Dnload block count) setup body t most len reply a out reads asks on fits says = absurd fits
dnload_answer_joins_body p q setup body t most len reply a out reads asks on fits says =
    sym (append-nil t) ∙ ap (λ (l : List ℕ). t ++ l) (sym (other_setup_adds_no_block setup body a (served_setup_is_dnload p q setup body
    reads asks on)))

-- If a device stays in its stage and accepts no bytes, its accepted bytes stay the same.
none_taken_outside_download : (image : List ℕ) (st : Stage) → accepted_in image st ≡ accepted_in_state (state_of st) (accepted_in image st
    ++ [])
none_taken_outside_download image (InDownloadSync before block number) = sym (append-nil (before ++ block))
none_taken_outside_download image (InDownloadSyncWritten taken number) = sym (append-nil taken)
none_taken_outside_download image (InDownloadBusy before block number passed) = sym (append-nil (before ++ block))
none_taken_outside_download image (InDownloadIdle taken number) = sym (append-nil taken)
none_taken_outside_download image (InManifestSync taken) = sym (append-nil taken)
none_taken_outside_download image InManifestSyncComplete = sym (append-nil image)
none_taken_outside_download image (InManifest taken passed) = sym (append-nil taken)
none_taken_outside_download image st = refl

-- A reset of the bus leaves no accepted bytes.
reset_leaves_accepted_bytes : (image bytes : List ℕ) (st : Stage) → accepted_in image (reset_stage st)
    ≡ accepted_in_state (state_of (reset_stage st)) bytes
reset_leaves_accepted_bytes image bytes (InAppDetach timer passed) = refl
reset_leaves_accepted_bytes image bytes st = refl

-- No bytes are accepted when the program refuses an image.
refusal_leaves_accepted_bytes : (why : Objection) (image : List ℕ) (st : Stage) (a : Answer) (out : List ℕ)
    → accepted_in image (refuse_stage why st) ≡ accepted_in_state (state_of (refuse_stage why st))
    (accepted_in image st ++ acknowledged_bytes (Refusing why) a)
refusal_leaves_accepted_bytes why image (InManifestSync taken) a out = refl
refusal_leaves_accepted_bytes why image (InManifest taken passed) a out = refl
refusal_leaves_accepted_bytes why image st a out = none_taken_outside_download image st

-- Body that an answer acknowledged. It doesn't depend on the bytes of the answer.
abbrev pub acknowledged_body_of : Cause → Answer → List ℕ → List ℕ
acknowledged_body_of cause a out = acknowledged_bytes cause a

-- Facts from which the laws of the accepted bytes follow.
pub gathering_of_accepted_bytes : GatheringFacts is_downloading accepted_in accepted_after_reply acknowledged_body_of
gathering_of_accepted_bytes = record {
  form = row_form_accepts_body;
  answered = dnload_answer_joins_body;
  stalled = λ setup body out. refl;
  waits = λ ms t reply a out. sym (append-nil t);
  stays = none_taken_outside_download;
  resets = reset_leaves_accepted_bytes;
  error_leaves_no_bytes = λ why i bytes. refl;
  refuses = refusal_leaves_accepted_bytes;
}
