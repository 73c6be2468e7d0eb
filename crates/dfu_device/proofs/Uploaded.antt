-- The pieces of a complete upload form the active image.
use Rattle.std.specs.Prelude.{◌≡◌, ℕ, true, List, ◌++◌}
use Rattle.std.proofs.Common.{sym, ap, ◌∙◌, subst}
use Rattle.std.proofs.lemmas.Bool.{false≢true}
use Rattle.dfu_wire.specs.declared.requests.Request.{Request as Asked}
use Rattle.dfu_wire.specs.declared.requests.Request.TheVariants as asked
use Rattle.dfu_slots.specs.StoreView.{image_of}
use Rattle.dfu_device.specs.declared.answer.Answer.{Answer}
use Rattle.dfu_device.specs.declared.answer.Answer.TheVariants as answer
use Rattle.dfu_device.specs.Stage.{Reply, Data, Stall, InDfuIdle}
use Rattle.dfu_device.specs.Table.{plan}
use Rattle.dfu_device.specs.DeviceView.{DeviceView, profile, situation}
use Rattle.dfu_device.specs.Rows.{request_for_table, asked_length, ReplyAnswer, is_served, Handles, handled_by_reading, Cause, Row}
use Rattle.dfu_device.specs.PlanOutcomes.{PlanOutcome, setups_have_outcomes, not_served_is_stalled}
use Rattle.dfu_device.specs.RowForms.{ReplyMatches, row_form}
use Rattle.dfu_device.specs.Sent.{sent_of, is_uploading, sent_in, is_upload, sent_piece}
use Rattle.dfu_device.specs.Uploaded.{UploadIsImage, UploadsAreImages}
use Rattle.dfu_device.proofs.ReportedStatus.{bytes_answer_is_no_stall}
use Rattle.dfu_device.proofs.FirstBytes.{is_request_with_first_bytes}
use Rattle.dfu_device.proofs.SentRow.{OutcomeCompletesImage, row_form_completes_upload}
use Rattle.dfu_device.proofs.RowGathers.{served_reply_matches_request, history_from_start_gathers}
use Rattle.dfu_device.proofs.SentHistory.{served_setup_is_upload, joined, gathering_of_sent_bytes}
use Rattle.dfu_device.proofs.Cases.{bool_has_two_cases}

-- If an UPLOAD is answered with bytes, the reply is Data with those bytes.
upload_answer_is_piece : (q : Asked) (body : List ℕ) (most len : ℕ) (reply : Reply) (a : Answer) (out : List ℕ) →
    is_request_with_first_bytes 0xa1 2 q ≡ true
    → a ≡ answer.Bytes → ReplyMatches most reply (request_for_table q body) → ReplyAnswer len reply a out → reply ≡ Data out
upload_answer_is_piece (asked.Upload number size) body most len (Data bytes) a out on is fits says = ap Data (sym says.1)
upload_answer_is_piece (asked.Upload number size) body most len Stall a out on is fits says = absurd (bytes_answer_is_no_stall (sym is
    ∙ says.0))
upload_answer_is_piece (asked.Upload number size) body most len reply a out on is fits says = absurd fits
upload_answer_is_piece q body most len reply a out on is fits says = absurd (false≢true on)

-- If an UPLOAD has a row in the table, is answered with bytes and ends in dfuIDLE, the sent bytes are the complete image.
served_upload_ends_with_image : (q : Asked) (body : List ℕ) (w : DeviceView) (a : Answer) (out : List ℕ) (w' : DeviceView) →
    is_request_with_first_bytes 0xa1 2 q ≡ true
    → a ≡ answer.Bytes → w'.stage ≡ InDfuIdle
    → PlanOutcome (plan (profile w) (image_of w.slots) w.stage (request_for_table q body)) (asked_length q) w a out w'
    → sent_of (situation w) ++ out ≡ image_of w'.slots
served_upload_ends_with_image q body w a out w' on is idle x =
    subst (OutcomeCompletesImage (image_of w.slots) w.stage) x.same
    (row_form_completes_upload (profile w) (image_of w.slots) w.stage (request_for_table q body)
    (plan (profile w) (image_of w.slots) w.stage (request_for_table q body))
    x.luck (row_form (profile w) (image_of w.slots) w.stage (request_for_table q body)))
    out (upload_answer_is_piece q body (profile w).transfer (asked_length q) x.reply a out on is
    (served_reply_matches_request q body (asked_length q) w a out w' x) x.answers) idle

-- If an UPLOAD is answered with bytes and its row ends in dfuIDLE, the sent bytes are the complete image.
row_upload_ends_with_image : (setup body : List ℕ) (w : DeviceView) (a : Answer) (out : List ℕ) (w' : DeviceView) →
    Handles setup body w a out w'
    → is_upload setup ≡ true → a ≡ answer.Bytes → w'.stage ≡ InDfuIdle
    → sent_of (situation w) ++ out ≡ image_of w'.slots
row_upload_ends_with_image setup body w a out w' (handled_by_reading p q reads asks done) on bytes idle =
    bool_has_two_cases (is_served p q body)
    (λ goes. served_upload_ends_with_image q body w a out w' (sym (served_setup_is_upload p q setup body reads asks goes) ∙ on) bytes idle
    (setups_have_outcomes p q setup body w a out w' reads asks goes (handled_by_reading p q reads asks done)))
    (λ off. absurd (bytes_answer_is_no_stall
    (sym bytes ∙ (not_served_is_stalled p q setup body w a out w' reads asks off (handled_by_reading p q
    reads asks done)).0)))

-- The bytes sent before the last step of an upload, followed by the piece of that step, are the active image.
pub last_piece_completes_image : UploadIsImage
last_piece_completes_image s row e =
    row_upload_ends_with_image e.setup e.body s.before s.answer s.out s.after
    (subst (λ (c : Cause). Row s.before c s.answer s.out s.after) e.cause row) e.upload e.answered e.ends

-- If a device had sent nothing at first, the last step of an upload completes the active image.
pub uploads_are_images : UploadsAreImages
uploads_are_images h s w none run row e = (
  sent_of (situation s.before),
  history_from_start_gathers is_uploading sent_in joined sent_piece gathering_of_sent_bytes h w s.before none
      run,
  last_piece_completes_image s row e,
)
