-- The bytes that an upload has sent are the bytes sent by its history.
use Rattle.std.specs.Prelude.{◌≡◌, ℕ, Bool, true, false, if◌then◌else◌, List, [], ◌++◌}
use Rattle.std.proofs.Common.{refl, sym, ap, ◌∙◌}
use Rattle.std.proofs.lemmas.List.{append-nil}
use Rattle.dfu_wire.specs.declared.setups.Setup.{Setup}
use Rattle.dfu_wire.specs.declared.requests.Request.{Request as Asked}
use Rattle.dfu_wire.specs.declared.requests.Request.TheVariants as asked
use Rattle.dfu_wire.specs.Setup.{IsSetup}
use Rattle.dfu_wire.specs.Request.{SetupAsksFor}
use Rattle.dfu_device.specs.declared.answer.Answer.{Answer}
use Rattle.dfu_device.specs.declared.answer.Answer.TheVariants as answer
use Rattle.dfu_device.specs.declared.objection.Objection.{Objection}
use Rattle.dfu_device.specs.Stage.{Request, Reply, Data, Stall, Stage, InAppDetach, InManifestSync, InManifest, InUploadIdle, state_of}
use Rattle.dfu_device.specs.Table.{reset_stage, refuse_stage}
use Rattle.dfu_device.specs.Rows.{request_for_table, ReplyAnswer, is_served, Refusing, Transfer}
use Rattle.dfu_device.specs.RowForms.{ReplyMatches}
use Rattle.dfu_device.specs.Sent.{is_uploading, sent_in, piece_sent_by_reply, sent_in_state, is_upload, sent_piece}
use Rattle.dfu_device.proofs.SentRow.{row_form_sends_piece}
use Rattle.dfu_device.proofs.FirstBytes.{is_request_with_first_bytes, setup_begins_as_request}
use Rattle.dfu_device.proofs.RowGathers.{GatheringFacts}

-- Lemmas about the bytes that a setup packet sends.

-- If a setup packet has a row in the table, it begins with the first two bytes of an UPLOAD exactly if its request is an UPLOAD.
pub served_setup_is_upload : (p : Setup) (q : Asked) (setup body : List ℕ) → IsSetup p setup → SetupAsksFor p q → is_served p q body ≡ true
    → is_upload setup ≡ is_request_with_first_bytes 0xa1 2 q
served_setup_is_upload p q setup body reads asks on = setup_begins_as_request 0xa1 2 p setup reads q body
    (λ class other. other.1 (asked.Upload p.value p.length) (class, refl, refl)) asks on

-- A setup packet other than an UPLOAD sends no bytes of the image.
other_setup_sends_no_piece : (setup body : List ℕ) (a : Answer) (out : List ℕ) → is_upload setup ≡ false →
    sent_piece (Transfer setup body) a out ≡ []
other_setup_sends_no_piece setup body answer.Bytes out off = ap (λ (b : Bool). if b then out else []) off
other_setup_sends_no_piece setup body a out off = refl

-- If a setup packet has a row in the table, its reply sends the bytes that the packet and its answer add.
upload_answer_joins_piece : (p : Setup) (q : Asked) (setup body t : List ℕ) (most len : ℕ) (reply : Reply) (a : Answer) (out : List ℕ) →
    IsSetup p setup
    → SetupAsksFor p q → is_served p q body ≡ true → ReplyMatches most reply (request_for_table q body) → ReplyAnswer len reply a out
    → t ++ piece_sent_by_reply (request_for_table q body) reply ≡ t ++ sent_piece (Transfer setup body) a out
upload_answer_joins_piece p (asked.Upload block count) setup body t most len (Data bytes) a out reads asks on fits says =
    ap (λ (l : List ℕ). t ++ l) (sym (ap (λ (x : Answer). sent_piece (Transfer setup body) x out) says.0
    ∙ ap (λ (b : Bool). if b then out else []) (served_setup_is_upload p (asked.Upload block count) setup body reads asks on) ∙ says.1))
upload_answer_joins_piece p (asked.Upload block count) setup body t most len Stall a out reads asks on fits says =
    ap (λ (x : Answer). t ++ sent_piece (Transfer setup body) x out) (sym says.0)
upload_answer_joins_piece p (asked.Upload block count) setup body t most len reply a out reads asks on fits says = absurd fits
upload_answer_joins_piece p q setup body t most len reply a out reads asks on fits says =
    ap (λ (l : List ℕ). t ++ l) (sym (other_setup_sends_no_piece setup body a out (served_setup_is_upload p q setup body reads asks on)))

-- If a device stays in its stage and sends no bytes, its sent bytes stay the same.
none_sent_outside_upload : (i : List ℕ) (st : Stage) → sent_in i st ≡ sent_in_state (state_of st) (sent_in i st ++ [])
none_sent_outside_upload i (InUploadIdle place number) = sym (append-nil (sent_in i (InUploadIdle place number)))
none_sent_outside_upload i st = refl

-- A reset of the bus leaves no sent bytes.
reset_leaves_sent_bytes : (i bytes : List ℕ) (st : Stage) → sent_in i (reset_stage st) ≡ sent_in_state (state_of (reset_stage st)) bytes
reset_leaves_sent_bytes i bytes (InAppDetach timer passed) = refl
reset_leaves_sent_bytes i bytes st = refl

-- A refusal of an image sends no bytes.
refusal_leaves_sent_bytes : (why : Objection) (i : List ℕ) (st : Stage) (a : Answer) (out : List ℕ)
    → sent_in i (refuse_stage why st) ≡ sent_in_state (state_of (refuse_stage why st)) (sent_in i st ++ sent_piece (Refusing why) a out)
refusal_leaves_sent_bytes why i (InManifestSync taken) a out = refl
refusal_leaves_sent_bytes why i (InManifest taken passed) a out = refl
refusal_leaves_sent_bytes why i st a out = none_sent_outside_upload i st

-- Bytes sent before a reply, followed by those that the reply sends.
abbrev pub joined : List ℕ → Request → Reply → List ℕ
joined sent r reply = sent ++ piece_sent_by_reply r reply

-- Facts from which the laws of the sent bytes follow.
pub gathering_of_sent_bytes : GatheringFacts is_uploading sent_in joined sent_piece
gathering_of_sent_bytes = record {
  form = row_form_sends_piece;
  answered = upload_answer_joins_piece;
  stalled = λ setup body out. refl;
  waits = λ ms t reply a out. refl;
  stays = none_sent_outside_upload;
  resets = reset_leaves_sent_bytes;
  error_leaves_no_bytes = λ why i bytes. refl;
  refuses = refusal_leaves_sent_bytes;
}
