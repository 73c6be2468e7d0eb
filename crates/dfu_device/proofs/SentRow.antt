-- In a row of the table the device sends the bytes with which it answers an UPLOAD, even if the medium fails.
use Rattle.std.specs.Prelude.{◌≡◌, ℕ, ◌≤◌, nat_lt, true, List, [], ◌++◌, length, take, drop}
use Rattle.std.proofs.Common.{refl, sym, ap, ◌∙◌, subst, arith}
use Rattle.std.proofs.Math.Seq.{take-add}
use Rattle.std.proofs.lemmas.Bool.{ltb-true}
use Rattle.std.proofs.lemmas.List.{append-nil, length-take, take_all, take-append-drop}
use Rattle.dfu_device.specs.Stage.{Data, Request, Upload, Reply, Profile, Stage, InDfuIdle, state_of}
use Rattle.dfu_device.specs.Table.{Plan}
use Rattle.dfu_device.specs.Outcome.{Luck, Outcome, plan_outcome}
use Rattle.dfu_device.specs.Sent.{sent_in, sent_of, piece_sent_by_reply, sent_in_state, sent_after}
use Rattle.dfu_device.specs.RowForms.{IsQuietReply, counted, quiet_plan_gives_quiet_reply, RowForm, quiet, takes, closes, sends, ends}

-- After each outcome of a plan the sent bytes are those before the plan, followed by the piece of the reply, or none outside an upload.
abbrev pub Sends : List ℕ → Stage → Request → Plan → Type 0
Sends i st r p = (luck : Luck) → sent_of (plan_outcome i p luck).after ≡ sent_after (sent_in i st) r (plan_outcome i p luck)

-- A quiet reply sends nothing.
quiet_reply_sends_nothing : (r : Request) (reply : Reply) → IsQuietReply reply r → piece_sent_by_reply r reply ≡ []
quiet_reply_sends_nothing (Upload number size) (Data bytes) still = absurd still
quiet_reply_sends_nothing (Upload number size) reply still = refl
quiet_reply_sends_nothing r reply still = refl

-- In a row of each form the device sends the piece with which it answers an UPLOAD.
pub row_form_sends_piece : (c : Profile) (i : List ℕ) (st : Stage) (r : Request) (p : Plan) → RowForm c i st r p → Sends i st r p
row_form_sends_piece c i st r p (quiet replies calls well counts) luck =
    (counted i st p luck counts).1
    ∙ ap (sent_in_state (state_of (plan_outcome i p luck).after.stage)) (sym (append-nil (sent_in i st))
    ∙ ap (λ (l : List ℕ). sent_in i st ++ l) (sym (quiet_reply_sends_nothing r (plan_outcome i p luck).reply (quiet_plan_gives_quiet_reply
    c i r p luck replies))))
row_form_sends_piece c i st r p takes luck = refl
row_form_sends_piece c i st r p closes luck = refl
row_form_sends_piece c i st r p (sends place size is small) luck =
    take-add place size i ∙ ap (λ (l : List ℕ). l ++ take size (drop place i)) (sym is)
row_form_sends_piece c i st r p (ends place size is small short) luck = refl

-- If fewer than `size` bytes can be taken from a list, the list has at most `size` bytes.
short_prefix_is_whole : (l : List ℕ) (size : ℕ) → nat_lt (length (take size l)) size ≡ true → length l ≤ size
short_prefix_is_whole l size short = omega (arith, length-take size l, ltb-true (length (take size l)) size short)

-- If the piece from offset `place` on is shorter than `size`, the bytes before it, followed by the piece, are the image.
short_piece_completes_image : (i : List ℕ) (place size : ℕ) → nat_lt (length (take size (drop place i))) size ≡ true
    → take place i ++ take size (drop place i) ≡ i
short_piece_completes_image i place size short =
    ap (λ (l : List ℕ). take place i ++ l) (take_all size (drop place i) (short_prefix_is_whole (drop place i) size short))
    ∙ take-append-drop place i

-- If the outcome sends a piece and enters dfuIDLE, the bytes sent before, followed by the piece, are the image.
abbrev pub OutcomeCompletesImage : List ℕ → Stage → Outcome → Type 0
OutcomeCompletesImage i st o = (bytes : List ℕ) → o.reply ≡ Data bytes → o.after.stage ≡ InDfuIdle → sent_in i st ++ bytes ≡ o.after.image

-- If a row of any form ends an upload, the sent bytes are the complete image.
pub row_form_completes_upload : (c : Profile) (i : List ℕ) (st : Stage) (r : Request) (p : Plan) (luck : Luck) → RowForm c i st r p
    → OutcomeCompletesImage i st (plan_outcome i p luck)
row_form_completes_upload c i st r p luck (quiet replies calls well counts) bytes is idle =
    absurd (subst (λ (reply : Reply). IsQuietReply reply r) is (quiet_plan_gives_quiet_reply c i r p luck replies))
row_form_completes_upload c i st r p luck takes bytes is idle = absurd cc
row_form_completes_upload c i st r p luck closes bytes is idle = absurd cc
row_form_completes_upload c i st r p luck (sends place size at small) bytes is idle = absurd cc
row_form_completes_upload c i st r p luck (ends place size at small short) bytes is idle =
    let same : take size (drop place i) ≡ bytes = cc in
    ap (λ (l : List ℕ). sent_in i st ++ l) (sym same) ∙ ap (λ (l : List ℕ). l ++ take size (drop place i)) at
    ∙ short_piece_completes_image i place size short
