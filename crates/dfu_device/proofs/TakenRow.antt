-- In a row of the table the device accepts the body that it acknowledges, even if the medium fails.
use Rattle.std.specs.Prelude.{◌≡◌, ℕ, List}
use Rattle.std.proofs.Common.{refl, sym, ap, ◌∙◌}
use Rattle.std.proofs.lemmas.List.{append-nil}
use Rattle.dfu_device.specs.Stage.{Request, Dnload, Reply, Ack, Profile, Stage, state_of}
use Rattle.dfu_device.specs.Table.{Plan}
use Rattle.dfu_device.specs.Outcome.{Luck, plan_outcome}
use Rattle.dfu_device.specs.AcceptedBytes.{accepted_in, accepted_of, accepted_after_reply, accepted_in_state, accepted_after}
use Rattle.dfu_device.specs.RowForms.{IsQuietReply, counted, quiet_plan_gives_quiet_reply, RowForm, quiet, takes, closes, sends, ends}

-- After each outcome of a plan the accepted bytes are those before the plan, followed by the acknowledged body, or none outside a download.
abbrev pub TakesBody : List ℕ → Stage → Request → Plan → Type 0
TakesBody i st r p = (luck : Luck) → accepted_of (plan_outcome i p luck).after ≡ accepted_after (accepted_in i st) r (plan_outcome i p luck)

-- A quiet reply adds no accepted bytes.
quiet_reply_takes_nothing : (t : List ℕ) (r : Request) (reply : Reply) → IsQuietReply reply r → accepted_after_reply t r reply ≡ t
quiet_reply_takes_nothing t (Dnload number body) Ack still = absurd still
quiet_reply_takes_nothing t (Dnload number body) reply still = refl
quiet_reply_takes_nothing t r reply still = refl

-- In a row of each form the device accepts the body that it acknowledges.
pub row_form_accepts_body : (c : Profile) (i : List ℕ) (st : Stage) (r : Request) (p : Plan) → RowForm c i st r p → TakesBody i st r p
row_form_accepts_body c i st r p (quiet replies calls well counts) luck =
    (counted i st p luck counts).0
    ∙ ap (accepted_in_state (state_of (plan_outcome i p luck).after.stage))
    (sym (quiet_reply_takes_nothing (accepted_in i st) r (plan_outcome i p luck).reply (quiet_plan_gives_quiet_reply c i r p luck replies)))
row_form_accepts_body c i st r p takes luck = refl
row_form_accepts_body c i st r p (closes {taken = taken}) luck = sym (append-nil taken)
row_form_accepts_body c i st r p (sends place size is small) luck = refl
row_form_accepts_body c i st r p (ends place size is small short) luck = refl
