-- No answer is longer than the transfer size or, if that is larger, the six bytes of a status.
use Rattle.std.specs.Prelude.{ℕ, ◌≤◌, max, List, [], ◌∷◌, length}
use Rattle.std.proofs.Common.{ap, inl, inr, arith}
use Rattle.std.proofs.lemmas.List.{length-take}
use Rattle.dfu_wire.specs.State.{state_byte}
use Rattle.dfu_slots.specs.StoreView.{image_of}
use Rattle.dfu_device.specs.declared.answer.Answer.{Answer}
use Rattle.dfu_device.specs.Stage.{Reply, Ack, Data, StateOf, StatusOf, Stall, Request, Upload}
use Rattle.dfu_device.specs.Table.{Plan, Sure, Writes, Commits, plan}
use Rattle.dfu_device.specs.DeviceView.{DeviceView, profile}
use Rattle.dfu_device.specs.Rows.{ReplyAnswer, Done, Handles, handled_by_reading, is_served, request_for_table, setup_plan, asked_length}
use Rattle.dfu_device.specs.RowForms.{HoldsForEachReply, ReplyMatches, row_form, row_reply_matches_request}
use Rattle.dfu_device.specs.Borrowed.{answer_room}
use Rattle.dfu_device.specs.Cases.{holds_in_both_branches}

-- If a reply matches its request, its answer has at most t bytes, or six if that is more.
reply_answer_fits_room : (t len : ℕ) (r : Request) (reply : Reply) (a : Answer) (out : List ℕ) → ReplyMatches t reply r →
    ReplyAnswer len reply a out
    → length out ≤ max 6 t
reply_answer_fits_room t len r Ack a out fits (is, none) = omega (arith, ap length none)
reply_answer_fits_room t len r Stall a out fits (is, none) = omega (arith, ap length none)
reply_answer_fits_room t len (Upload number size) (Data bytes) a out fits (is, same) = omega (arith, ap length same, fits)
reply_answer_fits_room t len r (Data bytes) a out fits (is, same) = absurd fits
reply_answer_fits_room t len r (StateOf state) a out fits (is, same) = omega (
  arith,
  ap length same,
  length-take len (state_byte state ∷
      []),
)
reply_answer_fits_room t len r (StatusOf code poll state) a out fits (is, bytes, status, last, same) =
    omega (arith, ap length same, length-take len bytes, status.length)

-- If each reply of a performed plan matches the request, its answer has at most t bytes, or six if that is more.
done_answer_fits_room : (t len : ℕ) (r : Request) (p : Plan) (d : DeviceView) (a : Answer) (out : List ℕ) (d' : DeviceView)
    → HoldsForEachReply (λ reply. ReplyMatches t reply r) p → Done p len d a out d' → length out ≤ max 6 t
done_answer_fits_room t len r (Sure reply stage) d a out d' fits (answers, same) = reply_answer_fits_room t len r reply a out fits
    answers
done_answer_fits_room t len r (Writes before block reply stage bad) d a out d' fits (inl (answers, wrote)) =
    reply_answer_fits_room t len r reply a out fits.0 answers
done_answer_fits_room t len r (Writes before block reply stage bad) d a out d' fits (inr (fault, answers, failed)) =
    reply_answer_fits_room t len r (bad fault) a out (fits.1 fault) answers
done_answer_fits_room t len r (Commits taken reply stage bad) d a out d' fits (inl (answers, wrote)) = reply_answer_fits_room t len r
    reply a out fits.0 answers
done_answer_fits_room t len r (Commits taken reply stage bad) d a out d' fits (inr (fault, answers, failed)) =
    reply_answer_fits_room t len r (bad fault) a out (fits.1 fault) answers

-- The answer to a setup packet has at most as many bytes as the transfer size, or six if that is more.
pub handled_answer_fits_room : (setup body : List ℕ) (d : DeviceView) (a : Answer) (out : List ℕ) (d' : DeviceView) →
    Handles setup body d a out d'
    → length out ≤ answer_room d.config
handled_answer_fits_room setup body d a out d' (handled_by_reading p q is asks done) =
    let t = d.config.functional.transfer in
    let r = request_for_table q body in
    done_answer_fits_room t (asked_length q) r (setup_plan d p q body) d a out d'
    (holds_in_both_branches (HoldsForEachReply (λ reply. ReplyMatches t reply r)) (is_served p q body) _ _
    (row_reply_matches_request (profile d) (image_of d.slots) d.stage r (plan (profile d) (image_of d.slots) d.stage r)
    (row_form (profile d) (image_of d.slots) d.stage r)) tt) done
