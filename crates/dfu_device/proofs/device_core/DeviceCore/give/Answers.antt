use Rattle.std.proofs.Common.{◌≡◌, List, ℕ, min, refl, sym, ◌∙◌, ap, subst, arith, length, take, drop}
use Rattle.dfu_slots.specs.StoreView.{image_of, spare_of, room_of}
use Rattle.dfu_device.specs.declared.answer.Answer.TheVariants as answer
use Rattle.dfu_device.specs.Stage.{status_of}
use Rattle.dfu_device.specs.DeviceView.{profile}
use Rattle.dfu_device.specs.Rows.{ReplyAnswer}
use Rattle.dfu_device.specs.inside.View.{view_of_core}
use Rattle.dfu_device.specs.Decision.{HasTimeInputs}
use Rattle.dfu_device.proofs.PlanRows.{parts_have_time_inputs}
use Rattle.dfu_device.proofs.StatusBytes.{status_front_fits_vector, vector_is_front}
use Rattle.dfu_device.proofs.device_core.DeviceCore.give.Goals as goal

pub copy_image-requires-clause-most : goal.copy_image-requires-clause-most
copy_image-requires-clause-most g c = omega (
  arith,
  c.piece_len-count.ensures.count,
  c.requires.fits answer.Bytes (take c.in-Piece.asked (drop c.in-Piece.place (image_of c.args.self.now.slots)))
      (rw c.in-Piece.is (refl, refl)),
)

pub returns-in-Status : goal.returns-in-Status
returns-in-Status g c =
    let d = c.args.self.now in
    let w = view_of_core d in
    let sent = c.try_extend_from_slice in
    let asked = c.in-Status.asked in
    let bytes = c.status_in-bytes.result in
    let count : c.min.result ≡ min asked 6 = c.min.ensures ∙ ap (λ (n : ℕ). min n 6) c.from.ensures in
    rw c.in-Status.is (subst (λ (l : List ℕ). ReplyAnswer asked (status_of (profile w) w.stage) answer.Bytes l)
    (sym (vector_is_front sent.result asked c.min.result bytes c.args.out.now.items sent.new.self.items count
    c.status_in-bytes.ensures.size c.requires.out
    (sent.ensures.variant.1 (status_front_fits_vector asked c.min.result bytes c.args.out.now.items count c.requires.out)) sent.ensures.ok))
    (c.status_in-bytes.ensures.answers (room_of w.slots) (spare_of w.slots) c.args.self.now.block.items asked
    (subst (λ (l : List ℕ). HasTimeInputs d.mode (length l) (spare_of w.slots) d.block.items) (sym c.as_slice.ensures.value)
    (parts_have_time_inputs d.mode d.block.items w.slots d.sound))))
