use Rattle.std.proofs.Common.{ℕ, length, refl, sym, subst}
use Rattle.dfu_device.specs.Decision.{IsPossibleDecision}
use Rattle.dfu_device.specs.inside.PendingAnswer.{HandledPending}
use Rattle.dfu_device.specs.inside.View.{view_of_core}
use Rattle.dfu_device.proofs.AnswersFit.{handled_answer_fits_room}
use Rattle.dfu_device.proofs.PlanRows.{parts_have_mode_bytes, handled}
use Rattle.dfu_device.proofs.device_core.DeviceCore.pending_answer.Goals as goal

pub carry_out-requires : goal.carry_out-requires
carry_out-requires g c =
    let d = c.args.self.now in
    let n = length d.block.items in
    subst (λ (t : ℕ). IsPossibleDecision t n (length c.args.body.now) d.slots c.asked_row-decision.result.0) c.profile.ensures.transfer
    (c.asked_row-decision.ensures.possible n d.slots (sym c.profile.ensures.capacity) (parts_have_mode_bytes d.mode n d.slots d.sound))

pub returns : goal.returns
returns g c =
    let d = c.args.self.now in
    let row : HandledPending c.args.setup.now c.args.body.now (view_of_core d) c.carry_out.result (view_of_core c.carry_out.new.self) =
    λ a out says.
    handled c.profile.result d.mode c.args.setup.now d.block.items c.args.body.now c.asked_row-decision.result.0
    c.asked_row-decision.result.1 (view_of_core d) c.profile.ensures.profile d.sound refl c.asked_row-decision.ensures.row a out
    (view_of_core c.carry_out.new.self)
    (c.carry_out.ensures.row a out says) in
    record { row = row; answer_fits = λ a sent says. handled_answer_fits_room _ _ _ _ _ _ (row a sent says) }
