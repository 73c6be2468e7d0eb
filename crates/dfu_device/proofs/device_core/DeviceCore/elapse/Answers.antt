use Rattle.std.proofs.Common.{ℕ, List, length, refl, sym, subst}
use Rattle.dfu_device.specs.Decision.{IsPossibleDecision, DecidesTime}
use Rattle.dfu_device.specs.inside.View.{view_of_core}
use Rattle.dfu_device.proofs.PlanRows.{parts_have_mode_bytes, time_decision_is_row}
use Rattle.dfu_device.proofs.device_core.DeviceCore.elapse.Goals as goal

pub carry_out-requires : goal.carry_out-requires
carry_out-requires g c =
    let d = c.args.self.now in
    let n = length d.block.items in
    subst (λ (t : ℕ). IsPossibleDecision t n 0 d.slots c.decide_time-decision.result) c.profile.ensures.transfer
    (c.decide_time-decision.ensures.possible n d.slots (sym c.profile.ensures.capacity) (parts_have_mode_bytes d.mode n d.slots d.sound))

pub returns : goal.returns
returns g c =
    let d = c.args.self.now in
    record {
      row = time_decision_is_row c.profile.result c.args.ms d.mode d.block.items _ c.decide_time-decision.result (view_of_core d)
          (view_of_core c.carry_out.new.self)
          c.carry_out.result c.profile.ensures.profile d.sound refl
          (subst (λ (l : List ℕ). DecidesTime c.profile.result d.mode (length l) c.args.ms c.decide_time-decision.result) c.as_slice-block_len.ensures.value
          c.decide_time-decision.ensures.row) refl c.carry_out.ensures.row
          (c.carry_out.ensures.silent c.decide_time-decision.ensures.silent);
    }
