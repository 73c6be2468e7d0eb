use Rattle.std.proofs.Common.{ℕ, ap, ◌∙◌}
use Rattle.dfu_device.specs.DeviceView.{profile_of}
use Rattle.dfu_asks.specs.Mapped.{grain_of}
use Rattle.dfu_asks.proofs.Verdicts.{stall_verdict_in_mode}
use Rattle.dfu_asks.proofs.stalls.mode_stalls.Goals as goal

pub returns : goal.returns
returns c = stall_verdict_in_mode c.args.config.now (grain_of c.args.unit c.args.sector) c.args.size _
    (c.profile-profile.ensures.profile ∙ ap (λ (n : ℕ). profile_of c.args.config.now n) c.room_in.ensures)
    c.args.setup.now c.decode.result c.request.result c.args.mode c.will_stall.result c.decode.ensures.only c.request.ensures.only
    c.will_stall.ensures
