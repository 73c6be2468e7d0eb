use Rattle.std.proofs.Common.{pos, ℕ, inl, refl, sym, ap, subst}
use Rattle.dfu_device.specs.declared.device_state.DeviceState.TheVariants as device_state
use Rattle.dfu_core.specs.declared.record.DfuRecord.{DfuRecord}
use Rattle.dfu_core.specs.Power.{PowerOutcome}
use Rattle.dfu_device_c.proofs.Powered.{blank_record_powers_on, powered_record_begins_in_dfu_idle}
use Rattle.dfu_device_c.proofs.power.start.Goals as goal

pub returns-in-Some-find : goal.returns-in-Some-find
returns-in-Some-find c =
    let k = c.args.config.now in
    let flash = c.args.flash.now in
    let set = c.in-Some.ensures in
    let s = c.in-Some.settings in
    let noted = c.in-Some-find.noted in
    let with_mode : ℕ → DfuRecord → DfuRecord =
    λ n b. record b { mode = n; slot = c.slot_of-device.result; header = noted.header } in
    let got = blank_record_powers_on k flash s.config s.unit s.sector noted (with_mode 0 c.blank.result) set.allowed
    (record { config_is = set.config; unit_is = set.unit; sector_is = set.sector })
    c.in-Some-find.ensures.some c.in-Some-find.ensures.image
    (record { second = c.slot_of-device.ensures; header = refl }) (ap (with_mode 0) c.blank.ensures) in
    record {
      app = λ e. inl (subst (λ (n : ℕ). PowerOutcome k device_state.AppIdle flash (pos 0) (with_mode n c.blank.result)) (sym e) got);
      dfu = λ e. inl (subst (λ (n : ℕ). PowerOutcome k device_state.DfuIdle flash (pos 0) (with_mode n c.blank.result)) (sym e)
          (powered_record_begins_in_dfu_idle k flash _ got));
    }
