use Rattle.std.proofs.Common.{ℕ, List, [], subst, inl, refl}
use Rattle.dfu_device.specs.Setting.{Setting}
use Rattle.dfu_asks.specs.AfterLong.{IsLongerThanBlock}
use Rattle.dfu_core.specs.Board.{core_board}
use Rattle.dfu_core.specs.Config.{config_setting}
use Rattle.dfu_core.specs.Happens.{TooLongOutcome}
use Rattle.dfu_core.specs.Long.{RecordTakesTooLongRow}
use Rattle.dfu_core.specs.Numbers.{STALL_NUMBER}
use Rattle.dfu_device_c.proofs.Asked.{record_takes_too_long_row}
use Rattle.dfu_device_c.proofs.long.dfu_core_too_long.Goals as goal

pub returns : goal.returns
returns c =
    let k = c.args.config.now in
    let r = c.args.device.now in
    let r' = c.set_mode.new.kept in
    let own = c.addressed-own.result in
    let long : IsLongerThanBlock (config_setting k) own = subst
    (λ (s : Setting). IsLongerThanBlock s own) c.in-Ok.ensures.set_up.config_is c.in-Some.ensures.long in
    let takes : RecordTakesTooLongRow k r own r' = record_takes_too_long_row k r r' own c.in-Ok.found.1 c.in-Some.after
    c.in-Ok.ensures.set_up c.in-Ok.ensures.only
    c.in-Ok.ensures.idle.idle c.set_mode.ensures.mode c.set_mode.ensures.others c.in-Some.ensures.row in
    let both = subst (λ (x : List ℕ). IsLongerThanBlock (config_setting k) x
    × RecordTakesTooLongRow k r x r') c.addressed-own.ensures (long, takes) in
    let outcome : TooLongOutcome (core_board k r [] []) c.args.setup.now STALL_NUMBER (core_board k r' [] []) =
    inl (refl, c.in-Ok.ensures.idle, both.0, both.1) in
    record {
      outcome = outcome;
      step = λ block flash body room is_body. (record { config = refl; flash = refl }, refl, room, is_body, outcome);
    }
