use Rattle.std.proofs.Common.{refl}
use Rattle.std.proofs.lemmas.Result.{err_from_is_err_and}
use Rattle.dfu_device.specs.Pace.{no_pace}
use Rattle.dfu_link.specs.inside.SetupView.{setting_of_device, pace_of}
use Rattle.dfu_link.proofs.PaceLaws.{pace_keeps_fault, pace_keeps_allowed}
use Rattle.dfu_link.proofs.scripting.starting.device_config.Goals as goal

pub returns-in_err-config-clause-err : goal.returns-in_err-config-clause-err
returns-in_err-config-clause-err c =
    let failed = err_from_is_err_and c.from_residual.result c.from_residual.ensures.1 in
    rw (failed.1, failed.2) (pace_keeps_fault c.in_err-config.field-0.0 (record (setting_of_device c.args.setup.now) { pace = no_pace })
    (pace_of c.args.setup.now) c.in_err-config.ensures.err)

pub returns-clause-ok : goal.returns-clause-ok
returns-clause-ok c = rw (c.with_pace.ensures, c.in_ok-config.ensures.ok, c.pace_of.ensures) refl

pub returns-clause-allowed : goal.returns-clause-allowed
returns-clause-allowed c =
    rw c.with_pace.ensures (pace_keeps_allowed c.in_ok-config.config c.pace_of.result c.in_ok-config.ensures.allowed)
