use Rattle.std.proofs.Common.{length}
use Rattle.dfu_device.specs.declared.device_state.DeviceState.TheVariants as device_state
use Rattle.dfu_device.proofs.PlanRows.{dnload_allows_decision}
use Rattle.dfu_device.proofs.table.in_dfu_idle.Goals as goal

pub returns-in-Dnload-clause-possible : goal.returns-in-Dnload-clause-possible
returns-in-Dnload-clause-possible c =
    dnload_allows_decision c.args.profile.now device_state.DfuIdle c.first.result c.in-Dnload.is c.first.ensures.possible

pub returns-in-Upload-clause-possible : goal.returns-in-Upload-clause-possible
returns-in-Upload-clause-possible c = λ body fits block s room filled. c.upload.ensures.possible block (length body) s
