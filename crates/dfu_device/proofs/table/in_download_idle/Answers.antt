use Rattle.dfu_device.specs.declared.device_state.DeviceState.TheVariants as device_state
use Rattle.dfu_device.proofs.PlanRows.{dnload_allows_decision}
use Rattle.dfu_device.proofs.table.in_download_idle.Goals as goal

pub returns-in-Dnload-clause-possible : goal.returns-in-Dnload-clause-possible
returns-in-Dnload-clause-possible c =
    dnload_allows_decision c.args.profile.now (device_state.DownloadIdle c.args.written c.args.number) c.further.result
    c.in-Dnload.is c.further.ensures.possible
