use Rattle.std.proofs.Common.{sym, subst}
use Rattle.dfu_device.specs.declared.device_state.DeviceState.{DeviceState}
use Rattle.dfu_device.specs.Decision.{DecidesTime}
use Rattle.dfu_device.proofs.PlanRows.{equal_mode_allows_time_decision}
use Rattle.dfu_device.proofs.time_table.decide_time.Goals as goal

pub returns-in-AppDetach-clause-row : goal.returns-in-AppDetach-clause-row
returns-in-AppDetach-clause-row c =
    subst (λ (m : DeviceState). DecidesTime c.args.profile.now m c.args.block_len c.args.ms c.in_app_detach.result) (sym c.in-AppDetach.is)
    (c.in_app_detach.ensures.row c.args.block_len)

pub returns-in-AppDetach-clause-possible : goal.returns-in-AppDetach-clause-possible
returns-in-AppDetach-clause-possible c = equal_mode_allows_time_decision c.args.profile.now c.in_app_detach.result c.in-AppDetach.is
    c.in_app_detach.ensures.possible

pub returns-in-Manifest-clause-row : goal.returns-in-Manifest-clause-row
returns-in-Manifest-clause-row c =
    subst (λ (m : DeviceState). DecidesTime c.args.profile.now m c.args.block_len c.args.ms c.in_manifest.result) (sym c.in-Manifest.is)
    (c.in_manifest.ensures.row c.args.block_len)

pub returns-in-Manifest-clause-possible : goal.returns-in-Manifest-clause-possible
returns-in-Manifest-clause-possible c = equal_mode_allows_time_decision c.args.profile.now c.in_manifest.result c.in-Manifest.is
    c.in_manifest.ensures.possible
