use Rattle.dfu_device.proofs.device_core.DeviceCore.handle.Goals as goal

pub returns : goal.returns
returns g c = record { row = c.pending_answer-pending_answer.ensures.row _ _ c.give.ensures }
