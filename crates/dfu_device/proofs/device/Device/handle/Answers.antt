use Rattle.dfu_device.proofs.device.Device.handle.Goals as goal

pub returns : goal.returns
returns g c = record { row = rw (← c.self.view_is) c.handle.ensures.row }
