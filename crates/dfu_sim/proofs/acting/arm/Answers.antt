use Rattle.std.proofs.Common.{sym}
use Rattle.dfu_sim.proofs.ActionClauses.{unarmed_device_stays}
use Rattle.dfu_sim.proofs.acting.arm.Goals as goal

pub returns-in-NoWrite : goal.returns-in-NoWrite
returns-in-NoWrite g c = rw c.in-NoWrite.is (sym (unarmed_device_stays c.args.device.now c.requires))
