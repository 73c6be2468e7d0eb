use Rattle.std.proofs.Common.{◌-◌}
use Rattle.dfu_slots.specs.Image.{slot_of}
use Rattle.dfu_slots.proofs.Registering.{IsRegisterOfPrefix}
use Rattle.dfu_slots.proofs.register.crc_of.Given as goal

abbrev pub invariant-loop-at : goal.invariant-loop-at
invariant-loop-at g l = IsRegisterOfPrefix (slot_of (g.M.Medium.state l.medium) l.slot_at).data_bytes l.len l.at l.crc

abbrev pub decreases-loop-at : goal.decreases-loop-at
decreases-loop-at g l = l.len - l.at
