use Rattle.std.proofs.Common.{◌-◌, length}
use Rattle.dfu_slots.proofs.Registering.{IsRegisterOfPrefix}
use Rattle.dfu_slots.proofs.read.crc_by_pieces.Given as goal

abbrev pub invariant-loop-at : goal.invariant-loop-at
invariant-loop-at l = IsRegisterOfPrefix l.flash (length l.flash) l.at l.crc

abbrev pub decreases-loop-at : goal.decreases-loop-at
decreases-loop-at l = length l.flash - l.at
