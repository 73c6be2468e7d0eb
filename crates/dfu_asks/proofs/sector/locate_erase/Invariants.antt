use Rattle.std.proofs.Common.{◌-◌, ◌+◌}
use Rattle.dfu_asks.proofs.Locating.{SectorsPassed}
use Rattle.dfu_asks.proofs.sector.locate_erase.Given as goal

abbrev pub invariant-loop-place : goal.invariant-loop-place
invariant-loop-place l = SectorsPassed l.sector l.at l.len l.done l.place l.rest

abbrev pub decreases-loop-place : goal.decreases-loop-place
decreases-loop-place l = l.at + l.len - l.place
