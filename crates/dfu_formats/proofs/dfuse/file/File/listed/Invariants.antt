use Rattle.std.proofs.Common.{◌≡◌, ◌≤◌, length}
use Rattle.dfu_formats.proofs.ImageLaws.{TargetsListedSoFar}
use Rattle.dfu_formats.proofs.dfuse.file.File.listed.Given as goal

abbrev pub invariant-loop-target : goal.invariant-loop-target
invariant-loop-target l = record {
  within : l.count ≤ length l.room;
  size : length l.room ≡ length l.initial.room;
  looked : TargetsListedSoFar l.setting l.room l.count l.has_target l.targets l.initial.targets;
}

abbrev pub decreases-loop-target : goal.decreases-loop-target
decreases-loop-target l = length l.targets
