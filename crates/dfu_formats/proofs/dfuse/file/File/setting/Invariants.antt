use Rattle.std.proofs.Common.{◌≡◌, length}
use Rattle.dfu_formats.specs.dfuse.Images.{all_targets_for}
use Rattle.dfu_formats.proofs.dfuse.file.File.setting.Given as goal

abbrev pub invariant-loop-target : goal.invariant-loop-target
invariant-loop-target l = all_targets_for l.first l.targets ≡ all_targets_for l.first l.initial.targets

abbrev pub decreases-loop-target : goal.decreases-loop-target
decreases-loop-target l = length l.targets
