use Rattle.std.proofs.Common.{◌≡◌, drop}
use Rattle.dfu_formats.specs.dfuse.Images.{ascends_from}
use Rattle.dfuse_host.proofs.refusing.ascends.Given as goal

abbrev pub invariant-loop-element : goal.invariant-loop-element
invariant-loop-element l = ascends_from 0 l.image ≡ ascends_from l.start (drop l.element-index l.image)
