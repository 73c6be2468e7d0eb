use Rattle.std.proofs.Common.{◌≡◌, max, drop}
use Rattle.dfuse_host.specs.Images.{image_end}
use Rattle.dfuse_host.proofs.image.image_end.Given as goal

abbrev pub invariant-loop-element : goal.invariant-loop-element
invariant-loop-element l = image_end l.image ≡ max l.end (image_end (drop l.element-index l.image))
