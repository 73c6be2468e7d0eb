use Rattle.std.proofs.Common.{◌≡◌, drop}
use Rattle.dfuse_host.specs.Images.{element_at}
use Rattle.dfuse_host.proofs.image.element_at.Given as goal

abbrev pub invariant-loop-element : goal.invariant-loop-element
invariant-loop-element l = element_at l.at l.image ≡ element_at l.at (drop l.element-index l.image)
