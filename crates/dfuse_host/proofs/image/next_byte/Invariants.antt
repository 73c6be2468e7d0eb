use Rattle.std.proofs.Common.{◌≡◌, drop}
use Rattle.dfuse_host.specs.Images.{next_byte}
use Rattle.dfuse_host.proofs.image.next_byte.Given as goal

abbrev pub invariant-loop-element : goal.invariant-loop-element
invariant-loop-element l = next_byte l.at l.image ≡ next_byte l.at (drop l.element-index l.image)
