use Rattle.std.proofs.Common.{◌≡◌, drop}
use Rattle.dfuse_host.specs.Refusing.{has_empty}
use Rattle.dfuse_host.proofs.refusing.has_empty.Given as goal

abbrev pub invariant-loop-element : goal.invariant-loop-element
invariant-loop-element l = has_empty l.image ≡ has_empty (drop l.element-index l.image)
