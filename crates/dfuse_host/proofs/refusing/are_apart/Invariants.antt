use Rattle.std.proofs.Common.{◌≡◌, drop}
use Rattle.dfuse_host.specs.Refusing.{apart_from}
use Rattle.dfuse_host.proofs.refusing.are_apart.Given as goal

abbrev pub invariant-loop-element : goal.invariant-loop-element
invariant-loop-element l = apart_from 0 l.image ≡ apart_from l.end (drop l.element-index l.image)
