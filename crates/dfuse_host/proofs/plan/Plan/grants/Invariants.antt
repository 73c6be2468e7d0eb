use Rattle.std.proofs.Common.{◌↔◌, drop}
use Rattle.dfuse_host.specs.Refusing.{EachAddressGranted}
use Rattle.dfuse_host.proofs.plan.Plan.grants.Given as goal

abbrev pub invariant-loop-element : goal.invariant-loop-element
invariant-loop-element l =
    EachAddressGranted l.wanted l.self.map.now.ranges l.self.image.now ↔ EachAddressGranted l.wanted l.self.map.now.ranges
    (drop l.element-index l.self.image.now)
