use Rattle.std.proofs.Common.{◌≡◌, drop}
use Rattle.dfu_formats.specs.images.Elements.{shared_address}
use Rattle.dfu_formats.proofs.images.gathering.shared.Given as goal

abbrev pub invariant-loop-element : goal.invariant-loop-element
invariant-loop-element l = shared_address 0 l.elements ≡ shared_address l.end (drop l.element-index l.elements)
