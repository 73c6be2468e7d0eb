use Rattle.std.proofs.Common.{◌≡◌, ◌+◌, drop}
use Rattle.dfu_formats.specs.images.Elements.{element_place}
use Rattle.dfu_formats.proofs.images.gathering.place_of.Given as goal

abbrev pub invariant-loop-element : goal.invariant-loop-element
invariant-loop-element l = (l.count ≡ l.element-index) ×
    (element_place l.address l.elements ≡ l.count + element_place l.address (drop l.count l.elements))
