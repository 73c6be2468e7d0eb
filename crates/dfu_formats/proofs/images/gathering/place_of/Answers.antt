use Rattle.std.proofs.Common.{◌+◌, ◌∙◌, ap, sym, arith, get_or, ℕ}
use Rattle.dfu_formats.specs.images.Elements.{Piece}
use Rattle.dfu_formats.proofs.PlaceLaws.{element_place_at_next, element_place_ends_here, element_place_past_end}
use Rattle.dfu_formats.proofs.images.gathering.place_of.Goals as goal

pub returns-then-address-clause-value : goal.returns-then-address-clause-value
returns-then-address-clause-value c =
    let i = c.loop-element.invariant in
    let x = c.element-item.result in
    let here = ap (λ (p : Piece). p.address) (c.element-item.is ∙ ap (λ (k : ℕ). get_or c.args.elements.now k x) (sym i.0)) in
    let none = element_place_ends_here c.args.address c.args.elements.now c.loop-element.count x (omega (
      arith,
      i.0,
      c.loop-element-test.true,
    ))
    (omega (arith, here, c.address.ensures, c.if-address.true)) in
    omega (arith, i.1, none)

pub loop-element-preserved : goal.loop-element-preserved
loop-element-preserved c =
    let i = c.loop-element.invariant in
    let x = c.element-item.result in
    let here = ap (λ (p : Piece). p.address) (c.element-item.is ∙ ap (λ (k : ℕ). get_or c.args.elements.now k x) (sym i.0)) in
    let more = element_place_at_next c.args.address c.args.elements.now c.loop-element.count (c.loop-element.count + 1) x (omega arith)
    (omega (arith, i.0, c.loop-element-test.true)) (omega (arith, here, c.address.ensures, c.if-address.false)) in
    (omega (arith, i.0), i.1 ∙ more)

pub returns-clause-value : goal.returns-clause-value
returns-clause-value c =
    let i = c.loop-element.invariant in
    let none = element_place_past_end c.args.address c.args.elements.now c.loop-element.count (omega (
      arith,
      i.0,
      c.loop-element-test.false,
    )) in
    omega (arith, i.1, none)
