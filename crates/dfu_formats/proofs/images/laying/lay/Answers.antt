use Rattle.std.proofs.Common.{◌+◌, List, [], ◌∷◌, ℕ, length, drop, refl, sym, ap, ◌∙◌, subst, arith}
use Rattle.dfu_formats.specs.images.Elements.{Piece}
use Rattle.dfu_formats.specs.images.Laying.{laid_bytes, lowest_address}
use Rattle.dfu_formats.proofs.LayLaws.{LaidRestMakesWhole, nothing_laid_makes_whole, next_piece_not_before_end, part_fault_is_laying_fault, laid_part_makes_whole, all_laid_is_whole, apart_from_lowest_address, drop_from_next_piece, drop_past_all_pieces}
use Rattle.dfu_formats.proofs.images.laying.lay.Goals as goal

pub loop-element-init : goal.loop-element-init
loop-element-init c =
    let all = c.args.elements.now in
    let base = nothing_laid_makes_whole c.args.fill (lowest_address all) all (apart_from_lowest_address all (lowest_address all) refl
    c.requires) in
    let there = subst (λ (end : ℕ). LaidRestMakesWhole (laid_bytes c.args.fill 0 (lowest_address all) all) c.args.fill [] end all)
    (sym c.lowest-end.ensures) base in
    record {
      few = omega (arith, ap length c.new-bytes.ensures.items);
      on = subst (λ (bytes : List ℕ). LaidRestMakesWhole (laid_bytes c.args.fill 0 (lowest_address all) all) c.args.fill bytes
          c.lowest-end.result all)
          (sym c.new-bytes.ensures.items) there;
    }

pub with_part-requires-clause-ahead : goal.with_part-requires-clause-ahead
with_part-requires-clause-ahead c =
    let all = c.args.elements.now in
    let i = c.loop-element.element-index in
    let p = c.element-item.result in
    let e = drop_from_next_piece all i (i + 1) p (omega arith) c.loop-element-test.true
    ∙ ap (λ (q : Piece). q ∷ drop (i + 1) all) (sym c.element-item.is) in
    next_piece_not_before_end _ _ _ _ p (drop (i + 1) all) _ e c.loop-element.invariant.on

pub returns-in-Err-clause-value : goal.returns-in-Err-clause-value
returns-in-Err-clause-value c =
    let all = c.args.elements.now in
    let i = c.loop-element.element-index in
    let p = c.element-item.result in
    let e = drop_from_next_piece all i (i + 1) p (omega arith) c.loop-element-test.true
    ∙ ap (λ (q : Piece). q ∷ drop (i + 1) all) (sym c.element-item.is) in
    part_fault_is_laying_fault c.in-Err.fault _ _ _ _ p (drop (i + 1) all) _ e c.loop-element.invariant.on c.in-Err.ensures.value

pub loop-element-preserved : goal.loop-element-preserved
loop-element-preserved c =
    let all = c.args.elements.now in
    let i = c.loop-element.element-index in
    let p = c.element-item.result in
    let e = drop_from_next_piece all i (i + 1) p (omega arith) c.loop-element-test.true
    ∙ ap (λ (q : Piece). q ∷ drop (i + 1) all) (sym c.element-item.is) in
    let on = laid_part_makes_whole _ _ _ c.in-Ok.next.items _ p (drop (i + 1) all) _ e c.loop-element.invariant.on c.in-Ok.ensures.value in
    record {
      few = c.in-Ok.ensures.at_most_16_mib;
      on =
          subst (λ (end : ℕ). LaidRestMakesWhole (laid_bytes c.args.fill 0 (lowest_address all) all) c.args.fill c.in-Ok.next.items end
          (drop (i + 1) all))
          (sym c.end-end.ensures.value) on;
    }

pub returns-clause-value : goal.returns-clause-value
returns-clause-value c =
    all_laid_is_whole _ _ _ _ _ (drop_past_all_pieces c.args.elements.now c.loop-element.element-index c.loop-element-test.false)
    c.loop-element.invariant.on
