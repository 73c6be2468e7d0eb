use Rattle.std.proofs.Common.{◌≡◌, ◌+◌, ◌-◌, Ok, Err, sym, ap, ◌∙◌, subst, arith}
use Rattle.dfu_formats.specs.dfuse.Reading.{Heading}
use Rattle.dfu_formats.proofs.WalkLaws.{loop_answer_of_rest, loop_answer_at_count, fault_of_elements, fault_of_targets, faultless_target_is_passed, heading_fault_is_targets_fault, target_elements_fault_is_fault, bytes_after_targets_are_fault}
use Rattle.dfu_formats.proofs.dfuse.targets.check_targets.Goals as goal

pub returns-in-Err : goal.returns-in-Err
returns-in-Err c =
    let n = c.args.count - (c.loop.counter + 1) in
    sym (loop_answer_of_rest fault_of_targets _ _ _ c.loop.rest.now _ c.loop-test.true c.loop.invariant
    (heading_fault_is_targets_fault n c.loop.rest.now c.in-Err.fault (sym c.take_heading.ensures ∙ c.in-Err.is)))

pub returns-in-Err-check_elements : goal.returns-in-Err-check_elements
returns-in-Err-check_elements c =
    let n = c.args.count - (c.loop.counter + 1) in
    let its = subst (λ (h : Heading). fault_of_elements h.count h.content ≡ Err c.in-Err-check_elements.fault) c.heading.view_is
    (sym c.check_elements.ensures ∙ c.in-Err-check_elements.is) in
    sym (loop_answer_of_rest fault_of_targets _ _ _ c.loop.rest.now _ c.loop-test.true c.loop.invariant
    (target_elements_fault_is_fault n c.loop.rest.now c.in-Ok.heading c.in-Err-check_elements.fault (sym c.take_heading.ensures
    ∙ c.in-Ok.is) its))

pub loop-preserved : goal.loop-preserved
loop-preserved c =
    let n = c.args.count - (c.loop.counter + 1) in
    let its = subst (λ (h : Heading). fault_of_elements h.count h.content ≡ Ok tt) c.heading.view_is
    (sym c.check_elements.ensures ∙ c.in-Ok-check_elements.is) in
    loop_answer_of_rest fault_of_targets _ _ _ c.loop.rest.now _ c.loop-test.true c.loop.invariant
    (faultless_target_is_passed n c.loop.rest.now c.in-Ok.heading (sym c.take_heading.ensures ∙ c.in-Ok.is) its
    ∙ ap (λ (h : Heading). fault_of_targets n h.rest) (sym c.heading.view_is))

pub returns : goal.returns
returns c = c.check_end.ensures
    ∙ sym (loop_answer_at_count fault_of_targets _ _ _ c.loop.rest.now _ (omega (arith, c.loop-test.false)) c.loop.invariant
    (bytes_after_targets_are_fault c.loop.rest.now))
