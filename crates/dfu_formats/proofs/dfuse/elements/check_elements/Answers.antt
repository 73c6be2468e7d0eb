use Rattle.std.proofs.Common.{◌+◌, ◌-◌, sym, ap, ◌∙◌, arith}
use Rattle.dfu_formats.specs.dfuse.Reading.{SplitElement}
use Rattle.dfu_formats.proofs.WalkLaws.{loop_answer_of_rest, loop_answer_at_count, fault_of_elements, faultless_element_is_passed, element_fault_is_elements_fault, bytes_after_elements_are_fault}
use Rattle.dfu_formats.proofs.dfuse.elements.check_elements.Goals as goal

pub returns-in-Err : goal.returns-in-Err
returns-in-Err c =
    let n = c.args.count - (c.loop.counter + 1) in
    sym (loop_answer_of_rest fault_of_elements _ _ _ c.loop.rest.now _ c.loop-test.true c.loop.invariant
    (element_fault_is_elements_fault n c.loop.rest.now c.in-Err.fault (sym c.take_element.ensures ∙ c.in-Err.is)))

pub loop-preserved : goal.loop-preserved
loop-preserved c =
    let n = c.args.count - (c.loop.counter + 1) in
    loop_answer_of_rest fault_of_elements _ _ _ c.loop.rest.now _ c.loop-test.true c.loop.invariant
    (faultless_element_is_passed n c.loop.rest.now c.in-Ok.split (sym c.take_element.ensures ∙ c.in-Ok.is)
    ∙ ap (λ (s : SplitElement). fault_of_elements n s.rest) (sym c.split.view_is))

pub returns : goal.returns
returns c = c.check_end.ensures
    ∙ sym (loop_answer_at_count fault_of_elements _ _ _ c.loop.rest.now _ (omega (arith, c.loop-test.false)) c.loop.invariant
    (bytes_after_elements_are_fault c.loop.rest.now))
