use Rattle.std.proofs.Common.{arith, sym, ◌∙◌}
use Rattle.dfu_output.proofs.FieldLists.{next_field_is_added, no_fields_leave_text}
use Rattle.dfu_output.proofs.fields.push_fields.Goals as goal

pub loop-label-preserved : goal.loop-label-preserved
loop-label-preserved c = sym (next_field_is_added _ c.loop-label.label-index _ _ _ (omega (arith, c.loop-label-test.true))
    c.in_ok-push_field.ensures)
    ∙ c.loop-label.invariant

pub returns : goal.returns
returns c = sym (no_fields_leave_text _ c.loop-label.label-index _ (omega (arith, c.loop-label-test.false))) ∙ c.loop-label.invariant
