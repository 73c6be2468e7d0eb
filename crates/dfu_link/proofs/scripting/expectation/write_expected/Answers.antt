use Rattle.std.proofs.Common.{◌∷◌, []}
use Rattle.dfu_link.proofs.ExpectLaws.{prefix_fault_fails_text}
use Rattle.dfu_link.proofs.scripting.expectation.write_expected.Goals as goal

pub returns-in_err-write_out : goal.returns-in_err-write_out
returns-in_err-write_out g c =
    prefix_fault_fails_text (c.in-Some.field-0-0.now ∷ []) c.in_err-write_out.ensures c.from_residual.ensures.1 c.in-Some.ensures.cases.0
