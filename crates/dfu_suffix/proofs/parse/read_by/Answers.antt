use Rattle.std.proofs.Common.{arith, ◌∙◌, sym}
use Rattle.dfu_suffix.proofs.OneReading.{fault_of_reading_is_first, grammar_file_is_read}
use Rattle.dfu_suffix.proofs.FileLaws.{each_value_gives_if_ok, read_content_is_of_file}
use Rattle.dfu_suffix.proofs.parse.read_by.Goals as goal

pub returns-clause-found : goal.returns-clause-found
returns-clause-found c = each_value_gives_if_ok c.parse.result _ (λ f e. read_content_is_of_file c.args.bytes.now f
    (λ k. omega (arith, c.type_inv.bytes k)) (sym c.parse.ensures ∙ e))

pub returns-clause-only : goal.returns-clause-only
returns-clause-only c = λ payload ids dfu extra h. c.parse.ensures ∙ grammar_file_is_read payload ids dfu extra c.args.bytes.now h

pub returns-clause-fault : goal.returns-clause-fault
returns-clause-fault c = λ f. (
  λ e. (fault_of_reading_is_first c.args.bytes.now f).0 (sym c.parse.ensures ∙ e),
  λ h. c.parse.ensures
      ∙ (fault_of_reading_is_first c.args.bytes.now f).1 h,
)
