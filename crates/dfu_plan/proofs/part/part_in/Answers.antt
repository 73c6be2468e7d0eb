use Rattle.std.proofs.Common.{◌∙◌, arith, sym}
use Rattle.dfu_plan.proofs.Lines.{last_line, valid_line_is_passed, rest_of_lines_is_shorter, wrong_line_ends_table}
use Rattle.dfu_plan.proofs.part.part_in.Goals as goal

pub returns-in-Ok-Err : goal.returns-in-Ok-Err
returns-in-Ok-Err c =
    wrong_line_ends_table c.args.name.now _ c.lines.part c.in-Ok-Err.why c.lines.rest.now _ _ _ (omega (arith, c.lines-test.true)) c.next_line.ensures.line
    c.next_line.ensures.rest (sym c.in-Ok-Err.field-0-is ∙ c.in-Ok-Err.ensures) c.lines.invariant.read

pub lines-preserved : goal.lines-preserved
lines-preserved c = record {
  read =
      valid_line_is_passed c.args.name.now _ c.lines.part c.in-Ok-Ok.part c.lines.rest.now _ _ _ (omega (arith, c.lines-test.true))
      c.next_line.ensures.line c.next_line.ensures.rest (sym c.in-Ok-Ok.field-0-is ∙ c.in-Ok-Ok.ensures) c.lines.invariant.read;
  ahead = omega (
    arith,
    c.lines.invariant.ahead,
    rest_of_lines_is_shorter c.lines.rest.now c.next_line.result.1.now (omega (arith, c.lines-test.true)) c.next_line.ensures.rest,
  );
}

pub returns : goal.returns
returns c = last_line c.args.name.now _ c.lines.part c.lines.rest.now _ _ (omega (arith, c.lines-test.false)) c.lines.invariant.read
    c.part_if_known.ensures
