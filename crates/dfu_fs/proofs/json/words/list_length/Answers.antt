use Rattle.std.proofs.Common.{arith, sym, ◌∙◌}
use Rattle.dfu_fs.proofs.Ends.{list_length_is_0_at_line_end, list_length_counts_byte, list_length_is_0_at_events}
use Rattle.dfu_fs.proofs.json.words.list_length.Goals as goal

pub returns-then-starts_with-clause-value : goal.returns-then-starts_with-clause-value
returns-then-starts_with-clause-value c = omega (
  arith,
  c.bytes.invariant.0,
  list_length_is_0_at_events c.args.line.now c.bytes.count c.split_at.result.1.now
      c.split_at.ensures.back (omega (arith, c.bytes-test.true)) (sym c.starts_with.ensures.value ∙ c.if-starts_with.true),
)

pub bytes-preserved : goal.bytes-preserved
bytes-preserved c = (
  omega (
    arith,
    c.bytes.invariant.0,
    list_length_counts_byte c.args.line.now c.bytes.count c.split_at.result.1.now
        c.split_at.ensures.back (omega (arith, c.bytes-test.true)) (sym c.starts_with.ensures.value ∙ c.if-starts_with.false),
  ),
  omega (arith, c.bytes-test.true),
)

pub returns-clause-value : goal.returns-clause-value
returns-clause-value c = omega (
  arith,
  c.bytes.invariant.0,
  list_length_is_0_at_line_end c.args.line.now c.bytes.count (omega (
    arith,
    c.bytes-test.false,
  )),
)
