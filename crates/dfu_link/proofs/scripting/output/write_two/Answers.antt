use Rattle.dfu_link.proofs.WriteLaws.{both_texts_are_written, both_texts_fail}
use Rattle.dfu_link.proofs.scripting.output.write_two.Goals as goal

pub returns-in_err-write_out : goal.returns-in_err-write_out
returns-in_err-write_out g c = both_texts_fail c.args.last.now c.in_err-write_out.ensures c.from_residual.ensures.1 cc

pub returns : goal.returns
returns g c = both_texts_are_written c.in_ok-write_out.ensures c.write_out-2.ensures cc
