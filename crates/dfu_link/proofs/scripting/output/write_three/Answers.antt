use Rattle.dfu_link.proofs.WriteLaws.{both_texts_are_written, both_texts_fail}
use Rattle.dfu_link.proofs.scripting.output.write_three.Goals as goal

pub returns-in_err-write_two : goal.returns-in_err-write_two
returns-in_err-write_two g c = both_texts_fail c.args.last.now c.in_err-write_two.ensures c.from_residual.ensures.1 cc

pub returns : goal.returns
returns g c = both_texts_are_written c.in_ok-write_two.ensures c.write_out.ensures cc
