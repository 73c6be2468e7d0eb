use Rattle.std.proofs.Common.{◌++◌}
use Rattle.std.specs.Prelude.{codes}
use Rattle.dfu_wire.specs.Code.{code_name}
use Rattle.dfu_device.specs.Stage.{code_of}
use Rattle.dfu_link.proofs.WriteLaws.{both_texts_are_written, both_texts_fail}
use Rattle.dfu_link.proofs.scripting.showing.write_state.Goals as goal

pub returns-in_err-write_three : goal.returns-in_err-write_three
returns-in_err-write_three g c =
    both_texts_fail (code_name (code_of c.args.device.now.stage) ++ codes " ") c.in_err-write_three.ensures c.from_residual.ensures.1 cc

pub returns : goal.returns
returns g c = both_texts_are_written c.in_ok-write_three.ensures c.write_two.ensures cc
