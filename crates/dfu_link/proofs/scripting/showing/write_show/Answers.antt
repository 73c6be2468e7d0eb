use Rattle.std.proofs.Common.{refl}
use Rattle.dfu_link.specs.Texts.{image_line}
use Rattle.dfu_link.proofs.WriteLaws.{both_texts_are_written, both_texts_fail}
use Rattle.dfu_link.proofs.scripting.showing.write_show.Goals as goal

pub returns-in_err-write_state : goal.returns-in_err-write_state
returns-in_err-write_state g c = both_texts_fail (image_line c.args.device.now) c.in_err-write_state.ensures c.from_residual.ensures.1 refl

pub returns : goal.returns
returns g c = both_texts_are_written c.in_ok-write_state.ensures c.write_image.ensures refl
