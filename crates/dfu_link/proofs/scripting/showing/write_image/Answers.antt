use Rattle.std.proofs.Common.{◌∷◌, [], ◌++◌, refl}
use Rattle.dfu_slots.specs.StoreView.{image_of}
use Rattle.dfu_link.specs.Texts.{hex_text}
use Rattle.dfu_link.proofs.WriteLaws.{both_texts_are_written, both_texts_fail}
use Rattle.dfu_link.proofs.scripting.showing.write_image.Goals as goal

pub returns-in_err-write_out : goal.returns-in_err-write_out
returns-in_err-write_out g c =
    both_texts_fail (hex_text (image_of c.args.device.now.slots) ++ 10 ∷ []) c.in_err-write_out.ensures c.from_residual.ensures.1 refl

pub returns : goal.returns
returns g c = both_texts_are_written c.in_ok-write_out.ensures (rw c.slots.ensures.slots at c.write_hex.ensures) refl
