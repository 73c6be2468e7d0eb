use Rattle.std.proofs.Common.{◌∷◌, [], ◌++◌, refl}
use Rattle.dfu_link.specs.Texts.{hex_text}
use Rattle.dfu_link.proofs.WriteLaws.{both_texts_are_written, both_texts_fail}
use Rattle.dfu_link.proofs.scripting.saying.say_uploaded.Goals as goal

pub returns-in_err-write_out : goal.returns-in_err-write_out
returns-in_err-write_out g c =
    both_texts_fail (hex_text c.args.bytes.now ++ 10 ∷ []) c.in_err-write_out.ensures c.from_residual.ensures.1 refl

pub returns : goal.returns
returns g c = both_texts_are_written c.in_ok-write_out.ensures c.write_bytes.ensures refl
