use Rattle.std.proofs.Common.{sym, ◌≡◌, false}
use Rattle.std.specs.Prelude.{codes}
use Rattle.std.specs.Str.{bytes_eq}
use Rattle.dfu_link.proofs.WordLaws.{hex_test_decides_word}
use Rattle.dfu_link.proofs.scripting.fields.is_hex_text.Goals as goal

pub returns-then-word-eq0 : goal.returns-then-word-eq0
returns-then-word-eq0 c =
    let off : bytes_eq c.args.word.now (codes "-") ≡ false = sym c.if-is_word.ensures in
    hex_test_decides_word c.args.word.now c.are_digits.result c.if-word-eq0.true off c.are_digits.ensures
