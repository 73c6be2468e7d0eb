use Rattle.std.proofs.Common.{◌≡◌, ℕ, List, ◌∷◌, [], ◌++◌, ◌==◌, length, false, sym, ap, ◌∙◌, arith}
use Rattle.std.proofs.lemmas.Bool.Decides.{nat_tests}
use Rattle.hex.specs.Hex.{encode_lower}
use Rattle.dfu_link.specs.Texts.{hex_text}
use Rattle.dfu_link.proofs.WriteLaws.{both_texts_are_written, both_texts_fail}
use Rattle.dfu_link.proofs.HexLaws.{nonempty_hex_text_is_digits}
use Rattle.dfu_link.proofs.scripting.output.write_bytes.Goals as goal

pub returns-in_err-write_all_digits : goal.returns-in_err-write_all_digits
returns-in_err-write_all_digits g c =
    let bytes = c.args.bytes.now in
    let filled : (length bytes == 0) ≡ false = sym c.is_empty.ensures ∙ c.if-is_empty.false in
    let some : hex_text bytes ≡ encode_lower bytes = nonempty_hex_text_is_digits bytes (λ none. absurd (grind (arith, nat_tests))) in
    both_texts_fail (10 ∷ []) c.in_err-write_all_digits.ensures c.from_residual.ensures.1 (ap (λ (xs : List ℕ). xs ++ 10 ∷ []) some)

pub returns : goal.returns
returns g c =
    let bytes = c.args.bytes.now in
    let filled : (length bytes == 0) ≡ false = sym c.is_empty.ensures ∙ c.if-is_empty.false in
    let some : hex_text bytes ≡ encode_lower bytes = nonempty_hex_text_is_digits bytes (λ none. absurd (grind (arith, nat_tests))) in
    both_texts_are_written c.in_ok-write_all_digits.ensures c.write_out.ensures (ap (λ (xs : List ℕ). xs ++ 10 ∷ []) some)
