use Rattle.std.proofs.Common.{◌≡◌, ℕ, List, ◌∷◌, [], ◌++◌, ap, arith}
use Rattle.hex.specs.Hex.{encode_lower}
use Rattle.dfu_slots.specs.StoreView.{image_of}
use Rattle.dfu_link.specs.Texts.{hex_text}
use Rattle.dfu_link.proofs.WriteLaws.{both_texts_are_written, both_texts_fail}
use Rattle.dfu_link.proofs.HexLaws.{nonempty_hex_text_is_digits}
use Rattle.dfu_link.proofs.scripting.showing.write_hex.Goals as goal

pub returns-in_err-write_pieces : goal.returns-in_err-write_pieces
returns-in_err-write_pieces g c =
    let image = image_of c.args.slots.now in
    let some : hex_text image ≡ encode_lower image = nonempty_hex_text_is_digits image (λ none. absurd (omega (arith, none))) in
    both_texts_fail (10 ∷ []) c.in_err-write_pieces.ensures c.from_residual.ensures.1 (ap (λ (xs : List ℕ). xs ++ 10 ∷ []) some)

pub returns : goal.returns
returns g c =
    let image = image_of c.args.slots.now in
    let some : hex_text image ≡ encode_lower image = nonempty_hex_text_is_digits image (λ none. absurd (omega (arith, none))) in
    both_texts_are_written c.in_ok-write_pieces.ensures c.write_out.ensures (ap (λ (xs : List ℕ). xs ++ 10 ∷ []) some)
