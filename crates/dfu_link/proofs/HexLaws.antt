-- Lemmas about hexadecimal text that is written piece by piece.
use Rattle.std.proofs.Common.{◌≡◌, ℕ, ◌+◌, ◌-◌, ◌/◌, ◌%◌, slice_index, List, [], ◌∷◌, ◌++◌, length, take, drop, Option, Result, Ok, Err, refl, sym, ap, ◌∙◌, arith}
use Rattle.std.specs.List.{slice_range}
use Rattle.std.specs.Prelude.{IsErrAnd}
use Rattle.std.proofs.lemmas.List.{take-append-drop}
use Rattle.std.proofs.Math.Seq.{take-add}
use Rattle.std.proofs.KnownBytes.{Appends-nil}
use Rattle.hex.specs.Hex.{encode_with, encode_lower, lower_digits}
use Rattle.dfu_link.specs.Texts.{hex_text}
use Rattle.dfu_link.specs.inside.Expected.{WriteEnds}
use Rattle.dfu_link.specs.declared.scripting.fault.ScriptFault.{ScriptFault}
use Rattle.dfu_link.proofs.WriteLaws.{both_texts_are_written, both_texts_fail}

-- The digits of two joined lists of bytes are the digits of the first followed by those of the second.
encode-append : (t xs ys : List ℕ) → encode_with t (xs ++ ys) ≡ encode_with t xs ++ encode_with t ys
unfolding encode_with
encode-append t [] ys = refl
encode-append t (x ∷ xs) ys = ap (λ (rest : List ℕ). slice_index t (x / 16) ∷ slice_index t (x % 16) ∷ rest) (encode-append t xs ys)

-- The first bytes followed by the next piece are the bytes up to the end of that piece.
next_piece_extends_prefix : (bytes : List ℕ) (at n : ℕ) → take (at + n) bytes ≡ take at bytes ++ slice_range bytes at (at + n)
next_piece_extends_prefix bytes at n =
    let same : at + n - at ≡ n = omega arith in
    take-add at n bytes ∙ ap (λ (k : ℕ). take at bytes ++ take k (drop at bytes)) (sym same)

-- The digits of the first bytes, followed by the digits of the next piece, are the digits of both joined.
next_piece_extends_digits : (bytes : List ℕ) (at n : ℕ) → encode_lower (take (at + n) bytes) ≡ encode_lower (take at bytes)
    ++ encode_lower (slice_range bytes at (at + n))
next_piece_extends_digits bytes at n = ap encode_lower (next_piece_extends_prefix bytes at n)
    ∙ encode-append lower_digits (take at bytes) (slice_range bytes at (at + n))

-- The digits of bytes are the digits of a prefix, followed by the digits of the rest.
digits_split_at_place : (bytes : List ℕ) (at : ℕ) → encode_lower bytes ≡ encode_lower (take at bytes) ++ encode_lower (drop at bytes)
digits_split_at_place bytes at = ap encode_lower (sym (take-append-drop at bytes))
    ∙ encode-append lower_digits (take at bytes) (drop at bytes)

-- If the digits of the first bytes and then those of the next piece are written, the digits of all bytes up to the end of the piece are
-- written.
pub written_piece_adds_digits : {old mid new : Option (List ℕ)} {r : Result Unit ScriptFault} (bytes : List ℕ) (at n : ℕ)
    → WriteEnds (encode_lower (take at bytes)) old mid (Ok tt) → WriteEnds (encode_lower (slice_range bytes at (at + n))) mid new r
    → WriteEnds (encode_lower (take (at + n) bytes)) old new r
written_piece_adds_digits bytes at n told piece = both_texts_are_written told piece (next_piece_extends_digits bytes at n)

-- If the writer fails in the digits of a piece after those of the first bytes, it fails in the digits of all bytes.
pub piece_stops_digits : {old mid new : Option (List ℕ)} {f : ScriptFault} {r : Result Unit ScriptFault} (bytes : List ℕ) (at n : ℕ)
    → WriteEnds (encode_lower (take at bytes)) old mid (Ok tt)
    → WriteEnds (encode_lower (slice_range bytes at (at + n))) mid new (Err f)
    → IsErrAnd r (λ e. e ≡ f) → WriteEnds (encode_lower bytes) old new r
piece_stops_digits bytes at n told piece same =
    both_texts_fail (encode_lower (drop (at + n) bytes)) (written_piece_adds_digits bytes at n told piece) same (digits_split_at_place
    bytes (at + n))

-- The digits of no bytes are written without any write.
pub no_digits_are_written : (old : Option (List ℕ)) → WriteEnds (encode_lower []) old old (Ok tt)
unfolding encode_with
no_digits_are_written old = record { ok = Appends-nil old; err = tt; fault = tt }

-- Bytes that are not empty are printed as their digits.
pub nonempty_hex_text_is_digits : (bytes : List ℕ) → (length bytes ≡ 0 → ⊥) → hex_text bytes ≡ encode_lower bytes
nonempty_hex_text_is_digits [] some = absurd (some refl)
nonempty_hex_text_is_digits (byte ∷ bytes) some = refl
