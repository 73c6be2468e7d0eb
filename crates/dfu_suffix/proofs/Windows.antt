-- The window contains the last 16 bytes of a stream that is preceded by 16 zeros.
use Rattle.std.proofs.Common.{◌≡◌, ℕ, ◌+◌, ◌-◌, ◌≤◌, List, ◌++◌, length, drop, replicate, sym, ap, ◌∙◌, arith, length-append}
use Rattle.std.proofs.lemmas.List.{append_assoc, drop-append-le, drop-drop}
use Rattle.dfu_suffix.specs.Grammar.{tail_of}

-- The last 16 bytes of 16 zeros and `seen`.
abbrev pub window_of : List ℕ → List ℕ
window_of seen = drop (length seen) (replicate 16 0 ++ seen)

-- If a piece is appended to the window, and as many bytes are removed from its front, the result is the window of the stream with this
-- piece.
pub window_slides_over_piece : (seen more : List ℕ) → drop (length more) (window_of seen ++ more) ≡ window_of (seen ++ more)
window_slides_over_piece seen more =
    let room : length seen ≤ length (replicate 16 0 ++ seen) = omega (arith, length-append (replicate 16 0) seen) in
    ap (drop (length more)) (sym (drop-append-le (length seen) (replicate 16 0 ++ seen) more room))
    ∙ (drop-drop (length more) (length seen) ((replicate 16 0 ++ seen) ++ more)
    ∙ (ap (λ (k : ℕ). drop k ((replicate 16 0 ++ seen) ++ more)) (sym (length-append seen more))
    ∙ ap (drop (length (seen ++ more))) (append_assoc (replicate 16 0) seen more)))

-- With 16 bytes or more, the window is their last 16.
pub long_window_is_tail : (seen : List ℕ) → 16 ≤ length seen → window_of seen ≡ tail_of seen
long_window_is_tail seen h =
    let place : length seen ≡ 16 + (length seen - 16) = omega arith in
    ap (λ (k : ℕ). drop k (replicate 16 0 ++ seen)) place ∙ sym (drop-drop (length seen - 16) 16 (replicate 16 0 ++ seen))

-- The last four bytes of the tail are the last four of all bytes.
pub tail_ends_in_last_four : (seen : List ℕ) → 16 ≤ length seen → drop 12 (tail_of seen) ≡ drop (length seen - 4) seen
tail_ends_in_last_four seen h =
    let place : length seen - 16 + 12 ≡ length seen - 4 = omega arith in
    drop-drop 12 (length seen - 16) seen ∙ ap (λ (k : ℕ). drop k seen) place
