-- Lemmas about buffers that begin with bytes and end with zeros.
use Rattle.std.proofs.Common.{◌≡◌, ℕ, ◌+◌, ◌-◌, ◌≤◌, List, ◌++◌, length, take, drop, replicate, sym, ◌∙◌, ap, arith}
use Rattle.std.proofs.lemmas.List.{drop-replicate, take-replicate}
use Rattle.dfu_slots.proofs.WritesWithinRanges.{take_past_first_list}

-- After bytes are copied to the front of a buffer of zeros, the buffer holds those bytes and then zeros.
pub copied_buffer_is_padded : (bytes copied : List ℕ) (most : ℕ) → copied ≡ bytes
    → copied ++ drop (length bytes) (replicate most 0) ≡ bytes ++ replicate (most - length bytes) 0
copied_buffer_is_padded bytes copied most is = λ i. is i ++ drop-replicate (length bytes) most 0 i

-- If a buffer holds copied bytes and then zeros, its first `size` bytes are the copied bytes and then zeros.
pub zeroed_buffer_begins_padded : (bytes : List ℕ) (size most : ℕ) → length bytes ≤ size → size ≤ most
    → take size (bytes ++ replicate (most - length bytes) 0) ≡ bytes ++ replicate (size - length bytes) 0
zeroed_buffer_begins_padded bytes size most fits le =
    take_past_first_list bytes (replicate (most - length bytes) 0) size fits
    ∙ ap (λ (l : List ℕ). bytes ++ l) (take-replicate (size - length bytes) (most - length bytes) 0 (omega (arith, le)))

-- The first n bytes of a buffer of 4096 are the copied bytes and then zeros, if at most 256 of them are zeros.
pub buffer_front_is_bytes_and_zeros : (bytes buffer : List ℕ) (n : ℕ) → n ≤ 4096 → length bytes ≤ n → n ≤ length bytes + 256
    → buffer ≡ bytes ++ replicate (4096 - length bytes) 0 → take n buffer ≡ take n (bytes ++ replicate 256 0)
buffer_front_is_bytes_and_zeros bytes buffer n short fits few is =
    ap (λ (l : List ℕ). take n l) is ∙ zeroed_buffer_begins_padded bytes n 4096 fits short
    ∙ sym (take_past_first_list bytes (replicate 256 0) n fits
    ∙ ap (λ (l : List ℕ). bytes ++ l) (take-replicate (n - length bytes) 256 0 (omega (arith, few))))
