-- Lemmas about the bytes that a put holds back.
use Rattle.std.proofs.Common.{◌≡◌, ◌≢◌, ℕ, ◌+◌, ◌-◌, ◌%◌, ◌≤◌, ◌<◌, min, List, ◌++◌, length, take, drop, ⊎_elim, sym, ◌∙◌, ap, arith, length-append}
use Rattle.std.proofs.lemmas.Bool.{cases_lt}
use Rattle.std.proofs.lemmas.List.{append-nil, drop_at, length-take-le, take-append-le, take-take}
use Rattle.dfu_slots.specs.declared.layout.Unit.{Unit as WriteUnit}
use Rattle.dfu_slots.specs.Units.{unit_size, whole_part}
use Rattle.dfu_slots.specs.Medium.{written}
use Rattle.dfu_slots.specs.Writes.{put_rest}
use Rattle.dfu_slots.proofs.BytesOutsideWrite.{drop_in_two_steps}
use Rattle.dfu_slots.proofs.WritesWithinRanges.{take_past_first_list}
use Rattle.dfu_slots.proofs.Multiples.{rest_at_most_length, whole_part_is_multiple, multiple_has_a_unit}

-- If a put completes a unit, the bytes held back afterwards are the last bytes of the block.
pub rest_ends_block : (u : WriteUnit) (held bytes : List ℕ) (n size : ℕ) → n ≡ length held → size ≡ unit_size u → length held < unit_size u
    → (n + length bytes) % size ≢ n + length bytes
    → drop (length bytes - (n + length bytes) % size) bytes ≡ put_rest u held bytes
rest_ends_block u held bytes n size n_is size_is part more =
    let all = length held + length bytes in
    let rest : (n + length bytes) % size ≡ all % unit_size u = λ i. (n_is i + length bytes) % size_is i in
    let le = rest_at_most_length u all in
    let some : 0 < all - all % unit_size u = omega (arith, le, rest, n_is, more) in
    let full = multiple_has_a_unit u (all - all % unit_size u) (whole_part_is_multiple u all) some in
    let whole : whole_part u (length (held ++ bytes)) ≡ all - all % unit_size u = ap (λ (k : ℕ). whole_part u k) (length-append held bytes) in
    let k = whole_part u (length (held ++ bytes)) in
    let e : length bytes - (n + length bytes) % size ≡ k - length held = omega (arith, whole, rest, full, part, le) in
    ap (λ (j : ℕ). drop j bytes) e
    ∙ sym (drop_in_two_steps (held ++ bytes) (length held) k (omega (arith, whole, full, part))
    ∙ ap (λ (l : List ℕ). drop (k - length held) l) (drop_at held bytes (length held) (omega arith)))

-- After the held bytes are written at `at`, the first `len` bytes of the data are old data bytes up to `at`, followed by held bytes.
pub front_splits_at_held_bytes : (d held : List ℕ) (at len front : ℕ) → front ≡ min at len → at ≤ length d → len ≤ at + length held
    → take front d ++ take (len - front) held ≡ take len (written d at held)
front_splits_at_held_bytes d held at len front is fits le =
    let size = length-take-le at d fits in
    let cut = take-append-le len (take at d ++ held) (drop (at + length held) d) (omega (arith, size, le, length-append (take at d) held)) in
    ⊎_elim
    (λ lt.
    let here : front ≡ at = omega (arith, is, lt) in
    (λ i. take (here i) d ++ take (len - (here ∙ sym size) i) held)
    ∙ sym (cut ∙ take_past_first_list (take at d) held len (omega (arith, size, lt))))
    (λ ge.
    let here : front ≡ len = omega (arith, is, ge) in
    let none : len - front ≡ 0 = omega (arith, here) in
    (λ i. take (here i) d ++ take (none i) held)
    ∙ append-nil (take len d)
    ∙ sym (cut ∙ take-append-le len (take at d) held (omega (arith, size, ge)) ∙ take-take len at d ge))
    (cases_lt at len)
