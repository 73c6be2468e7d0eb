-- Series of writes of which only the first bytes are written.
use Rattle.std.proofs.Common.{◌≡◌, inl, inr, ℕ, ◌+◌, ◌-◌, ◌≤◌, ◌<◌, List, [], ◌∷◌, ◌++◌, length, take, slice_index, refl, sym, ◌∙◌, ap, subst, arith}
use Rattle.std.proofs.lemmas.List.{length-take}
use Rattle.dfu_slots.specs.Medium.{Write, written}
use Rattle.dfu_slots.proofs.BytesOutsideWrite.{whole_write_is_torn, byte_kept_outside_write}
use Rattle.dfu_slots.proofs.Series.{AllWritesInside}
use Rattle.dfu_asks.specs.Steps.{Step, step_writes}
use Rattle.dfu_asks.specs.Carried.{total, bytes_after_writes, WritesWithin, EndsAtPiece}
use Rattle.dfu_asks.proofs.SeriesBytes.{no_bytes_carried}
use Rattle.dfu_asks.proofs.Bits.{IsPartOfWrites}

-- A series of writes doesn't change the bytes before its range.
pub byte_before_series_stays : (ws : List Write) (m : List ℕ) (n i to : ℕ) → to ≤ length m → AllWritesInside (i + 1) to ws
    → slice_index (bytes_after_writes m ws n) i ≡ slice_index m i
byte_before_series_stays [] m n i to room inside = refl
byte_before_series_stays (w ∷ ws) m n i to room (low, high, inside) =
    let front = take n w.bytes in
    let fits : w.at + length front ≤ length m = omega (arith, length-take n w.bytes, high, room) in
    let torn = whole_write_is_torn m w.at front fits in
    byte_before_series_stays ws (written m w.at front) (n - length w.bytes) i to (omega (arith, torn.size, room)) inside
    ∙ byte_kept_outside_write w.at (w.at + length front) m (written m w.at front) i torn (inl (omega (arith, low)))

-- A series within a medium doesn't change the medium's length.
pub series_keeps_length : (ws : List Write) (m : List ℕ) (n : ℕ) → WritesWithin ws (length m) → length (bytes_after_writes m ws n)
    ≡ length m
series_keeps_length [] m n inside = refl
series_keeps_length (w ∷ ws) m n (high, inside) =
    let front = take n w.bytes in
    let size = (whole_write_is_torn m w.at front (omega (arith, length-take n w.bytes, high))).size in
    series_keeps_length ws (written m w.at front) (n - length w.bytes) (subst (λ (k : ℕ). WritesWithin ws k) (sym size) inside) ∙ size

-- The last write of a series has no effect until all bytes of the earlier writes are written.
pub last_write_has_no_effect_yet : (ws : List Write) (v : Write) (m : List ℕ) (n : ℕ) → n ≤ total ws
    → bytes_after_writes m (ws ++ v ∷ []) n ≡ bytes_after_writes m ws n
last_write_has_no_effect_yet [] v m n le =
    let none : n ≡ 0 = omega (arith, le) in
    ap (λ (k : ℕ). bytes_after_writes m (v ∷ []) k) none ∙ no_bytes_carried (v ∷ []) m
last_write_has_no_effect_yet (w ∷ ws) v m n le =
    last_write_has_no_effect_yet ws v (written m w.at (take n w.bytes)) (n - length w.bytes) (omega (arith, le))

-- Writing two joined lists has the same effect as writing the first, and then the second.
pub lists_carried_one_after_other : (xs ys : List Write) (m : List ℕ) (n : ℕ)
    → bytes_after_writes m (xs ++ ys) n ≡ bytes_after_writes (bytes_after_writes m xs n) ys (n - total xs)
lists_carried_one_after_other [] ys m n = let e : n ≡ n - 0 = omega arith in ap (λ (k : ℕ). bytes_after_writes m ys k) e
lists_carried_one_after_other (x ∷ xs) ys m n =
    let e : n - length x.bytes - total xs ≡ n - (length x.bytes + total xs) = omega arith in
    let mid = written m x.at (take n x.bytes) in
    lists_carried_one_after_other xs ys mid (n - length x.bytes)
    ∙ ap (λ (k : ℕ). bytes_after_writes (bytes_after_writes mid xs (n - length x.bytes)) ys k) e

-- A last step of at most 256 bytes is written in a single piece.
pub last_step_is_one_piece : (ss : List Step) (v : Step) (n : ℕ) → length v.write.bytes ≤ 256 → EndsAtPiece (ss ++ v ∷ []) n
    → n < total (step_writes (ss ++ v ∷ [])) → n ≤ total (step_writes ss)
last_step_is_one_piece [] v n few (inl part) left = omega (arith, part.0, part.1, few)
last_step_is_one_piece [] v n few (inr (past, more)) left = absurd (omega (arith, past, left))
last_step_is_one_piece (s ∷ ss) v n few (inl part) left = omega (arith, part.0)
last_step_is_one_piece (s ∷ ss) v n few (inr (past, more)) left =
    let rest = last_step_is_one_piece ss v (n - length s.write.bytes) few more (omega (arith, left, past)) in
    omega (arith, rest, past)

-- If the writes of a series lie within a range, each part of one of these writes lies within the range.
pub piece_lies_in_range : (ws : List Write) (n : ℕ) (p : Write) (from to : ℕ) → AllWritesInside from to ws → IsPartOfWrites ws n p
    → (from ≤ p.at) × (p.at + length p.bytes ≤ to)
piece_lies_in_range [] n p from to inside none = absurd none
piece_lies_in_range (w ∷ ws) n p from to (low, high, inside) (inl part) =
    (omega (arith, low, part.place), omega (arith, high, part.place, part.within))
piece_lies_in_range (w ∷ ws) n p from to (low, high, inside) (inr (past, piece)) = piece_lies_in_range ws (n - length w.bytes) p from to
    inside piece
