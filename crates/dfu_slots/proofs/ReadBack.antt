-- Lemmas about bytes that are read back piece by piece after a write.
use Rattle.std.proofs.Common.{◌≡◌, ◌↔◌, ℕ, ◌+◌, ◌-◌, ◌≤◌, List, [], ◌∷◌, ◌++◌, length, take, drop, slice_range, refl, sym, ◌∙◌, ap, subst, arith, length-append, length-drop}
use Rattle.std.proofs.lemmas.List.{length-take-le, take-append-drop, drop-drop, take_at, drop_at}
use Rattle.std.proofs.Math.Seq.{take-add}

-- Two lists of equal length agree in their first `at` elements.
pub record AreSameUpTo (read piece : List ℕ) (at : ℕ) : Type 0 where
  pub long : length read ≡ length piece
  pub within : at ≤ length piece
  pub same : take at read ≡ take at piece

-- The medium holds these bytes at offset `at`.
abbrev pub HasBytesAt : List ℕ → ℕ → List ℕ → Type 0
HasBytesAt m at bytes = slice_range m at (at + length bytes) ≡ bytes

-- The range of n bytes at offset `at` is what remains after dropping `at` bytes and taking n.
pub range_by_its_length : (m : List ℕ) (at n : ℕ) → slice_range m at (at + n) ≡ take n (drop at m)
range_by_its_length m at n = let e : at + n - at ≡ n = omega arith in ap (λ (k : ℕ). take k (drop at m)) e

-- Every medium holds the empty list at every offset.
pub empty_list_is_at_any_place : (m : List ℕ) (at : ℕ) → HasBytesAt m at []
empty_list_is_at_any_place m at = range_by_its_length m at 0

-- A range of a + b bytes is the range of the first a bytes followed by that of the next b.
range_is_two_pieces : (m : List ℕ) (at a b : ℕ) → slice_range m at (at + (a + b)) ≡ slice_range m at (at + a)
    ++ slice_range m (at + a) (at + a + b)
range_is_two_pieces m at a b =
    range_by_its_length m at (a + b) ∙ take-add a b (drop at m)
    ∙ ap (λ (l : List ℕ). take a (drop at m) ++ take b l) (drop-drop a at m)
    ∙ sym (ap (λ (l : List ℕ). l ++ slice_range m (at + a) (at + a + b)) (range_by_its_length m at a)
    ∙ ap (λ (l : List ℕ). take a (drop at m) ++ l) (range_by_its_length m (at + a) b))

module _ (m : List ℕ) (at : ℕ) (xs ys : List ℕ) (room : at + length xs + length ys ≤ length m) where
  size : length (slice_range m at (at + length xs)) ≡ length xs
  size = ap length (range_by_its_length m at (length xs)) ∙ length-take-le (length xs) (drop at m) (omega (arith, room, length-drop at m))

  range_of_both_parts : slice_range m at (at + length (xs ++ ys))
      ≡ slice_range m at (at + length xs) ++ slice_range m (at + length xs) (at + length xs + length ys)
  range_of_both_parts = ap (λ (n : ℕ). slice_range m at (at + n)) (length-append xs ys) ∙ range_is_two_pieces m at (length xs) (length ys)

  -- If a medium holds `xs` at an offset and `ys` directly after it, it holds `xs ++ ys` there.
  pub joined_parts_are_stored : HasBytesAt m at xs → HasBytesAt m (at + length xs) ys → HasBytesAt m at (xs ++ ys)
  joined_parts_are_stored a b = range_of_both_parts ∙ (λ i. a i ++ b i)

  -- If a medium holds `xs ++ ys` at an offset, it holds `xs` there.
  pub first_part_is_stored : HasBytesAt m at (xs ++ ys) → HasBytesAt m at xs
  first_part_is_stored s =
      sym (take_at (slice_range m at (at + length xs)) (slice_range m (at + length xs) (at + length xs + length ys)) (length xs) size)
      ∙ ap (λ (l : List ℕ). take (length xs) l) (sym range_of_both_parts ∙ s) ∙ take_at xs ys (length xs) refl

  -- If a medium holds `xs ++ ys` at an offset, it holds `ys` directly after `xs`.
  pub second_part_is_stored : HasBytesAt m at (xs ++ ys) → HasBytesAt m (at + length xs) ys
  second_part_is_stored s =
      sym (drop_at (slice_range m at (at + length xs)) (slice_range m (at + length xs) (at + length xs + length ys)) (length xs) size)
      ∙ ap (λ (l : List ℕ). drop (length xs) l) (sym range_of_both_parts ∙ s) ∙ drop_at xs ys (length xs) refl

-- The next read begins `ahead` bytes before the end of the medium. The medium holds `bytes` at `at` exactly if it holds `rest` at the
-- offset of that read.
pub record ReadBack (m : List ℕ) (at : ℕ) (bytes : List ℕ) (ahead : ℕ) (rest : List ℕ) : Type 0 where
  pub within : ahead ≤ length m
  pub room : length rest ≤ ahead
  pub same : HasBytesAt m at bytes ↔ HasBytesAt m (length m - ahead) rest

-- Before the first read, `rest` is all bytes.
pub nothing_read_back : (m : List ℕ) (at : ℕ) (bytes : List ℕ) → at + length bytes ≤ length m → (len : ℕ) → len ≡ length m
    → ReadBack m at bytes (len - at) bytes
nothing_read_back m at bytes fits len is =
    let place : length m - (len - at) ≡ at = omega (arith, fits, is) in
    record {
      within = omega (arith, is);
      room = omega (arith, fits, is);
      same = (
        λ s. subst (λ (p : ℕ). HasBytesAt m p bytes) (sym place) s,
        λ s. subst (λ (p : ℕ). HasBytesAt m p bytes) place s,
      );
    }

module _ {m : List ℕ} {at : ℕ} {bytes : List ℕ} {ahead : ℕ} {rest : List ℕ} (far : ReadBack m at bytes ahead rest) (piece next : List ℕ)
    (parts : rest ≡ piece ++ next) where
  piece_and_rest_length : length rest ≡ length piece + length next
  piece_and_rest_length = ap length parts ∙ length-append piece next

  fits : length m - ahead + length piece + length next ≤ length m
  fits = omega (arith, piece_and_rest_length, far.within, far.room)

  -- If the medium holds the next piece, it holds all bytes exactly if it holds those after the piece.
  pub read_piece_leaves_rest : HasBytesAt m (length m - ahead) piece → ReadBack m at bytes (ahead - length piece) next
  read_piece_leaves_rest stands =
      let on : length m - (ahead - length piece) ≡ length m - ahead + length piece = omega (
        arith,
        piece_and_rest_length,
        far.within,
        far.room,
      ) in
      record {
        within = omega (arith, far.within);
        room = omega (arith, piece_and_rest_length, far.room);
        same = (
          λ s. subst (λ (p : ℕ). HasBytesAt m p next) (sym on) (second_part_is_stored m (length m - ahead) piece next fits
              (subst (λ (l : List ℕ). HasBytesAt m (length m - ahead) l) parts (far.same.0 s))),
          λ s. far.same.1 (subst (λ (l : List ℕ). HasBytesAt m (length m - ahead) l) (sym parts)
              (joined_parts_are_stored m (length m - ahead) piece next fits stands (subst (λ (p : ℕ). HasBytesAt m p next) on s))),
        );
      }

  -- If the medium doesn't hold the next piece, it doesn't hold all the bytes.
  pub missing_piece_misses_bytes : ¬ HasBytesAt m (length m - ahead) piece → ¬ HasBytesAt m at bytes
  missing_piece_misses_bytes none s = none (first_part_is_stored m (length m - ahead) piece next fits
      (subst (λ (l : List ℕ). HasBytesAt m (length m - ahead) l) parts (far.same.0 s)))

-- A list that is split in two equals its two parts, appended.
pub cut_list_joins : {rest front back : List ℕ} (n : ℕ) → front ≡ take n rest → back ≡ drop n rest → rest ≡ front ++ back
cut_list_joins {rest} n a b = sym ((λ i. a i ++ b i) ∙ take-append-drop n rest)

-- A read at `place` with the length of a piece returns the medium's bytes of the piece's range.
pub read_bytes_are_there : (m piece : List ℕ) {place from n : ℕ} {read : List ℕ} → from ≡ place → n ≡ length piece
    → read ≡ slice_range m from (from + n) → slice_range m place (place + length piece) ≡ read
read_bytes_are_there m piece here size is = sym (is ∙ (λ i. slice_range m (here i) (here i + size i)))

-- If no bytes are left to read back, the medium holds all bytes.
pub all_read_back : {m : List ℕ} {at : ℕ} {bytes : List ℕ} {ahead : ℕ} {rest : List ℕ} → ReadBack m at bytes ahead rest → length rest ≡ 0
    → HasBytesAt m at bytes
all_read_back {m = m} {ahead = ahead} {rest = []} far none = far.same.1 (range_by_its_length m (length m - ahead) 0)
all_read_back {rest = x ∷ xs} far none = absurd (omega (arith, none))
