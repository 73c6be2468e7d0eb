-- Laws of the blocks of a payload.
use Rattle.std.proofs.Common.{◌≡◌, ◌↔◌, ℕ, zero, suc, ◌+◌, ◌*◌, ◌<◌, ◌≤◌, List, [], ◌∷◌, ◌++◌, length, take, drop, slice_index_or, refl, sym, ap, ◌∙◌, subst, arith, append_assoc, append-nil, take-append-drop, length-append, length-take, length-drop, take_all, le_of_suc-le-suc, inl, inr}
use Rattle.std.proofs.Math.ListN.{drop_of_length-le}
use Rattle.std.proofs.Math.Seq.{take-append_seam, drop-append_seam, take-nil}
use Rattle.std.proofs.Math.Nat.{suc-mul}
use Rattle.std.proofs.lemmas.Bool.{cases_lt}
use Rattle.std.proofs.lemmas.List.{drop-drop}
use Rattle.dfu_host.specs.Blocks.{joined, AreFullBlocks, Blocks, blocks_in_turns, blocks, first_blocks}

-- If piece n exists, the first n + 1 pieces joined are the first n joined, followed by piece n.
pub next_piece_joins_first : (pieces : List (List ℕ)) (n : ℕ) → n < length pieces
    → joined (take (suc n) pieces) ≡ joined (take n pieces) ++ slice_index_or pieces n []
next_piece_joins_first [] n h = absurd (omega arith)
next_piece_joins_first (x ∷ xs) zero h = append-nil x
next_piece_joins_first (x ∷ xs) (suc n) h = ap (λ r. x ++ r) (next_piece_joins_first xs n (le_of_suc-le-suc h)) ∙ sym (append_assoc x _ _)

-- The first n pieces have at most as many bytes as all pieces.
pub joined_prefix_is_not_longer : (pieces : List (List ℕ)) (n : ℕ) → length (joined (take n pieces)) ≤ length (joined pieces)
joined_prefix_is_not_longer [] zero = omega arith
joined_prefix_is_not_longer [] (suc n) = omega arith
joined_prefix_is_not_longer (x ∷ xs) zero = omega arith
joined_prefix_is_not_longer (x ∷ xs) (suc n) = omega (
  arith,
  length-append x (joined (take n xs)),
  length-append x (joined xs),
  joined_prefix_is_not_longer xs n,
)

-- An empty payload has no blocks.
no_bytes_have_no_blocks : (turns t : ℕ) → blocks_in_turns turns t [] ≡ []
no_bytes_have_no_blocks zero t = refl
no_bytes_have_no_blocks (suc turns) t = refl

-- For t over 0, joining the blocks gives the payload, if the number of turns is at least the length of the payload.
enough_turns_give_payload : (turns t : ℕ) (p : List ℕ) → 0 < t → length p ≤ turns → joined (blocks_in_turns turns t p) ≡ p
enough_turns_give_payload zero t [] ht h = refl
enough_turns_give_payload zero t (x ∷ xs) ht h = absurd (omega arith)
enough_turns_give_payload (suc turns) t [] ht h = refl
enough_turns_give_payload (suc turns) t (x ∷ xs) ht h =
    let e : joined (blocks_in_turns turns t (drop t (x ∷ xs))) ≡ drop t (x ∷ xs) =
    enough_turns_give_payload turns t (drop t (x ∷ xs)) ht (omega (arith, length-drop t (x ∷ xs))) in
    ap (λ r. take t (x ∷ xs) ++ r) e ∙ take-append-drop t (x ∷ xs)

-- Adding a full piece before full pieces gives full pieces. The added piece may be short only if it is the only one.
full_front_keeps_full_blocks : (t : ℕ) (piece : List ℕ) (pieces : List (List ℕ)) → 0 < length piece → length piece ≤ t →
    (0 < length pieces → length piece ≡ t)
    → AreFullBlocks t pieces → AreFullBlocks t (piece ∷ pieces)
full_front_keeps_full_blocks t piece [] some small whole full = (some, small)
full_front_keeps_full_blocks t piece (next ∷ pieces) some small whole full = (whole (omega arith), full)

-- A payload with at least one block has at least one byte.
payload_with_block_has_byte : (turns t : ℕ) (p : List ℕ) → 0 < length (blocks_in_turns turns t p) → 0 < length p
payload_with_block_has_byte zero t p h = absurd (omega arith)
payload_with_block_has_byte (suc turns) t [] h = absurd (omega arith)
payload_with_block_has_byte (suc turns) t (x ∷ xs) h = omega arith

-- For t over 0, the cut blocks have t bytes each, except the last, which has 1 to t.
blocks_in_turns_are_full : (turns t : ℕ) (p : List ℕ) → 0 < t → AreFullBlocks t (blocks_in_turns turns t p)
blocks_in_turns_are_full zero t p ht = tt
blocks_in_turns_are_full (suc turns) t [] ht = tt
blocks_in_turns_are_full (suc turns) t (x ∷ xs) ht =
    let size : length (take t (x ∷ xs)) ≡ _ = length-take t (x ∷ xs) in
    full_front_keeps_full_blocks t (take t (x ∷ xs)) (blocks_in_turns turns t (drop t (x ∷ xs))) (omega (arith, size)) (omega (arith, size))
    (λ h. omega (arith, size, payload_with_block_has_byte turns t (drop t (x ∷ xs)) h, length-drop t (x ∷ xs)))
    (blocks_in_turns_are_full turns t (drop t (x ∷ xs)) ht)

-- For t over 0, joining full pieces and cutting the result in enough turns gives the pieces again.
full_blocks_are_cut_blocks : (t : ℕ) (pieces : List (List ℕ)) (turns : ℕ) → 0 < t → AreFullBlocks t pieces → length (joined pieces) ≤ turns
    → pieces ≡ blocks_in_turns turns t (joined pieces)
full_blocks_are_cut_blocks t [] turns ht full h = sym (no_bytes_have_no_blocks turns t)
full_blocks_are_cut_blocks t ([] ∷ []) turns ht full h = absurd (omega (arith, full.0))
full_blocks_are_cut_blocks t ([] ∷ next ∷ more) turns ht full h = absurd (omega (arith, full.0))
full_blocks_are_cut_blocks t ((y ∷ ys) ∷ []) zero ht full h = absurd (omega arith)
full_blocks_are_cut_blocks t ((y ∷ ys) ∷ []) (suc turns) ht full h =
    let e : (y ∷ ys) ++ [] ≡ y ∷ ys = append-nil (y ∷ ys) in
    let f : take t ((y ∷ ys) ++ []) ≡ y ∷ ys = ap (take t) e ∙ take_all t (y ∷ ys) full.1 in
    let g : drop t ((y ∷ ys) ++ []) ≡ [] = ap (drop t) e ∙ drop_all t (y ∷ ys) full.1 in
    sym (ap (λ z. z ∷ blocks_in_turns turns t (drop t ((y ∷ ys) ++ []))) f ∙ ap (λ z. (y ∷ ys) ∷ blocks_in_turns turns t z) g
    ∙ ap (λ z. (y ∷ ys) ∷ z) (no_bytes_have_no_blocks turns t))
  where
    drop_all : (n : ℕ) (l : List ℕ) → length l ≤ n → drop n l ≡ []
    drop_all zero [] h = refl
    drop_all zero (x ∷ xs) h = absurd (omega arith)
    drop_all (suc n) [] h = refl
    drop_all (suc n) (x ∷ xs) h = drop_all n xs (le_of_suc-le-suc h)
full_blocks_are_cut_blocks t ((y ∷ ys) ∷ next ∷ more) zero ht full h = absurd (omega arith)
full_blocks_are_cut_blocks t ((y ∷ ys) ∷ next ∷ more) (suc turns) ht full h =
    let rest = joined (next ∷ more) in
    let f : take t ((y ∷ ys) ++ rest) ≡ y ∷ ys = subst (λ n. take n ((y ∷ ys) ++ rest) ≡ y ∷ ys) full.0 (take-append_seam (y ∷ ys) rest) in
    let g : drop t ((y ∷ ys) ++ rest) ≡ rest = subst (λ n. drop n ((y ∷ ys) ++ rest) ≡ rest) full.0 (drop-append_seam (y ∷ ys) rest) in
    let i : next ∷ more ≡ blocks_in_turns turns t rest =
    full_blocks_are_cut_blocks t (next ∷ more) turns ht full.1 (omega (arith, h, length-append (y ∷ ys) rest)) in
    sym (ap (λ z. z ∷ blocks_in_turns turns t (drop t ((y ∷ ys) ++ rest))) f ∙ ap (λ z. (y ∷ ys) ∷ blocks_in_turns turns t z) g
    ∙ ap (λ z. (y ∷ ys) ∷ z) (sym i))

-- Cut block n, if it exists, is the t bytes from n times t on, or fewer at the payload's end.
nth_cut_block_is_slice : (turns t : ℕ) (p : List ℕ) (n : ℕ) → n < length (blocks_in_turns turns t p)
    → slice_index_or (blocks_in_turns turns t p) n [] ≡ take t (drop (n * t) p)
nth_cut_block_is_slice zero t p n h = absurd (omega arith)
nth_cut_block_is_slice (suc turns) t [] n h = absurd (omega arith)
nth_cut_block_is_slice (suc turns) t (x ∷ xs) zero h = let e : 0 * t ≡ 0 = omega arith in rw e refl
nth_cut_block_is_slice (suc turns) t (x ∷ xs) (suc n) h =
    let e : t + n * t ≡ suc n * t = omega (arith, suc-mul n t) in
    nth_cut_block_is_slice turns t (drop t (x ∷ xs)) n (le_of_suc-le-suc h) ∙ ap (take t) (drop-drop (n * t) t (x ∷ xs)
    ∙ ap (λ z. drop z (x ∷ xs)) e)

-- Each cut block begins within the payload.
cut_block_starts_in_payload : (turns t : ℕ) (p : List ℕ) (n : ℕ) → n < length (blocks_in_turns turns t p) → n * t < length p
cut_block_starts_in_payload zero t p n h = absurd (omega arith)
cut_block_starts_in_payload (suc turns) t [] n h = absurd (omega arith)
cut_block_starts_in_payload (suc turns) t (x ∷ xs) zero h = omega arith
cut_block_starts_in_payload (suc turns) t (x ∷ xs) (suc n) h =
    omega (arith, suc-mul n t, length-drop t (x ∷ xs), cut_block_starts_in_payload turns t (drop t (x ∷ xs)) n (le_of_suc-le-suc h))

-- For t over 0 and enough turns, block n is cut if the payload has more than n times t bytes.
nth_block_is_counted : (turns t : ℕ) (p : List ℕ) (n : ℕ) → 0 < t → length p ≤ turns → n * t < length p →
    n < length (blocks_in_turns turns t p)
nth_block_is_counted zero t p n ht l h = absurd (omega arith)
nth_block_is_counted (suc turns) t [] n ht l h = absurd (omega arith)
nth_block_is_counted (suc turns) t (x ∷ xs) zero ht l h = omega arith
nth_block_is_counted (suc turns) t (x ∷ xs) (suc n) ht l h =
    let i : n < length (blocks_in_turns turns t (drop t (x ∷ xs))) =
    nth_block_is_counted turns t (drop t (x ∷ xs)) n ht (omega (arith, length-drop t (x ∷ xs)))
    (omega (arith, h, suc-mul n t, length-drop t (x ∷ xs))) in
    omega (arith, i)

-- Reading a piece beyond the last one gives the empty list.
no_piece_past_end : (pieces : List (List ℕ)) (n : ℕ) → length pieces ≤ n → slice_index_or pieces n [] ≡ []
no_piece_past_end [] n h = refl
no_piece_past_end (x ∷ xs) zero h = absurd (omega arith)
no_piece_past_end (x ∷ xs) (suc n) h = no_piece_past_end xs n (le_of_suc-le-suc h)

module _ (p : List ℕ) (t : ℕ) where
  -- For t over 0, the joined blocks are the payload.
  pub blocks_join_to_payload : 0 < t → joined (blocks p t) ≡ p
  unfolding blocks
  blocks_join_to_payload ht = enough_turns_give_payload (length p) t p ht (omega arith)

  -- For t over 0, the blocks that are cut satisfy `Blocks`.
  pub cut_blocks_are_blocks : 0 < t → Blocks p t (blocks p t)
  unfolding blocks
  cut_blocks_are_blocks ht = record {
    all = enough_turns_give_payload (length p) t p ht (omega arith);
    full = blocks_in_turns_are_full (length
        p) t p ht;
  }

  -- For t over 0, a payload has no blocks other than the cut ones.
  pub blocks_are_unique : (pieces : List (List ℕ)) → 0 < t → Blocks p t pieces → pieces ≡ blocks p t
  unfolding blocks
  blocks_are_unique pieces ht b =
      full_blocks_are_cut_blocks t pieces (length p) ht b.full (let e : length (joined pieces)
      ≡ length p = ap length b.all in omega (arith, e))
      ∙ ap (blocks_in_turns (length p) t) b.all

  -- If block n exists, the first n + 1 blocks joined are the first n joined, followed by block n.
  pub next_block_extends_first : (n : ℕ) → n < length (blocks p t) → first_blocks p t (suc n) ≡ first_blocks p t n
      ++ slice_index_or (blocks p t) n []
  next_block_extends_first n h = next_piece_joins_first (blocks p t) n h

  -- For t over 0, all blocks joined are the payload.
  pub all_first_blocks_are_payload : 0 < t → first_blocks p t (length (blocks p t)) ≡ p
  all_first_blocks_are_payload ht = ap joined (take_all _ (blocks p t) (omega arith)) ∙ blocks_join_to_payload ht

  -- For t over 0, the first n blocks have at most as many bytes as the payload.
  pub first_blocks_are_not_longer : (n : ℕ) → 0 < t → length (first_blocks p t n) ≤ length p
  first_blocks_are_not_longer n ht =
      let e : length (joined (blocks p t)) ≡ length p = ap length (blocks_join_to_payload ht) in omega (
        arith,
        joined_prefix_is_not_longer (blocks p t)
            n,
        e,
      )

  -- Block n, if it exists, is the t bytes from n times t on, or fewer at the payload's end.
  pub block_is_slice : (n : ℕ) → n < length (blocks p t) → slice_index_or (blocks p t) n [] ≡ take t (drop (n * t) p)
  unfolding blocks
  block_is_slice n h = nth_cut_block_is_slice (length p) t p n h

  -- If block n exists, the payload has more than n times t bytes.
  pub counted_block_starts_in_payload : (n : ℕ) → n < length (blocks p t) → n * t < length p
  unfolding blocks
  counted_block_starts_in_payload n h = cut_block_starts_in_payload (length p) t p n h

  -- For t over 0, block n exists if the payload has more than n times t bytes.
  pub started_block_is_counted : (n : ℕ) → 0 < t → n * t < length p → n < length (blocks p t)
  unfolding blocks
  started_block_is_counted n ht h = nth_block_is_counted (length p) t p n ht (omega arith) h

  -- For t over 0, block n is the t bytes from n times t on, or fewer at the payload's end. Beyond the last block, it is empty.
  pub nth_block_is_slice : (n : ℕ) → 0 < t → slice_index_or (blocks p t) n [] ≡ take t (drop (n * t) p)
  nth_block_is_slice n ht = elim (cases_lt n (length (blocks p t))) [
    | inl is ↦ block_is_slice n is
    | inr past ↦
        let end : length p ≤ n * t = elim (cases_lt (n * t) (length p)) [
          | inl inside ↦ absurd (omega (arith, past, started_block_is_counted n ht inside))
          | inr outside ↦ outside
        ] in
        no_piece_past_end (blocks p t) n past ∙ sym (ap (take t) (drop_of_length-le p end) ∙ take-nil t)
  ]

  -- Block n, if it exists, has as many bytes as the payload has from n times t on, but at most t.
  pub block_size : (n : ℕ) → n < length (blocks p t) → length (slice_index_or (blocks p t) n []) ≡ length (take t (drop (n * t) p))
  block_size n h = ap length (block_is_slice n h)

  -- Block n, if it exists, has at most t bytes.
  pub nth_block_is_bounded : (n : ℕ) → n < length (blocks p t) → length (slice_index_or (blocks p t) n []) ≤ t
  nth_block_is_bounded n h = omega (arith, block_size n h, length-take t (drop (n * t) p))

  -- For t over 0, block n has at least one byte if it exists.
  pub nth_block_has_byte : (n : ℕ) → 0 < t → n < length (blocks p t) → 0 < length (slice_index_or (blocks p t) n [])
  nth_block_has_byte n ht h = omega (
    arith,
    block_size n h,
    length-take t (drop (n * t) p),
    length-drop (n * t) p,
    counted_block_starts_in_payload n h,
  )

-- If block n is not empty, the first n + 1 blocks joined are the first n joined, followed by block n.
pub full_block_extends_first : (p : List ℕ) (t n : ℕ) → 0 < length (slice_index_or (blocks p t) n [])
    → first_blocks p t (suc n) ≡ first_blocks p t n ++ slice_index_or (blocks p t) n []
full_block_extends_first p t n some = next_block_extends_first p t n (within (blocks p t) n some)
  where
    within : (pieces : List (List ℕ)) (n : ℕ) → 0 < length (slice_index_or pieces n []) → n < length pieces
    within [] n h = absurd (omega arith)
    within (x ∷ xs) zero h = omega arith
    within (x ∷ xs) (suc n) h = omega (arith, within xs n h)

-- For t over 0, the first n blocks joined are the whole payload if block n doesn't exist.
pub past_blocks_are_payload : (p : List ℕ) (t n : ℕ) → 0 < t → length (blocks p t) ≤ n → first_blocks p t n ≡ p
past_blocks_are_payload p t n ht h = ap joined (take_all n (blocks p t) h) ∙ blocks_join_to_payload p t ht

-- If block n has fewer than t bytes or doesn't exist, joining the first n blocks and block n gives the payload.
pub short_block_ends_payload : (p : List ℕ) (t n : ℕ) → 0 < t → length (slice_index_or (blocks p t) n []) < t
    → first_blocks p t n ++ slice_index_or (blocks p t) n [] ≡ p
short_block_ends_payload p t n ht short = elim (cases_lt n (length (blocks p t))) [
  | inl is ↦
      let size = block_size p t n is in
      let end : length (blocks p t) ≤ suc n = elim (cases_lt (suc n) (length (blocks p t))) [
        | inl more ↦ absurd (omega (
          arith,
          short,
          size,
          length-take t (drop (n * t) p),
          length-drop (n * t) p,
          counted_block_starts_in_payload p t (suc n) more,
          suc-mul n t,
        ))
        | inr past ↦ past
      ] in
      sym (next_block_extends_first p t n is) ∙ past_blocks_are_payload p t (suc n) ht end
  | inr past ↦
      let none : slice_index_or (blocks p t) n [] ≡ [] = no_piece_past_end (blocks p t) n past in
      ap (λ z. first_blocks p t n ++ z) none ∙ append-nil (first_blocks p t n) ∙ past_blocks_are_payload p t n ht past
]

-- For a block size over 0, a payload has exactly one list of blocks.
abbrev pub BlockCutUnique : Type 0
BlockCutUnique = (payload : List ℕ) (t : ℕ) (pieces : List (List ℕ)) → 0 < t → Blocks payload t pieces ↔ (pieces ≡ blocks payload t)

pub one_cut : BlockCutUnique
one_cut payload t pieces ht = (
  blocks_are_unique payload t pieces ht,
  λ e. subst (Blocks payload t) (sym e) (cut_blocks_are_blocks payload
      t ht),
)
