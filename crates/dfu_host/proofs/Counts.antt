-- The code counts and cuts the same blocks of a payload as the specification.
use Rattle.std.proofs.Common.{◌≡◌, ◌⊎◌, ℕ, suc, ◌+◌, ◌-◌, ◌*◌, ◌/◌, ◌<◌, ◌≤◌, ◌==◌, nat_le, min, true, false, List, [], length, take, drop, slice_index_or, refl, sym, ap, ◌∙◌, arith, inl, inr}
use Rattle.std.proofs.Math.Nat.{suc-mul, lt-div-mul-add, div-mul-le_self, eq-or-lt_of_le}
use Rattle.std.proofs.lemmas.Bool.{cases_lt, eqb-false, eq-eqb, le-leb, lt-leb, ne_eqb}
use Rattle.std.proofs.lemmas.List.{drop_min, length-take, take_min, take_rest}
use Rattle.std.specs.Borrow.{Bor}
use Rattle.dfu_host.specs.Blocks.{blocks}
use Rattle.dfu_host.specs.declared.goal.Goal.{Goal}
use Rattle.dfu_host.specs.declared.goal.Goal.TheVariants as goal
use Rattle.dfu_host.specs.Goals.{goal_of, payload_of, size_of}
use Rattle.dfu_host.specs.Table as table
use Rattle.dfu_host.specs.BlockLaws.{nth_block_is_slice, counted_block_starts_in_payload, started_block_is_counted}

-- The blocks of a goal in the table are the blocks of the goal's payload.
pub goal_has_payload_blocks : (g : Goal) (t : ℕ) → table.blocks_of (goal_of g) t ≡ blocks (payload_of g) t
unfolding blocks
goal_has_payload_blocks (goal.Load payload) t = refl
goal_has_payload_blocks goal.Fetch t = refl
goal_has_payload_blocks (goal.Verify payload) t = refl
goal_has_payload_blocks (goal.Compare payload) t = refl

-- A payload of at least one byte has a first block.
pub payload_has_first_block : (g : Goal) (t : ℕ) (payload : Bor (List ℕ)) → (g ≡ goal.Load payload) ⊎ (g ≡ goal.Verify payload) →
    0 < size_of g
    → 0 * t < length (payload_of g)
payload_has_first_block (goal.Load payload) t other e some = omega (arith, some)
payload_has_first_block (goal.Verify payload) t other e some = omega (arith, some)
payload_has_first_block (goal.Compare payload) t other e some = omega (arith, some)
payload_has_first_block goal.Fetch t other (inl e) some = absurd cc
payload_has_first_block goal.Fetch t other (inr e) some = absurd cc

module _ (p : List ℕ) (t : ℕ) where
  -- For t over 0, block n is up to t bytes of the payload from `start` on, where `start` is n times t or the payload's end.
  pub block_is_slice_of_rest : (n start m : ℕ) → 0 < t → start ≡ min (n * t) (length p)
      → m ≡ min t (length (take (length p - start) (drop start p)))
      → take m (take (length p - start) (drop start p)) ≡ slice_index_or (blocks p t) n []
  block_is_slice_of_rest n start m ht begins e =
      let rest = take (length p - start) (drop start p) in
      ap (λ z. take z rest) e ∙ take_min t rest ∙ ap (take t) (take_rest p start)
      ∙ ap (λ z. take t (drop z p)) begins ∙ ap (take t) (drop_min (n * t) p) ∙ sym (nth_block_is_slice p t n ht)

  -- For t over 0, the payload's bytes from n times t on begin with block n.
  pub block_is_prefix_from_place : (n : ℕ) (block : List ℕ) → 0 < t → block ≡ slice_index_or (blocks p t) n []
      → block ≡ take (length block) (drop (n * t) p)
  block_is_prefix_from_place n block ht is =
      let rest = drop (n * t) p in
      let e : block ≡ take t rest = is ∙ nth_block_is_slice p t n ht in
      e ∙ sym (ap (λ z. take z rest) (ap length e ∙ length-take t rest) ∙ take_min t rest)

  -- If block n begins within the payload, it is the last one exactly if at most t bytes of the payload are left at its beginning.
  pub rest_tells_last_block : (n : ℕ) → 0 < t → n * t < length p → nat_le (length p - n * t) t ≡ (suc n == length (blocks p t))
  rest_tells_last_block n ht h = elim (cases_lt t (length p - n * t)) [
    | inl more ↦
        let next : suc n < length (blocks p t) = started_block_is_counted p t (suc n) ht (omega (arith, suc-mul n t, more)) in
        let e : nat_le (length p - n * t) t ≡ false = lt-leb _ _ more in
        let f : (suc n == length (blocks p t)) ≡ false = ne_eqb _ _ (λ same. absurd (omega (arith, same, next))) in
        e ∙ sym f
    | inr fits ↦
        let is : suc n ≡ length (blocks p t) = elim (eq-or-lt_of_le (started_block_is_counted p t n ht h)) [
          | inl same ↦ same
          | inr less ↦ absurd (omega (arith, counted_block_starts_in_payload p t (suc n) less, suc-mul n t, fits))
        ] in
        let e : nat_le (length p - n * t) t ≡ true = le-leb _ _ fits in
        let f : (suc n == length (blocks p t)) ≡ true = eq-eqb _ _ is in
        e ∙ sym f
  ]

  -- For t over 0, a payload of at least one byte has (length - 1) / t + 1 blocks.
  pub payload_has_block_count : 0 < t → 0 < length p → (length p - 1) / t + 1 ≡ length (blocks p t)
  payload_has_block_count ht h =
      let q = (length p - 1) / t in
      let low : q * t ≤ length p - 1 = div-mul-le_self (length p - 1) t in
      let high : length p - 1 < q * t + t = lt-div-mul-add {a = length p - 1} ht in
      let some : q < length (blocks p t) = started_block_is_counted p t q ht (omega (arith, low, h)) in
      elim (eq-or-lt_of_le some) [
        | inl same ↦ omega (arith, same)
        | inr less ↦ absurd (omega (arith, counted_block_starts_in_payload p t (suc q) less, suc-mul q t, high, h))
      ]

  -- If block n begins within the payload and is not the last one, block n + 1 begins within the payload too.
  pub next_block_starts_in_payload : (n : ℕ) → 0 < t → n * t < length p → (suc n == length (blocks p t)) ≡ false → (n + 1) * t < length p
  next_block_starts_in_payload n ht h e =
      let some : suc n < length (blocks p t) = elim (eq-or-lt_of_le (started_block_is_counted p t n ht h)) [
        | inl same ↦ absurd (eqb-false _ _ e same)
        | inr less ↦ less
      ] in
      omega (arith, counted_block_starts_in_payload p t (suc n) some, suc-mul n t)
