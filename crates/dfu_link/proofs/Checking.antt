-- Comparison of the first bytes of an image, byte by byte.
use Rattle.std.proofs.Common.{◌≡◌, ℕ, ◌+◌, ◌-◌, ◌==◌, ◌<◌, ◌≤◌, Bool, true, false, cond, List, [], ◌∷◌, Option, Some, None, length, drop, get_or, refl, sym, ap, ◌∙◌, arith, length-append}
use Rattle.std.proofs.lemmas.List.{drop_more, drop_all, drop-drop, get_or_append_left, get_or-append_right}
use Rattle.std.proofs.lemmas.List.Edits.{length-between, get_or-between}
use Rattle.std.specs.Prelude.{slice_range}
use Rattle.dfu_slots.specs.StoreView.{SlotsState}
use Rattle.dfu_device.specs.declared.candidate.Candidate.{Candidate}
use Rattle.dfu_link.specs.ScriptRun.{has_front, is_accepted}
use Rattle.dfu_link.specs.inside.AcceptedImage.{candidate_bytes_of}

-- Lemmas for an empty check.

-- A program with an empty check accepts every image.
pub empty_check_accepts_all : (check : List ℕ) (taken : Option (List ℕ)) → check ≡ [] → true ≡ is_accepted check taken
empty_check_accepts_all check None e = refl
empty_check_accepts_all check (Some bytes) e = sym (ap (λ (l : List ℕ). has_front l bytes) e)

-- Lemmas for a check of one byte.

choice_of_true_is_test : (b : Bool) → cond b true false ≡ b
choice_of_true_is_test true = refl
choice_of_true_is_test false = refl

-- The bytes from index i begin with a byte exactly if that byte equals byte i.
pub byte_compared_at_place : (ys : List ℕ) (i byte found : ℕ) → i < length ys → found ≡ get_or ys i 0
    → (byte == found) ≡ has_front (byte ∷ []) (drop i ys)
byte_compared_at_place ys i byte found h e =
    let d = drop_more ys i 0 h in
    sym (ap (λ (l : List ℕ). has_front (byte ∷ []) l) d ∙ choice_of_true_is_test (byte == get_or ys i 0)
    ∙ sym (ap (λ (x : ℕ). byte == x) e))

-- After the end of the bytes no byte follows, so no check of one byte succeeds.
pub no_front_past_end : (ys : List ℕ) (i byte : ℕ) → length ys ≤ i → false ≡ has_front (byte ∷ []) (drop i ys)
no_front_past_end ys i byte h = sym (ap (λ (l : List ℕ). has_front (byte ∷ []) l) (drop_all i ys h))

-- Lemmas for a check of several bytes.

both : (b rest : Bool) → cond b rest false ≡ cond (cond b true false) rest false
both true rest = refl
both false rest = refl

-- Bytes begin with a list exactly if they begin with its first byte, and the bytes after the first one begin with the rest of the list.
front_splits_at_byte : (x : ℕ) (xs ys : List ℕ) → has_front (x ∷ xs) ys ≡ cond (has_front (x ∷ []) ys) (has_front xs (drop 1 ys)) false
front_splits_at_byte x xs [] = refl
front_splits_at_byte x xs (y ∷ ys) = both (x == y) (has_front xs ys)

-- From index i on, the bytes begin with the rest of a list exactly if byte i is equal in both, and the bytes from index i + 1 on begin with
-- the rest of the list from there.
front_is_found_byte_by_byte : (xs ys : List ℕ) (i : ℕ) → i < length xs
    → has_front (drop i xs) (drop i ys)
    ≡ cond (has_front (get_or xs i 0 ∷ []) (drop i ys)) (has_front (drop (i + 1) xs) (drop 1 (drop i ys))) false
front_is_found_byte_by_byte xs ys i h =
    ap (λ (l : List ℕ). has_front l (drop i ys)) (drop_more xs i 0 h) ∙ front_splits_at_byte (get_or xs i 0) (drop (i + 1) xs) (drop i ys)

-- If a list and the bytes have the same byte i, the check from index i on has the result of the check from index i + 1 on.
pub front_goes_on_after_byte : (xs ys : List ℕ) (i : ℕ) → i < length xs → has_front (get_or xs i 0 ∷ []) (drop i ys) ≡ true
    → has_front (drop i xs) (drop i ys) ≡ has_front (drop (i + 1) xs) (drop (i + 1) ys)
front_goes_on_after_byte xs ys i h e =
    front_is_found_byte_by_byte xs ys i h ∙ ap (λ (b : Bool). cond b (has_front (drop (i + 1) xs) (drop 1 (drop i ys))) false) e
    ∙ ap (λ (l : List ℕ). has_front (drop (i + 1) xs) l) (drop-drop 1 i ys)

-- If byte i differs, the bytes from i on do not begin with the rest of the list.
pub front_breaks_at_byte : (xs ys : List ℕ) (i : ℕ) → i < length xs → has_front (get_or xs i 0 ∷ []) (drop i ys) ≡ false
    → has_front (drop i xs) (drop i ys) ≡ false
front_breaks_at_byte xs ys i h e =
    front_is_found_byte_by_byte xs ys i h ∙ ap (λ (b : Bool). cond b (has_front (drop (i + 1) xs) (drop 1 (drop i ys))) false) e

-- At the end of a list nothing remains to be checked, so the check succeeds.
pub front_is_found_at_end : (xs ys : List ℕ) (i : ℕ) → length xs ≤ i → has_front (drop i xs) (drop i ys) ≡ true
front_is_found_at_end xs ys i h = ap (λ (l : List ℕ). has_front l (drop i ys)) (drop_all i xs h)

-- Lemmas for the bytes of a received image.
module _ (s : SlotsState) (c : Candidate) (within : c.at + c.stored ≤ length s.medium.bytes) where
  -- The slice of the medium that holds a received image has `stored` bytes.
  stored_bytes_length : length (slice_range s.medium.bytes c.at (c.at + c.stored)) ≡ c.stored
  stored_bytes_length = length-between s.medium.bytes c.at (c.at + c.stored) within ∙ omega arith

  -- A received image is as long as its bytes on the medium and the held ones together.
  pub taken_length : length (candidate_bytes_of s c) ≡ c.stored + length s.held
  taken_length = length-append (slice_range s.medium.bytes c.at (c.at + c.stored)) s.held
      ∙ ap (λ (n : ℕ). n + length s.held) stored_bytes_length

  -- If byte i of a received image is on the medium, it is the medium's byte at address `at` + i.
  pub stored_byte_is_on_medium : (i : ℕ) → i < c.stored → get_or (candidate_bytes_of s c) i 0 ≡ get_or s.medium.bytes (c.at + i) 0
  stored_byte_is_on_medium i h =
      get_or_append_left (slice_range s.medium.bytes c.at (c.at + c.stored)) s.held 0 i (omega (arith, stored_bytes_length, h))
      ∙ get_or-between s.medium.bytes c.at (c.at + c.stored) i 0 (omega (arith, h))

  -- If byte i of a received image is not on the medium, it is a held byte.
  pub later_byte_is_held_back : (i : ℕ) → c.stored ≤ i → get_or (candidate_bytes_of s c) i 0 ≡ get_or s.held (i - c.stored) 0
  later_byte_is_held_back i h = get_or-append_right (slice_range s.medium.bytes c.at (c.at + c.stored)) s.held c.stored i 0
      stored_bytes_length h
