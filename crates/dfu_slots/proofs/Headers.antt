-- Lemmas about the fields of a header other than its generation and its length.
use Rattle.std.proofs.Common.{◌≡◌, ℕ, zero, suc, ◌<◌, ◌^◌, List, [], ◌∷◌, ◌++◌, length, get_or, take, drop, refl, sym, ◌∙◌, ap, subst, arith}
use Rattle.std.specs.Int.{w32, from_le_bytes}
use Rattle.std.proofs.lemmas.Nat.{le_bytes_4, from_le_bytes-to_le_bytes_4}
use Rattle.dfu_slots.specs.Layout.{header}

-- List of the values of f at 0, 1, ..., n - 1.
numbers_of_function : ℕ → (ℕ → ℕ) → List ℕ
numbers_of_function zero f = []
numbers_of_function (suc n) f = f 0 ∷ numbers_of_function n (λ i. f (suc i))

-- Every list equals the list of its elements at the indices 0, 1, and so on.
list_is_its_numbers : (l : List ℕ) → l ≡ numbers_of_function (length l) (λ i. get_or l i 0)
unfolding numbers_of_function
list_is_its_numbers [] = refl
list_is_its_numbers (x ∷ xs) = ap (λ l. x ∷ l) (list_is_its_numbers xs)

-- If four numbers are below 256, each element of their list is below 256.
four_bytes_below_256 : (a b c d : ℕ) → a < 256 → b < 256 → c < 256 → d < 256 → (i : ℕ) → get_or (a ∷ b ∷ c ∷ d ∷ []) i 0 < 256
four_bytes_below_256 a b c d p q r s zero = p
four_bytes_below_256 a b c d p q r s (suc zero) = q
four_bytes_below_256 a b c d p q r s (suc (suc zero)) = r
four_bytes_below_256 a b c d p q r s (suc (suc (suc zero))) = s
four_bytes_below_256 a b c d p q r s (suc (suc (suc (suc i)))) = omega arith

-- A header has this version and this register, and its zero fields are 0. Its generation and its length are arbitrary.
pub record HeaderFields (h : List ℕ) (version register : ℕ) : Type 0 where
  pub version_is : get_or h 1 0 ≡ version
  pub third : get_or h 2 0 ≡ 0
  pub fourth : get_or h 3 0 ≡ 0
  pub register_is : from_le_bytes w32 (take 4 (drop 8 h)) ≡ register
  pub rest : from_le_bytes w32 (take 4 (drop 12 h)) ≡ 0

-- A list is the header with this version and register that is built from the list's own generation and length.
abbrev pub IsHeaderOfOwnFields : List ℕ → ℕ → ℕ → Type 0
IsHeaderOfOwnFields h version register = h ≡ header version (get_or h 0 0) (from_le_bytes w32 (take 4 (drop 4 h))) register

-- If sixteen listed values satisfy HeaderFields, they are the header built from their own generation and length.
listed_bytes_are_header : (f : ℕ → ℕ) → ((i : ℕ) → f i < 256) → (version register : ℕ) →
    HeaderFields (numbers_of_function 16 f) version register
    → IsHeaderOfOwnFields (numbers_of_function 16 f) version register
unfolding numbers_of_function
listed_bytes_are_header f small version register t =
    let four : (n : ℕ) → (i : ℕ) → get_or (f n ∷ f (suc n) ∷ f (suc (suc n)) ∷ f (suc (suc (suc n))) ∷ []) i 0 < 256 =
    λ n. four_bytes_below_256 (f n) (f (suc n)) (f (suc (suc n))) (f (suc (suc (suc n))))
    (small n) (small (suc n)) (small (suc (suc n))) (small (suc (suc (suc n)))) in
    let len = sym (le_bytes_4 (f 4 ∷ f 5 ∷ f 6 ∷ f 7 ∷ []) (from_le_bytes w32 (f 4 ∷ f 5 ∷ f 6 ∷ f 7 ∷ [])) refl (four 4) refl) in
    let crc = sym (le_bytes_4 (f 8 ∷ f 9 ∷ f 10 ∷ f 11 ∷ []) register refl (four 8) (sym t.register_is)) in
    let zeros = sym (le_bytes_4 (f 12 ∷ f 13 ∷ f 14 ∷ f 15 ∷ []) 0 refl (four 12) (sym t.rest)) in
    λ i. f 0 ∷ t.version_is i ∷ t.third i ∷ t.fourth i ∷ len i ++ crc i ++ zeros i

-- If sixteen bytes satisfy HeaderFields, they are the header built from their own generation and length.
pub bytes_with_fields_are_header : (h : List ℕ) → length h ≡ 16 → ((i : ℕ) → get_or h i 0 < 256) → (version register : ℕ) →
    HeaderFields h version register
    → IsHeaderOfOwnFields h version register
bytes_with_fields_are_header h long small version register told =
    let is : h ≡ numbers_of_function 16 (λ i. get_or h i 0) = list_is_its_numbers h
    ∙ ap (λ (n : ℕ). numbers_of_function n (λ i. get_or h i 0)) long in
    subst (λ (l : List ℕ). IsHeaderOfOwnFields l version register) (sym is)
    (listed_bytes_are_header (λ i. get_or h i 0) small version register (subst (λ (l : List ℕ). HeaderFields l version register) is told))

-- A header contains the version and the register from which it was built.
pub header_has_its_fields : (h : List ℕ) (version gen len register : ℕ) → register < 2 ^ 32 → h ≡ header version gen len register
    → HeaderFields h version register
header_has_its_fields h version gen len register fits is = record {
  version_is = ap (λ (l : List ℕ). get_or l 1 0) is;
  third = ap (λ (l : List ℕ). get_or l 2 0) is;
  fourth = ap (λ (l : List ℕ). get_or l 3 0) is;
  register_is = ap (λ (l : List ℕ). from_le_bytes w32 (take 4 (drop 8 l))) is ∙ from_le_bytes-to_le_bytes_4 register fits;
  rest = ap (λ (l : List ℕ). from_le_bytes w32 (take 4 (drop 12 l))) is;
}
