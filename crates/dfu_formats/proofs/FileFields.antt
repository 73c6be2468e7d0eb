-- Four-byte numbers in a DfuSe file.
use Rattle.std.proofs.Common.{◌≡◌, ℕ, ◌+◌, ◌^◌, ◌<◌, ◌≤◌, ◌&&◌, Bool, true, eqb, List, ◌∷◌, ◌++◌, length, take, drop, refl, sym, ap, ◌∙◌, arith, length-take, length-drop, get_or}
use Rattle.std.specs.Int.{w32, from_le_bytes}
use Rattle.std.proofs.lemmas.Bool.{eqb-true, and_parts}
use Rattle.std.proofs.lemmas.List.{take-append-drop, drop-drop}
use Rattle.std.proofs.lemmas.Nat.{from_le_bytes-to_le_bytes_4, le_bytes_4}
use Rattle.std.proofs.Math.Seq.{drop-cons}
use Rattle.dfu_suffix.proofs.Bytes.{AreBytes-drop, AreBytes-take}
use Rattle.dfu_suffix.specs.Laws.{AreBytes}
use Rattle.dfu_formats.specs.dfuse.Reading.{number_at}
use Rattle.dfu_formats.specs.dfuse.Grammar.{four_bytes_of}

-- Six or more bytes are the first six followed by those from index 6 on.
pub six_bytes_precede_rest : (b : List ℕ) → 6 ≤ length b →
    b ≡ get_or b 0 0 ∷ get_or b 1 0 ∷ get_or b 2 0 ∷ get_or b 3 0 ∷ get_or b 4 0 ∷ get_or b 5 0 ∷ drop 6 b
six_bytes_precede_rest b long =
    let c0 : b ≡ get_or b 0 0 ∷ drop 1 b = drop-cons b 0 0 (omega (arith, long)) in
    let c1 : drop 1 b ≡ get_or b 1 0 ∷ drop 2 b = drop-cons b 1 0 (omega (arith, long)) in
    let c2 : drop 2 b ≡ get_or b 2 0 ∷ drop 3 b = drop-cons b 2 0 (omega (arith, long)) in
    let c3 : drop 3 b ≡ get_or b 3 0 ∷ drop 4 b = drop-cons b 3 0 (omega (arith, long)) in
    let c4 : drop 4 b ≡ get_or b 4 0 ∷ drop 5 b = drop-cons b 4 0 (omega (arith, long)) in
    let c5 : drop 5 b ≡ get_or b 5 0 ∷ drop 6 b = drop-cons b 5 0 (omega (arith, long)) in
    cc

-- If a test that compares four letters and also requires `more` is true, the bytes begin with these letters and `more` is true.
pub true_test_finds_four_letters : (b : List ℕ) (l0 l1 l2 l3 : ℕ) (more : Bool)
    → (eqb (get_or b 0 0) l0 && (eqb (get_or b 1 0) l1 && (eqb (get_or b 2 0) l2 && (eqb (get_or b 3 0) l3 && more)))) ≡ true
    → (get_or b 0 0 ≡ l0) × (get_or b 1 0 ≡ l1) × (get_or b 2 0 ≡ l2) × (get_or b 3 0 ≡ l3) × (more ≡ true)
true_test_finds_four_letters b l0 l1 l2 l3 more h =
    let s0 = and_parts (eqb (get_or b 0 0) l0) _ h in
    let s1 = and_parts (eqb (get_or b 1 0) l1) _ s0.1 in
    let s2 = and_parts (eqb (get_or b 2 0) l2) _ s1.1 in
    let s3 = and_parts (eqb (get_or b 3 0) l3) more s2.1 in
    (eqb-true _ _ s0.0, eqb-true _ _ s1.0, eqb-true _ _ s2.0, eqb-true _ _ s3.0, s3.1)

-- The bytes from index `place` on are the four bytes of the number at `place`, followed by the bytes from `place + 4` on.
pub place_spells_number : (place next : ℕ) (b : List ℕ) → AreBytes b → next ≡ place + 4 → next ≤ length b
    → drop place b ≡ four_bytes_of (number_at place b) ++ drop next b
place_spells_number place next b f e h =
    let xs = drop place b in
    let bytes = AreBytes-take 4 xs (AreBytes-drop b place f) in
    let long : length (take 4 xs) ≡ 4 = length-take 4 xs ∙ omega (arith, length-drop place b) in
    let here : four_bytes_of (number_at place b) ≡ take 4 xs = le_bytes_4 (take 4 xs) (number_at place b) long bytes refl in
    let behind : drop 4 xs ≡ drop next b = drop-drop 4 place b ∙ ap (λ (k : ℕ). drop k b) (sym e) in
    sym (ap (λ (z : List ℕ). z ++ drop next b) here ∙ (ap (λ (z : List ℕ). take 4 xs ++ z) (sym behind) ∙ take-append-drop 4 xs))

-- A number of four bytes is below 2^32.
pub number_at_fits_32_bits : (place : ℕ) (b : List ℕ) → AreBytes b → number_at place b < 2 ^ 32
number_at_fits_32_bits place b f =
    let g = AreBytes-take 4 (drop place b) (AreBytes-drop b place f) in
    omega (arith, g 0, g 1, g 2, g 3)

-- If the four bytes of `n` begin at index `place`, the number at `place` is `n`.
pub number_at_is_read_back : (n place : ℕ) (b rest : List ℕ) → n < 2 ^ 32 → drop place b ≡ four_bytes_of n ++ rest → number_at place b ≡ n
number_at_is_read_back n place b rest h e = ap (λ (t : List ℕ). from_le_bytes w32 (take 4 t)) e ∙ from_le_bytes-to_le_bytes_4 n h
