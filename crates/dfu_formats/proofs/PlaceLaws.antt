-- The search for the index of a new element, and the test for elements that don't overlap.
use Rattle.std.proofs.Common.{◌≡◌, ℕ, zero, suc, ◌+◌, ◌<◌, ◌≤◌, Bool, true, false, cond, ltb, List, [], ◌∷◌, length, drop, get_or, refl, sym, ap, ◌∙◌, arith, Some, None}
use Rattle.std.proofs.lemmas.Bool.{ltb-false, lt-ltb, le-ltb}
use Rattle.dfu_formats.specs.images.Elements.{Piece, end_of_piece, element_place, shared_address, AreApart}

-- A first element that begins at or before the address adds one to the insertion index.
earlier_element_adds_to_place : (a : ℕ) (p : Piece) (ps : List Piece) → p.address ≤ a → element_place a (p ∷ ps) ≡ suc (element_place a ps)
unfolding element_place
earlier_element_adds_to_place a p ps h = rw (le-ltb a p.address h) refl

-- If the first element begins after the address, the insertion index is 0.
later_element_ends_place : (a : ℕ) (p : Piece) (ps : List Piece) → a < p.address → element_place a (p ∷ ps) ≡ 0
unfolding element_place
later_element_ends_place a p ps h = rw (lt-ltb a p.address h) refl

element_place_of_none : (a : ℕ) → element_place a [] ≡ 0
unfolding element_place
element_place_of_none a = refl

-- If element `i` begins at or before the address, the search may continue at element `i + 1` with the same result.
pub element_place_at_next : (a : ℕ) (ps : List Piece) (i j : ℕ) (d : Piece) → j ≡ suc i → i < length ps → (get_or ps i d).address ≤ a →
    i + element_place a (drop i ps) ≡ j + element_place a (drop j ps)
element_place_at_next a [] i j d e h l = absurd (omega (arith, h))
element_place_at_next a (p ∷ ps) zero j d e h l =
    let step = earlier_element_adds_to_place a p ps l in
    let there : drop j (p ∷ ps) ≡ ps = ap (λ (k : ℕ). drop k (p ∷ ps)) e in
    let same = ap (element_place a) there in
    omega (arith, step, same, e)
element_place_at_next a (p ∷ ps) (suc i) j d e h l =
    let more = element_place_at_next a ps i (suc i) d refl (omega (arith, h)) l in
    let there : drop j (p ∷ ps) ≡ drop (suc i) ps = ap (λ (k : ℕ). drop k (p ∷ ps)) e in
    let same = ap (element_place a) there in
    omega (arith, more, same, e)

-- If element `i` begins after the address, the search ends at index `i`.
pub element_place_ends_here : (a : ℕ) (ps : List Piece) (i : ℕ) (d : Piece) → i < length ps → a < (get_or ps i d).address →
    element_place a (drop i ps) ≡ 0
element_place_ends_here a [] i d h l = absurd (omega (arith, h))
element_place_ends_here a (p ∷ ps) zero d h l = later_element_ends_place a p ps l
element_place_ends_here a (p ∷ ps) (suc i) d h l = element_place_ends_here a ps i d (omega (arith, h)) l

-- Beyond the last element, the search ends.
pub element_place_past_end : (a : ℕ) (ps : List Piece) (i : ℕ) → length ps ≤ i → element_place a (drop i ps) ≡ 0
element_place_past_end a [] zero h = element_place_of_none a
element_place_past_end a [] (suc i) h = element_place_of_none a
element_place_past_end a (p ∷ ps) zero h = absurd (omega (arith, h))
element_place_past_end a (p ∷ ps) (suc i) h = element_place_past_end a ps i (omega (arith, h))

-- If no address is shared, the first element begins at or after `end`, and the others share no address either.
apart_by_address_test : (end : ℕ) (p : Piece) (ps : List Piece) (t : Bool) → ltb p.address end ≡ t →
    cond t (Some p.address) (shared_address (end_of_piece p) ps) ≡ None →
    (end ≤ p.address) × (shared_address (end_of_piece p) ps ≡ None)
apart_by_address_test end p ps true e h = cc
apart_by_address_test end p ps false e h = (ltb-false p.address end e, h)

shared_address_of_first : (end : ℕ) (p : Piece) (ps : List Piece) →
    shared_address end (p ∷ ps) ≡ cond (ltb p.address end) (Some p.address) (shared_address (end_of_piece p) ps)
unfolding shared_address
shared_address_of_first end p ps = refl

-- If no address is shared, each element begins at or after the end of the element before it.
pub no_shared_address_means_apart : (end : ℕ) (ps : List Piece) → shared_address end ps ≡ None → AreApart end ps
unfolding AreApart
no_shared_address_means_apart end [] h = tt
no_shared_address_means_apart end (p ∷ ps) h =
    let b = apart_by_address_test end p ps (ltb p.address end) refl (sym (shared_address_of_first end p ps)
    ∙ h) in (b.0, no_shared_address_means_apart (end_of_piece p) ps b.1)
