-- Bytes between an offset and the next sector.
use Rattle.std.proofs.Common.{◌≡◌, ◌≢◌, ◌⊎◌, ◌↔◌, inl, inr, ℕ, ◌+◌, ◌-◌, ◌%◌, ◌≤◌, ◌<◌, min, List, length, slice_index, sym, ◌∙◌, ap, arith}
use Rattle.std.proofs.Math.Nat.{mod-add-mod, mod-eq_of_lt, mod_self}
use Rattle.std.proofs.lemmas.Bool.{cases_lt}
use Rattle.dfu_asks.specs.Ahead.{ReachesSectorAt, IsErasedAhead}

-- A range that begins at a sector edge has its first sector there.
pub range_at_edge_is_at_sector : (sector at n : ℕ) → at % sector ≡ 0 → ReachesSectorAt sector at n at
range_at_edge_is_at_sector sector at n edge = record {
  low = omega arith;
  high = omega arith;
  inner = λ q low high. absurd (omega (arith, low, high));
  edge = λ lt. edge;
}

-- A range that begins within a sector has its first sector after the rest of that sector.
pub range_reaches_sector : (sector at n : ℕ) → 0 < at % sector → at % sector < sector
    → ReachesSectorAt sector at n (at + min n (sector - at % sector))
range_reaches_sector sector at n some less = record {
  low = omega arith;
  high = omega arith;
  inner = λ q low high edge.
      let k = q - at in
      let e : at + k ≡ q = omega (arith, low) in
      let is : q % sector ≡ at % sector + k = ap (λ (x : ℕ). x % sector) (sym e) ∙ sym (mod-add-mod at sector k)
      ∙ mod-eq_of_lt (omega (arith, high, low)) in
      omega (arith, is, edge, some);
  edge = λ lt.
      let k = sector - at % sector in
      let e : at + k ≡ at + min n k = omega (arith, lt) in
      let whole : at % sector + k ≡ sector = omega (arith, less) in
      ap (λ (x : ℕ). x % sector) (sym e) ∙ sym (mod-add-mod at sector k) ∙ ap (λ (x : ℕ). x % sector) whole ∙ mod_self sector;
}

-- A range is erased ahead exactly if its bytes before the next sector are FFh, as far as they lie within the flash.
pub erased_ahead_iff_front_clear : (sector : ℕ) (bytes : List ℕ) (at n to : ℕ) → 0 < sector → ReachesSectorAt sector at n to → {T : Type 0}
    → T ↔ ((p : ℕ) → at ≤ p → p < min to (length bytes) → slice_index bytes p ≡ 255) → T ↔ IsErasedAhead sector bytes at n
erased_ahead_iff_front_clear sector bytes at n to some stretch {T} test = (yes, no)
  where
    before : (p : ℕ) → p < at + n → ((q : ℕ) → at ≤ q → q ≤ p → q % sector ≢ 0) → (p < to) ⊎ (to ≤ p) → p < to
    before p high none (inl lt) = lt
    before p high none (inr le) = absurd (none to stretch.low le (stretch.edge (omega (arith, le, high))))

    yes : T → IsErasedAhead sector bytes at n
    yes t is p low high room none =
        let lt = before p high none (cases_lt p to) in
        test.0 t p low (omega (arith, lt, room))

    no : IsErasedAhead sector bytes at n → T
    no clear = test.1 (λ p low high. clear some p low (omega (arith, high, stretch.high)) (omega (arith, high))
        (λ q from le. stretch.inner q from (omega (arith, le, high))))
