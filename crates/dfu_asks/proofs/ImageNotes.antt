-- Notes of the active image, and the slot offsets that follow from a note.
use Rattle.std.proofs.Common.{◌≡◌, inl, inr, ⊎_elim, ◌==◌, not, Bool, true, false, if◌then◌else◌, ℕ, List, refl, sym, ◌∙◌, ap, arith}
use Rattle.std.proofs.lemmas.Bool.{cases_eq, ne_eqb}
use Rattle.dfu_slots.specs.Medium.{MediumState}
use Rattle.dfu_slots.specs.Layout.{OPEN, slot_size, ArePlaces}
use Rattle.dfu_slots.specs.Image.{gate_of, active_at, spare_at}
use Rattle.dfu_slots.specs.StoreView.{SlotsState, spare_slot, is_begun}
use Rattle.dfu_slots.proofs.Newest.{tested_places_are_slots}
use Rattle.dfu_asks.specs.declared.noted.Noted.{Noted}
use Rattle.dfu_asks.specs.Noted.{other_slot_place, IsNoteOfMedium}

-- A note names the active slot if it names the second slot exactly when the active slot doesn't begin at 0.
pub noted_slot_is_active : (g : ℕ) (bytes : List ℕ) (at : ℕ) → at ≡ active_at g bytes
    → (if not (at == 0) then slot_size bytes else 0) ≡ active_at g bytes
noted_slot_is_active g bytes at is = elim (cases_eq at 0) [
  | inl none ↦
      ap (λ (b : Bool). if not b then slot_size bytes else 0) (ap (λ (k : ℕ). k == 0) none) ∙ sym none ∙ is
  | inr some ↦
      ap (λ (b : Bool). if not b then slot_size bytes else 0) (ne_eqb at 0 some)
      ∙ ⊎_elim (λ p. absurd (some (is ∙ p.0))) (λ p. sym p.0) (tested_places_are_slots g bytes)
]

module _ (n : Noted) (m : MediumState) (noted : IsNoteOfMedium n m) where
  -- The slot that the note doesn't name is the spare slot.
  pub slot_beside_noted_is_spare : other_slot_place n m.bytes ≡ spare_at (gate_of m) m.bytes
  slot_beside_noted_is_spare = by_slot n.second noted.place (tested_places_are_slots (gate_of m) m.bytes)
    where
      by_slot : (b : Bool) → (if b then slot_size m.bytes else 0) ≡ active_at (gate_of m) m.bytes
          → ArePlaces m.bytes (active_at (gate_of m) m.bytes) (spare_at (gate_of m) m.bytes)
          → (if b then 0 else slot_size m.bytes) ≡ spare_at (gate_of m) m.bytes
      by_slot true is (inl p) = omega (arith, is, p.0, p.1)
      by_slot true is (inr p) = sym p.1
      by_slot false is (inl p) = sym p.1
      by_slot false is (inr p) = omega (arith, is, p.0, p.1)

-- A store is begun exactly if the gate of its spare slot is not open.
pub begun_exactly_if_gate_closed : (s : SlotsState) → not ((spare_slot s).gate == OPEN) ≡ is_begun s
unfolding is_begun
begun_exactly_if_gate_closed s = refl

-- The gate of the spare slot is open exactly if the store is not begun.
pub gate_open_exactly_if_not_begun : (s : SlotsState) → ((spare_slot s).gate == OPEN) ≡ not (is_begun s)
unfolding is_begun
gate_open_exactly_if_not_begun s = not_not ((spare_slot s).gate == OPEN)
  where
    not_not : (b : Bool) → b ≡ not (not b)
    not_not true = refl
    not_not false = refl
