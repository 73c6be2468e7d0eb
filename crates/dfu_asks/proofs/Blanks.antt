-- Blank flash has no image, because both of its gates read FFh.
use Rattle.std.proofs.Common.{◌≡◌, ⊎_elim, ℕ, ◌+◌, ◌-◌, ◌*◌, ◌<◌, ◌≤◌, false, List, length, get_or, take, drop, slice_index, sym, ◌∙◌, ap, arith, length-drop}
use Rattle.std.specs.List.{list_all}
use Rattle.std.proofs.lemmas.Bool.{true≢false}
use Rattle.std.proofs.lemmas.List.{get_or-take, get_or-drop, length-take-le}
use Rattle.std.proofs.lemmas.List.Folds.{list_all_at}
use Rattle.dfu_slots.specs.Units.{Grain, gate_room}
use Rattle.dfu_slots.specs.Layout.{slot_size, OPEN}
use Rattle.dfu_slots.specs.Image.{HasImage}
use Rattle.dfu_asks.specs.Mapped.{mapped_medium}
use Rattle.dfu_asks.specs.Blank.{is_erased_byte, gate_and_header_of, AreSlotFrontsErased}

module _ (grain : Grain) (flash : List ℕ) where
  -- The gate and the header of a slot can't all be FFh if the gate is open.
  open_gate_front_is_not_erased : (at : ℕ) → at + 2 * gate_room grain ≤ length flash → 0 < gate_room grain → slice_index flash at ≡ OPEN
      → list_all is_erased_byte (gate_and_header_of grain flash at) ≡ false
  open_gate_front_is_not_erased at fits some gate =
      let n : ℕ = at + 2 * gate_room grain - at in
      let first : get_or (take n (drop at flash)) 0 0 ≡ slice_index flash at = get_or-take n (drop at flash) 0 0 (omega (arith, some))
      ∙ get_or-drop at flash 0 0 ∙ ap (λ (k : ℕ). get_or flash k 0) (omega arith) in
      list_all_at is_erased_byte (take n (drop at flash)) 0 0
      (omega (arith, some, fits, length-drop at flash, length-take-le n (drop at flash) (omega (arith, fits, length-drop at flash))))
      (ap is_erased_byte (first ∙ gate))

  -- A gate occupies at least one byte.
  gate_lies_in_front : 0 < gate_room grain
  gate_lies_in_front = omega arith

  pub blank_flash_has_no_image : AreSlotFrontsErased grain flash → ¬ HasImage (mapped_medium grain flash)
  blank_flash_has_no_image blank has =
      let a = has.active in
      let is_open = a.newest.counts.is_open in
      ⊎_elim
      (λ p. true≢false (sym blank.first ∙ open_gate_front_is_not_erased 0 (omega (arith, a.sized.room, a.sized.even)) gate_lies_in_front
      (ap (λ (k : ℕ). slice_index flash k) (sym p.0) ∙ is_open)))
      (λ p. true≢false (sym blank.second ∙ open_gate_front_is_not_erased (slot_size flash) (omega (arith, a.sized.room, a.sized.even))
      gate_lies_in_front
      (ap (λ (k : ℕ). slice_index flash k) (sym p.0) ∙ is_open)))
      a.places
