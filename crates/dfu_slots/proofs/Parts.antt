-- Lemmas about the parts of a slot, which don't change if other bytes change.
use Rattle.std.proofs.Common.{◌≡◌, ◌⊎◌, inl, inr, ⊎_elim, ℕ, ◌+◌, ◌-◌, ◌*◌, ◌/◌, ◌≤◌, ◌<◌, List, length, get_or, drop, replicate, slice_index, slice_range, sym, ◌∙◌, ap, arith, length-append, length-drop}
use Rattle.std.proofs.lemmas.List.{get_or-take, get_or-drop, length-take-le, length-replicate}
use Rattle.dfu_slots.specs.Medium.{ChangedWithin}
use Rattle.dfu_slots.specs.Layout.{slot_size, capacity, slot, generation, header, HasHeader, gate_unit, header_unit}
use Rattle.dfu_slots.proofs.Stands.{HasTwoSlots}
use Rattle.dfu_slots.proofs.BytesOutsideWrite.{range_kept_outside_write, byte_kept_outside_write}

-- The length of a gate unit is g.
pub gate_unit_has_size : (g gate : ℕ) → 16 ≤ g → length (gate_unit g gate) ≡ g
gate_unit_has_size g gate wide = omega (arith, length-replicate {A = ℕ} (g - 1) 0)

-- The length of a header unit is g.
pub header_unit_has_size : (g gen len crc : ℕ) → 16 ≤ g → length (header_unit g gen len crc) ≡ g
header_unit_has_size g gen len crc wide = omega
    (arith, length-append (header 2 gen len crc) (replicate (g - 16) 0), length-replicate {A = ℕ} (g - 16) 0)

-- The first byte after the gate of a slot is the slot's generation.
pub generation_follows_gate : (g : ℕ) (bytes : List ℕ) (at : ℕ) → slice_index bytes (at + g) ≡ generation (slot g bytes at)
generation_follows_gate g bytes at =
    let e : at + g ≡ at + g + 0 = omega arith in
    ap (λ (k : ℕ). get_or bytes k 0) e ∙ sym (get_or-drop (at + g) bytes 0 0)
    ∙ sym (get_or-take (at + g + 16 - (at + g)) (drop (at + g) bytes) 0 0 (omega arith))

-- The length of a slot's data is the capacity.
pub data_length : (g : ℕ) (bytes : List ℕ) (at : ℕ) → at + slot_size bytes ≤ length bytes → 2 * g ≤ slot_size bytes
    → length (slot g bytes at).data_bytes ≡ capacity g bytes
data_length g bytes at end room = omega (
  arith,
  length-take-le (at + slot_size bytes - (at + 2 * g)) (drop (at + 2 * g) bytes)
      (omega (arith, length-drop (at + 2 * g) bytes, end)),
)

-- If the header that was read from a slot is of version 1 and its length is at most the capacity, the slot's header is well formed.
pub read_header_is_formed : (g : ℕ) (bytes : List ℕ) (at len : ℕ) (out : List ℕ) → out ≡ (slot g bytes at).header
    → out ≡ header 1 (get_or out 0 0) len 0 → len ≤ capacity g bytes
    → at + slot_size bytes ≤ length bytes → 2 * g ≤ slot_size bytes → HasHeader (slot g bytes at) len
read_header_is_formed g bytes at len out read is fits end room = record {
  well_formed = inl (sym read ∙ is ∙ ap (λ (l : List ℕ). header 1 (get_or l 0 0) len 0) read);
  fits = omega (arith, data_length g bytes at end room);
}

-- A change within a range keeps the size of a slot.
pub slot_size_kept_by_change : (from to : ℕ) (old now : List ℕ) → ChangedWithin from to old now → slot_size now ≡ slot_size old
slot_size_kept_by_change from to old now keeps = ap (λ (n : ℕ). n / 2) keeps.size

-- If a list of bytes forms two slots, so does every list of the same length.
pub same_length_has_two_slots : (g : ℕ) (old now : List ℕ) → length now ≡ length old → HasTwoSlots g old → HasTwoSlots g now
same_length_has_two_slots g old now same sized = record {
  even = omega (arith, same, sized.even);
  room = omega (arith, same, sized.room);
  bound = omega (arith, same, sized.bound);
}

module _ (g from to : ℕ) (old now : List ℕ) (p : ℕ) (keeps : ChangedWithin from to old now) where
  -- A change outside a slot's gate keeps the gate.
  pub gate_kept_outside_change : (p < from) ⊎ (to ≤ p) → (slot g now p).gate ≡ (slot g old p).gate
  gate_kept_outside_change apart = byte_kept_outside_write from to old now p keeps apart

  -- A change outside a slot's header keeps the header.
  pub header_kept_outside_change : (p + g + 16 ≤ from) ⊎ (to ≤ p + g) → (slot g now p).header ≡ (slot g old p).header
  header_kept_outside_change apart = range_kept_outside_write from to old now (p + g) (p + g + 16) keeps apart

  -- A change outside a slot's data keeps the data.
  pub data_kept_outside_change : (p + slot_size old ≤ from) ⊎ (to ≤ p + 2 * g) → (slot g now p).data_bytes ≡ (slot g old p).data_bytes
  data_kept_outside_change apart =
      ap (λ (s : ℕ). slice_range now (p + 2 * g) (p + s)) (slot_size_kept_by_change from to old now keeps)
      ∙ range_kept_outside_write from to old now (p + 2 * g) (p + slot_size old) keeps apart

  -- A change outside a slot keeps the whole slot.
  pub slot_kept_outside_change : 16 ≤ g → 2 * g ≤ slot_size old → (p + slot_size old ≤ from) ⊎ (to ≤ p) → slot g now p ≡ slot g old p
  slot_kept_outside_change wide room apart =
      let gate : (slot g now p).gate ≡ (slot g old p).gate = gate_kept_outside_change (⊎_elim (λ le. inl (omega arith)) (λ le. inr le)
      apart) in
      let head : (slot g now p).header ≡ (slot g old p).header =
      header_kept_outside_change (⊎_elim (λ le. inl (omega arith)) (λ le. inr (omega arith)) apart) in
      let data_kept : (slot g now p).data_bytes ≡ (slot g old p).data_bytes =
      data_kept_outside_change (⊎_elim (λ le. inl le) (λ le. inr (omega arith)) apart) in
      λ i. record { gate = gate i; header = head i; data_bytes = data_kept i }
