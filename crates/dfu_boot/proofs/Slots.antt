-- Filled slots, and changes of a medium that leave a slot unchanged.
use Rattle.std.proofs.Common.{◌≡◌, ◌⊎◌, inl, inr, ⊎_elim, ℕ, ◌+◌, ◌-◌, ◌*◌, ◌/◌, ◌^◌, ◌<◌, List, length, take, drop, slice_index, sym, ◌∙◌, ap, subst, arith}
use Rattle.std.specs.Int.{w32, from_le_bytes}
use Rattle.std.proofs.lemmas.List.{length-take-le}
use Rattle.std.proofs.lemmas.Nat.{from_le_bytes-to_le_bytes_4}
use Rattle.dfu_slots.specs.Units.{IsWhole}
use Rattle.dfu_slots.specs.Medium.{MediumState, ChangedWithin}
use Rattle.dfu_slots.specs.Layout.{Slot, slot, slot_size, ArePlaces, OPEN, header_length, HasHeader}
use Rattle.dfu_slots.specs.Image.{gate_of, slot_of, IsSizedMedium, SlotCounts, IsNewest, Active}
use Rattle.dfu_slots.proofs.Newest.{test_finds_newest_slot}
use Rattle.dfu_slots.proofs.Sectors.{gate_room_at_least_16}
use Rattle.dfu_slots.proofs.Parts.{slot_kept_outside_change, data_length}
use Rattle.dfu_boot.specs.trial.Trial.{IsFilledSlot, image_at}
use Rattle.dfu_boot.proofs.Places.{slot_places_swap, slot_ends_within_medium}

-- A well-formed header contains the length of its image.
formed_header_has_length : (s : Slot) (len : ℕ) → HasHeader s len → len < 2 ^ 32 → header_length s ≡ len
formed_header_has_length s len has fits =
    let read : List ℕ → ℕ = λ h. from_le_bytes w32 (take 4 (drop 4 h)) in
    ⊎_elim (λ e. ap read e ∙ from_le_bytes-to_le_bytes_4 len fits) (λ e. ap read e ∙ from_le_bytes-to_le_bytes_4 len fits) has.well_formed

-- If a slot counts (`SlotCounts` of dfu_slots) and has a well-formed header, the slot is filled.
pub slot_has_image : (m : MediumState) (p q len : ℕ) → IsSizedMedium m → ArePlaces m.bytes p q → SlotCounts (slot_of m p)
    → HasHeader (slot_of m p) len
    → IsFilledSlot (slot_of m p)
slot_has_image m p q len sized places counts head =
    let long = data_length (gate_of m) m.bytes p (slot_ends_within_medium m p q sized places) (omega (arith, sized.room)) in record {
      counts = counts;
      header_is = subst (HasHeader (slot_of m p))
          (sym (formed_header_has_length (slot_of m p) len head (omega (arith, head.fits, long, sized.bound)))) head;
    }

-- The image of the newest slot is active.
pub newest_image_is_active : (m : MediumState) (p q : ℕ) → IsSizedMedium m → ArePlaces m.bytes p q → IsNewest (slot_of m p) (slot_of m q)
    → IsFilledSlot (slot_of m p) → Active m (image_at m p)
newest_image_is_active m p q sized places newest full =
    let long : length (image_at m p) ≡ header_length (slot_of m p) =
    length-take-le (header_length (slot_of m p)) (slot_of m p).data_bytes full.header_is.fits in record {
      sized = sized;
      at = p;
      spare = q;
      places = places;
      newest = newest;
      header_is = subst (λ (n : ℕ). HasHeader (slot_of m p) n) (sym long) full.header_is;
      image_is = ap (λ (n : ℕ). take n (slot_of m p).data_bytes) (sym long);
    }

-- The active slot is filled.
pub active_slot_is_filled : (m : MediumState) (image : List ℕ) (a : Active m image) → IsFilledSlot (slot_of m a.at)
active_slot_is_filled m image a = slot_has_image m a.at a.spare (length image) a.sized a.places a.newest.counts a.header_is

-- The active image is that of the newest slot.
pub active_image_is_newest : (m : MediumState) (p q : ℕ) (image : List ℕ) → ArePlaces m.bytes p q → IsNewest (slot_of m p) (slot_of m q)
    → Active m image → image_at m p ≡ image
active_image_is_newest m p q image places newest a =
    let same : a.at ≡ p = (test_finds_newest_slot (gate_of m) m.bytes a.at a.spare a.places a.newest).0
    ∙ sym (test_finds_newest_slot (gate_of m) m.bytes p q places newest).0 in
    let long = data_length (gate_of m) m.bytes a.at (slot_ends_within_medium m a.at a.spare a.sized a.places) (omega (arith, a.sized.room))
    in
    let len = formed_header_has_length (slot_of m a.at) (length image) a.header_is (omega (arith, a.header_is.fits, long, a.sized.bound)) in
    ap (λ (k : ℕ). image_at m k) (sym same) ∙ ap (λ (n : ℕ). take n (slot_of m a.at).data_bytes) len ∙ sym a.image_is

module _ (m now : MediumState) (size : length now.bytes ≡ length m.bytes) where
  -- Medium with the bytes of `now` and the grain of `m`.
  abbrev pub n : MediumState
  n = record now { grain = m.grain }

  change_keeps_slot_size : slot_size now.bytes ≡ slot_size m.bytes
  change_keeps_slot_size = ap (λ (k : ℕ). k / 2) size

  -- A change that does not alter the length of a medium leaves it with two slots.
  pub change_keeps_two_slots : IsSizedMedium m → IsSizedMedium n
  change_keeps_two_slots sized = record {
    even = omega (arith, size, change_keeps_slot_size, sized.even);
    room = omega (arith, change_keeps_slot_size, sized.room);
    bound = omega (arith, change_keeps_slot_size, sized.bound);
    whole = subst (λ (k : ℕ). IsWhole m.grain (k - 2 * gate_of m)) (sym change_keeps_slot_size) sized.whole;
  }

  -- A change that does not alter the length of a medium leaves the offsets of its slots unchanged.
  pub change_keeps_slot_places : (p q : ℕ) → ArePlaces m.bytes p q → ArePlaces now.bytes p q
  change_keeps_slot_places p q there = subst (λ (k : ℕ). ((p ≡ 0) × (q ≡ k)) ⊎ ((p ≡ k) × (q ≡ 0))) (sym change_keeps_slot_size) there

module _ (m now : MediumState) (at base : ℕ) (sized : IsSizedMedium m) (places : ArePlaces m.bytes at base)
    (keeps : ChangedWithin at (at + gate_of m) m.bytes now.bytes) where
  abbrev w : MediumState
  w = record now { grain = m.grain }

  -- A change in the gate of one slot leaves the other slot unchanged.
  pub base_slot_kept_by_gate : slot (gate_of m) now.bytes base ≡ slot_of m base
  base_slot_kept_by_gate = slot_kept_outside_change (gate_of m) at (at + gate_of m) m.bytes now.bytes base keeps (gate_room_at_least_16
      m.grain) (omega (arith, sized.room))
      (⊎_elim (λ p. inr (omega (arith, p.0, p.1, sized.room))) (λ p. inl (omega (arith, p.0, p.1))) places)

  -- If the gate no longer reads as open, the other slot is the newest, provided that it is filled.
  pub base_is_newest_again : ¬ (slice_index now.bytes at ≡ OPEN) → IsFilledSlot (slot_of m base) → IsNewest (slot_of w base) (slot_of w at)
  base_is_newest_again shut full = record {
    counts = subst SlotCounts (sym base_slot_kept_by_gate) full.counts;
    other_is_older = inl (λ c.
        shut c.is_open);
  }

  pub base_image_is_active_again : ¬ (slice_index now.bytes at ≡ OPEN) → IsFilledSlot (slot_of m base) → Active w (image_at w base)
  base_image_is_active_again shut full = newest_image_is_active w base at (change_keeps_two_slots m now keeps.size sized)
      (change_keeps_slot_places m now keeps.size base at (slot_places_swap m.bytes at base places)) (base_is_newest_again shut full)
      (subst IsFilledSlot (sym base_slot_kept_by_gate) full)
