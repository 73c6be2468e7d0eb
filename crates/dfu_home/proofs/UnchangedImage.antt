-- An active image in the second slot stays active while the first slot changes.
use Rattle.std.proofs.Common.{◌≡◌, inl, inr, ⊎_elim, ℕ, ◌≤◌, ◌<◌, List, length, take, slice_index, refl, sym, ◌∙◌, ap, subst, arith}
use Rattle.std.proofs.lemmas.Bool.{cases_eq}
use Rattle.dfu_suffix.specs.Register.{register}
use Rattle.dfu_slots.specs.Units.{Grain, IsWhole, gate_room}
use Rattle.dfu_slots.specs.Medium.{MediumState, ChangedWithin}
use Rattle.dfu_slots.specs.Layout.{Slot, slot, slot_size, HasOpenGate, OPEN, generation, next_generation, header, header_length, HasHeader}
use Rattle.dfu_slots.specs.Image.{gate_of, capacity_of, SlotCounts, IsNewest, Active}
use Rattle.dfu_slots.proofs.Stands.{ActiveAt}
use Rattle.dfu_slots.proofs.Sectors.{gate_room_at_least_16}
use Rattle.dfu_slots.proofs.Parts.{gate_kept_outside_change, header_kept_outside_change, data_kept_outside_change, slot_size_kept_by_change, same_length_has_two_slots, data_length}
use Rattle.dfu_slots.proofs.Counting.{formed_header_has_its_length, version_two_header_is_formed}
use Rattle.dfu_slots.proofs.Kept.{active_slot_kept, active_image_kept, open_gate_change_keeps_image, closed_slot_change_keeps_image}
use Rattle.dfu_slots.proofs.Series.{SameSize}
use Rattle.dfu_slots.proofs.VisibleStores.{active_on_same_size}
use Rattle.dfu_home.specs.Places.{first_of, second_slot_of, away_image, HasCopiedBytes, HasCopyHeader, copy_header}
use Rattle.dfu_home.proofs.SecondSlotImage.{away_header_has_image_length, active_image_is_away_image, away_image_fits_capacity}

-- Consequences of a change in the first slot while the active image is in the second.
module _ (m now : MediumState) (image : List ℕ) (from to : ℕ) (a : ActiveAt (gate_of m) m.bytes (slot_size m.bytes) 0 image)
    (whole : IsWhole m.grain (capacity_of m)) (keeps : ChangedWithin from to m.bytes now.bytes) (grain : now.grain ≡ m.grain)
    (below : to ≤ slot_size m.bytes) where
  abbrev g : ℕ
  g = gate_of m

  abbrev half : ℕ
  half = slot_size m.bytes

  wide : 16 ≤ g
  wide = gate_room_at_least_16 m.grain

  size_stays : SameSize m now
  size_stays = record { grain = grain; size = keeps.size }

  active_at_slot : ActiveAt g now.bytes half 0 image → Active now image
  active_at_slot stands = active_on_same_size half 0 image size_stays whole stands

  -- If the gate of the first slot is open, the image stays active while only this gate changes.
  pub image_stays_as_gate_closes : HasOpenGate (first_of m) → to ≤ g → Active now image
  image_stays_as_gate_closes was_open gate = active_at_slot
      (open_gate_change_keeps_image g wide m.bytes now.bytes half 0 image from to a keeps was_open (omega arith) (omega (arith, gate)))

  -- If the gate of the first slot is closed, the image stays active while the first byte of that slot doesn't change.
  pub image_stays_as_data_fills : ¬ HasOpenGate (first_of m) → 0 < from → Active now image
  image_stays_as_data_fills shut above = active_at_slot
      (closed_slot_change_keeps_image g wide m.bytes now.bytes half 0 image from to a keeps shut above (omega (arith, below)))

  -- The gate has the same size after the change, because the grain is the same.
  first_slot_keeps_gate_size : first_of now ≡ slot g now.bytes 0
  first_slot_keeps_gate_size = ap (λ (w : Grain). slot (gate_room w) now.bytes 0) grain

  -- The first slot is unchanged if only its gate changes, and the gate was open and still is.
  pub first_slot_stays_if_open : HasOpenGate (first_of m) → to ≤ g → HasOpenGate (first_of now) → first_of now ≡ first_of m
  first_slot_stays_if_open was_open gate is_open =
      let head : (slot g now.bytes 0).header
      ≡ (first_of m).header = header_kept_outside_change g from to m.bytes now.bytes 0 keeps (inr (omega (arith, gate))) in
      let body : (slot g now.bytes 0).data_bytes
      ≡ (first_of m).data_bytes = data_kept_outside_change g from to m.bytes now.bytes 0 keeps (inr (omega (arith, gate))) in
      let opened : (slot g now.bytes 0).gate ≡ (first_of m).gate = is_open ∙ sym was_open in
      first_slot_keeps_gate_size ∙ (λ i. record { gate = opened i; header = head i; data_bytes = body i })

  -- The gate of the first slot stays closed while the first byte of that slot doesn't change.
  pub first_slot_stays_shut : ¬ HasOpenGate (first_of m) → 0 < from → ¬ HasOpenGate (first_of now)
  first_slot_stays_shut shut above is_open =
      let gate : (slot g now.bytes 0).gate
      ≡ (first_of m).gate = gate_kept_outside_change g from to m.bytes now.bytes 0 keeps (inl above) in
      shut (sym gate ∙ is_open)

  -- If only the gate of a complete copy changes, the first slot is closed, or has the same image in a newer generation.
  module _ (gate : to ≤ g) (bytes : HasCopiedBytes m) (head : HasCopyHeader m) where
    abbrev s : Slot
    s = slot g now.bytes 0

    is : image ≡ away_image m
    is = active_image_is_away_image m image a

    header_now_is_copy_header : s.header ≡ copy_header m
    header_now_is_copy_header = header_kept_outside_change g from to m.bytes now.bytes 0 keeps (inr (omega (arith, gate))) ∙ head

    data_kept_by_gate_change : s.data_bytes ≡ (first_of m).data_bytes
    data_kept_by_gate_change = data_kept_outside_change g from to m.bytes now.bytes 0 keeps (inr (omega (arith, gate)))

    copied : take (length image) s.data_bytes ≡ image
    copied = ap (λ (d : List ℕ). take (length image) d) data_kept_by_gate_change
        ∙ ap (λ (n : ℕ). take n (first_of m).data_bytes) (ap length is)
        ∙ bytes ∙ sym is

    long : length s.data_bytes ≡ capacity_of m
    long = ap length data_kept_by_gate_change
        ∙ data_length g m.bytes 0 (omega (arith, a.sized.even)) (omega (arith, a.sized.room))

    header_now_is_of_image : s.header
        ≡ header 2 (next_generation (generation (second_slot_of m))) (length image) (register (take (length image)
        s.data_bytes))
    header_now_is_of_image = header_now_is_copy_header ∙ (λ i. header 2 (next_generation (generation (second_slot_of m)))
        (away_header_has_image_length m image a i) (register ((sym is ∙ sym copied) i)))

    slot_now_has_header : HasHeader s (length image)
    slot_now_has_header =
        version_two_header_is_formed s (next_generation (generation (second_slot_of m))) (length image) header_now_is_of_image
        (omega (arith, long, away_image_fits_capacity m image a))

    header_now_has_image_length : header_length s ≡ length image
    header_now_has_image_length = formed_header_has_its_length s (length image) slot_now_has_header (omega (
      arith,
      away_image_fits_capacity m
          image a,
      a.sized.bound,
    ))

    second_slot_stays : slot g now.bytes half ≡ slot g m.bytes half
    second_slot_stays = active_slot_kept g wide m.bytes now.bytes half 0 image from to a keeps (omega arith) (omega (arith, below))

    opened : HasOpenGate s → Active now image
    opened is_open = active_on_same_size 0 half image size_stays whole (record {
      sized = same_length_has_two_slots g m.bytes now.bytes keeps.size a.sized;
      places = inl (refl, sym (slot_size_kept_by_change from to m.bytes now.bytes keeps));
      newest = record {
        counts = record { is_open = is_open; intact = λ two. subst (HasHeader s) (sym header_now_has_image_length) slot_now_has_header };
        other_is_older = inr (ap (λ (h : List ℕ). slice_index h 0) header_now_is_copy_header
            ∙ sym (ap (λ (x : Slot). next_generation (generation x)) second_slot_stays));
      };
      header_is = slot_now_has_header;
      image_is = sym copied;
    })

    pub image_stays_as_gate_opens : Active now image
    image_stays_as_gate_opens = ⊎_elim opened
        (λ off. active_at_slot (active_image_kept g wide m.bytes now.bytes half 0 image from to a keeps (omega arith) (omega (arith, below))
        (inl (λ c. off c.is_open)))) (cases_eq s.gate OPEN)

    -- The first slot contains the image afterwards, whether its gate is open or closed.
    pub copied_slot_shows_image : take (header_length (first_of now)) (first_of now).data_bytes ≡ image
    copied_slot_shows_image = ap (λ (x : Slot). take (header_length x) x.data_bytes) first_slot_keeps_gate_size
        ∙ ap (λ (n : ℕ). take n s.data_bytes) header_now_has_image_length ∙ copied
