-- Writes in the spare's data keep the active image and the spare's gate.
use Rattle.std.proofs.Common.{◌≡◌, inl, ℕ, ◌+◌, ◌-◌, ◌*◌, ◌/◌, ◌≤◌, List, ◌++◌, length, take, drop, slice_index, slice_range, sym, ◌∙◌, ap, arith}
use Rattle.dfu_slots.specs.Medium.{MediumState, Write, ChangedWithin, written}
use Rattle.dfu_slots.specs.Layout.{slot_size, capacity, slot, HasOpenGate}
use Rattle.dfu_slots.specs.Image.{spare_at, spare}
use Rattle.dfu_slots.proofs.Stands.{HasTwoSlots, ActiveAt}
use Rattle.std.proofs.lemmas.List.{take-take, drop-drop}
use Rattle.std.proofs.Math.Seq.{take-add}
use Rattle.dfu_slots.proofs.ReadBack.{range_by_its_length}
use Rattle.dfu_slots.proofs.BytesOutsideWrite.{whole_write_is_torn, range_kept_outside_write}
use Rattle.dfu_slots.proofs.Parts.{gate_kept_outside_change}
use Rattle.dfu_slots.proofs.Newest.{test_finds_active_image, slot_place_ends_within, spare_place_ends_within}
use Rattle.dfu_slots.proofs.Kept.{closed_slot_change_keeps_image}
use Rattle.dfu_slots.proofs.Series.{AllWritesInside, WritesEnded, SameSize, ended_writes_keep_rest, writes_keep_size}
use Rattle.dfu_slots.proofs.WritesWithErases.{LeavesBytesAt}
use Rattle.dfu_slots.proofs.WritesWithinRanges.{range_written_within}
use Rattle.dfu_slots.proofs.BeginMedium.{spare_stays_at_its_place}

-- Writes in the spare's data change nothing else: the active image and the spare stay in their slots, and the spare's gate stays.
pub record SpareDataResult (g : ℕ) (s now : MediumState) (mine other : ℕ) (image : List ℕ) : Type 0 where
  pub kept : ChangedWithin (other + 2 * g) (other + slot_size s.bytes) s.bytes now.bytes
  pub same : SameSize s now
  pub stands : ActiveAt g now.bytes mine other image
  pub spare_place_stays : spare_at g now.bytes ≡ spare_at g s.bytes
  pub gate_at_spare_place : (slot g now.bytes other).gate ≡ (slot g s.bytes other).gate
  pub gate : (spare g now.bytes).gate ≡ (spare g s.bytes).gate

-- Writes in the data of a closed spare change nothing else, even if one of them fails.
pub closed_spare_data_result : (g : ℕ) → 16 ≤ g → (s now : MediumState) (mine other : ℕ) (image : List ℕ) →
    ActiveAt g s.bytes mine other image
    → ¬ HasOpenGate (slot g s.bytes other) → (ws : List Write) → AllWritesInside (other + 2 * g) (other + slot_size s.bytes) ws →
    WritesEnded s ws now
    → SpareDataResult g s now mine other image
closed_spare_data_result g wide s now mine other image a shut ws inside ends =
    let from = other + 2 * g in
    let to = other + slot_size s.bytes in
    let end = (slot_place_ends_within g s.bytes mine other a.sized a.places).1 in
    let kept = ended_writes_keep_rest from to ws s now end inside ends in
    let stands = closed_slot_change_keeps_image g wide s.bytes now.bytes mine other image from to a kept shut (omega (arith, wide)) (omega
    arith) in
    let place = (test_finds_active_image g s.bytes mine other image a).1 in
    let stays = spare_stays_at_its_place g s.bytes now.bytes mine other image a stands in
    let gate_at_spare_place : (slot g now.bytes other).gate ≡ (slot g s.bytes other).gate =
    gate_kept_outside_change g from to s.bytes now.bytes other kept (inl (omega arith)) in
    record {
      kept = kept;
      same = writes_keep_size from to ws s now end inside ends;
      stands = stands;
      spare_place_stays = stays;
      gate_at_spare_place = gate_at_spare_place;
      gate = ap (λ (q : ℕ). slice_index now.bytes q) (stays ∙ sym place) ∙ gate_at_spare_place
          ∙ ap (λ (q : ℕ). slice_index s.bytes q) place;
    }

-- A write in a slot's data stores its bytes at the same offset of the data.
pub write_is_in_slot_data : (g : ℕ) (old now : List ℕ) (p k : ℕ) (new : List ℕ) → p + slot_size old ≤ length old
    → 2 * g + k + length new ≤ slot_size old → now ≡ written old (p + 2 * g + k) new
    → (slot g now p).data_bytes ≡ written (slot g old p).data_bytes k new
write_is_in_slot_data g old now p k new end fits is =
    let torn = whole_write_is_torn old (p + 2 * g + k) new (omega (arith, end, fits)) in
    let size : slot_size now ≡ slot_size old = omega (arith, ap length is, torn.size) in
    (λ i. slice_range (is i) (p + 2 * g) (p + size i))
    ∙ range_written_within old (p + 2 * g) (p + slot_size old) k new (omega (arith, fits)) end

-- A write in the spare's data stores its bytes at the same offset of the data.
pub write_is_in_spare_data : (g : ℕ) (old now : List ℕ) → HasTwoSlots g old → spare_at g now ≡ spare_at g old
    → (k : ℕ) (new : List ℕ) → k + length new ≤ capacity g old → now ≡ written old (spare_at g old + 2 * g + k) new
    → (spare g now).data_bytes ≡ written (spare g old).data_bytes k new
write_is_in_spare_data g old now sized same k new fits is =
    ap (λ (q : ℕ). (slot g now q).data_bytes) same
    ∙ write_is_in_slot_data g old now (spare_at g old) k new (spare_place_ends_within g old sized) (omega (arith, fits, sized.room)) is

-- If a write stored bytes at offset k of a slot's data, and no byte before them changed, the data begins with the old k bytes and then
-- holds the new ones.
pub write_extends_slot_front : (g : ℕ) (old now : List ℕ) (p k : ℕ) (new : List ℕ) (to : ℕ) → 2 * g + k + length new ≤ slot_size old
    → LeavesBytesAt (p + 2 * g + k) to new old now
    → take (k + length new) (slot g now p).data_bytes ≡ take k (slot g old p).data_bytes ++ new
write_extends_slot_front g old now p k new to fits (keeps, stands) =
    let q = p + 2 * g in
    let n = length new in
    let size : slot_size now ≡ slot_size old = ap (λ (j : ℕ). j / 2) keeps.size in
    let first : take k (drop q now) ≡ take k (slot g old p).data_bytes =
    sym (range_by_its_length now q k) ∙ range_kept_outside_write (q + k) to old now q (q + k) keeps (inl (omega arith))
    ∙ range_by_its_length old q k
    ∙ sym (take-take k (p + slot_size old - q) (drop q old) (omega (arith, fits))) in
    let second : take n (drop k (drop q now)) ≡ new =
    ap (λ (l : List ℕ). take n l) (drop-drop k q now) ∙ sym (range_by_its_length now (q + k) n) ∙ stands in
    take-take (k + n) (p + slot_size now - q) (drop q now) (omega (arith, size, fits))
    ∙ take-add k n (drop q now) ∙ (λ i. first i ++ second i)

-- If a write stored bytes at offset k of the spare's data, and no byte before them changed, the data begins with the old k bytes and then
-- holds the new ones.
pub write_extends_spare_front : (g : ℕ) (old now : List ℕ) → HasTwoSlots g old → spare_at g now ≡ spare_at g old
    → (k : ℕ) (new : List ℕ) (to : ℕ) → k + length new ≤ capacity g old
    → LeavesBytesAt (spare_at g old + 2 * g + k) to new old now
    → take (k + length new) (spare g now).data_bytes ≡ take k (spare g old).data_bytes ++ new
write_extends_spare_front g old now sized same k new to fits left =
    ap (λ (q : ℕ). take (k + length new) (slot g now q).data_bytes) same
    ∙ write_extends_slot_front g old now (spare_at g old) k new to (omega (arith, fits, sized.room)) left
