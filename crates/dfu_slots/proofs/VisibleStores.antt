-- Lemmas about the view of a store that has an active image.
use Rattle.std.proofs.Common.{◌≡◌, ◌==◌, not, true, false, ℕ, ◌+◌, ◌-◌, ◌*◌, ◌/◌, ◌^◌, ◌≤◌, nat_le, List, [], length, take, refl, sym, ◌∙◌, ap, subst, arith}
use Rattle.std.proofs.lemmas.Bool.{and_from, le-leb, ne_eqb, eqb-true, eqb-false, not_from_false, not_from_true, not-true, not-false, eq-eqb}
use Rattle.dfu_slots.specs.Units.{IsWhole, gate_room, Grain}
use Rattle.dfu_slots.specs.Medium.{MediumState, Fuse, written}
use Rattle.dfu_slots.specs.Layout.{OPEN, HasOpenGate, header_length}
use Rattle.dfu_slots.specs.Image.{gate_of, slot_of, capacity_of, IsSizedMedium, Active, HasImage, has_image_on_other_fuse, active_at, spare_at, spare}
use Rattle.dfu_slots.specs.StoreView.{SlotsState, store_of, store_on, store_with_fuse, spare_slot, held_data_place, data_place, image_of, spare_of, is_begun, room_of, is_shaped, fuse_changes_nothing_visible, spare_same_on_other_fuse}
use Rattle.dfu_slots.specs.Store.{HasPutBytes, IsStore}
use Rattle.dfu_slots.specs.CallResults.{FuseResult}
use Rattle.dfu_slots.proofs.Stands.{ActiveAt, active_image_at_its_place, image_at_place_is_active}
use Rattle.dfu_slots.proofs.BytesOutsideWrite.{whole_write_is_torn}
use Rattle.dfu_slots.proofs.Counting.{formed_header_has_its_length}
use Rattle.dfu_slots.proofs.Newest.{spare_data_has_capacity}
use Rattle.dfu_slots.proofs.Unique.{active_slot_has_its_header, active_image_fits, image_is_data_front}
use Rattle.dfu_slots.proofs.WritesWithinRanges.{empty_write_keeps_all}
use Rattle.dfu_slots.proofs.Series.{SameSize}
use Rattle.dfu_slots.proofs.Multiples.{held_bytes_end_at_put_end, zero_length_has_no_rest, same_size_is_whole}
use Rattle.dfu_slots.proofs.Sectors.{IsSectorEdge}
use Rattle.dfu_slots.proofs.Edges.{spare_data_begins_at_edge}
use Rattle.dfu_slots.proofs.ErasesAhead.{edge_is_writable_ahead}

-- Lemmas about the image that a store shows.

-- If an image is active on the medium, image_of returns it.
pub image_is : (s : SlotsState) (image : List ℕ) → Active s.medium image → image ≡ image_of s
unfolding image_of
image_is s image active =
    let m = s.medium in
    let here : active_at (gate_of m) m.bytes ≡ active_at (gate_of m) m.bytes = refl in
    let x = slot_of m (active_at (gate_of m) m.bytes) in
    let len : header_length x ≡ length image =
    formed_header_has_its_length x (length image) (active_slot_has_its_header here active) (omega (
      arith,
      active_image_fits here active,
      active.sized.bound,
    )) in
    image_is_data_front here active ∙ ap (λ (n : ℕ). take n x.data_bytes) (sym len)

-- If the medium has an active image, the result of image_of is active.
pub seen_image_is_active : (s : SlotsState) → HasImage s.medium → Active s.medium (image_of s)
seen_image_is_active s has = subst (λ (l : List ℕ). Active s.medium l) (image_is s has.image has.active) has.active

-- If m and n have the same size, and the data of m's slots is whole units and sectors, an image that satisfies ActiveAt on n is active on
-- n.
pub active_on_same_size : {m n : MediumState} (at spare : ℕ) (image : List ℕ) → SameSize m n → IsWhole m.grain (capacity_of m)
    → ActiveAt (gate_of m) n.bytes at spare image → Active n image
active_on_same_size {m} {n} at spare image same whole stands = image_at_place_is_active n at spare image (same_size_is_whole same whole)
    (subst (λ (w : Grain). ActiveAt (gate_room w) n.bytes at spare image) (sym same.grain) stands)

-- A store that is reopened shows the same image.
pub reopening_keeps_image : (s : SlotsState) → image_of (store_on s.medium) ≡ image_of s
unfolding image_of
reopening_keeps_image s = refl

-- Lemmas about the bytes that were put.

-- If no bytes are held back, the spare's data is that on the medium.
pub fresh_spare_is_medium_data : (m : MediumState) → spare_of (store_on m) ≡ (spare (gate_of m) m.bytes).data_bytes
unfolding spare_of
fresh_spare_is_medium_data m = empty_write_keeps_all (spare (gate_of m) m.bytes).data_bytes 0

-- The spare's data is that on the medium with the held bytes written over it.
pub spare_is_data_with_held : (s : SlotsState) → spare_of s ≡ written (spare_slot s).data_bytes (held_data_place s) s.held
unfolding spare_of
spare_is_data_with_held s = refl

-- If no bytes were put, the puts are consistent (HasPutBytes).
fresh_store_has_put_bytes : (m : MediumState) → IsSizedMedium m → HasPutBytes (store_on m)
fresh_store_has_put_bytes m sized =
    let here : spare_at (gate_of m) m.bytes + 2 * gate_of m ≡ data_place (store_on m) (held_data_place (store_on m)) = omega arith in
    record {
      fits = omega arith;
      part = sym (zero_length_has_no_rest m.grain.unit);
      ahead = edge_is_writable_ahead m (data_place (store_on m) (held_data_place (store_on m)))
          (subst (λ (n : ℕ). IsSectorEdge m.grain.sector n) here (spare_data_begins_at_edge m sized));
    }

-- If a medium has an active image, store_on of the medium satisfies IsStore.
pub medium_makes_store : (m : MediumState) → HasImage m → IsStore (store_on m)
medium_makes_store m has = record { has_image = has; puts = fresh_store_has_put_bytes m has.active.sized }

-- If no bytes are held back and put_end is 0, the store is store_on of its medium.
pub store_is_fresh : (m : MediumState) (held : List ℕ) (put_end : ℕ) → held ≡ [] → put_end ≡ 0 → store_of m held put_end ≡ store_on m
store_is_fresh m held put_end none zero_is = λ i. store_of m (none i) (zero_is i)

-- Lemmas about functions that the contracts use: room_of and is_shaped.

-- If a number is the capacity of the medium, it is room_of the store.
pub capacity_is_room : (s : SlotsState) (n : ℕ) → n ≡ capacity_of s.medium → n ≡ room_of s
unfolding room_of
capacity_is_room s n same = same

-- The result of room_of is the capacity of the store's medium.
pub room_is_capacity : (s : SlotsState) → room_of s ≡ capacity_of s.medium
unfolding room_of
room_is_capacity s = refl

-- Two stores on media of the same size have the same capacity.
pub room_kept_on_same_size : (s now : SlotsState) → SameSize s.medium now.medium → room_of now ≡ room_of s
unfolding room_of
room_kept_on_same_size s now same = λ i. same.size i / 2 - 2 * gate_room (same.grain i)

-- The puts end within the capacity.
pub put_end_within_room : {s : SlotsState} → IsStore s → s.put_end ≤ room_of s
put_end_within_room {s} store = omega (arith, room_is_capacity s, store.puts.fits)

spare_length_is_room : (s : SlotsState) → IsStore s → length (spare_of s) ≡ room_of s
spare_length_is_room s store =
    let g = gate_of s.medium in
    let bytes = s.medium.bytes in
    let whole = spare_data_has_capacity g bytes (active_image_at_its_place store.has_image.active).sized in
    ap length (spare_is_data_with_held s) ∙ (whole_write_is_torn (spare_slot s).data_bytes (held_data_place s) s.held
    (omega (arith, whole, held_bytes_end_at_put_end s store.puts, store.puts.fits))).size ∙ whole ∙ sym (room_is_capacity s)

seen_image_fits_room : (s : SlotsState) → IsStore s → length (image_of s) ≤ room_of s
seen_image_fits_room s store =
    let m = s.medium in
    let here : active_at (gate_of m) m.bytes ≡ active_at (gate_of m) m.bytes = refl in
    omega (arith, active_image_fits here (seen_image_is_active s store.has_image), room_is_capacity s)

-- Every store satisfies is_shaped.
pub store_has_shape : {s : SlotsState} → IsStore s → is_shaped s ≡ true
store_has_shape {s} store =
    and_from (length (spare_of s) == room_of s) _ (eq-eqb _ _ (spare_length_is_room s store))
    (and_from (nat_le (room_of s) (2 ^ 24)) _ (le-leb _ _ (omega (arith, room_is_capacity s, store.has_image.active.sized.bound)))
    (le-leb _ _ (seen_image_fits_room s store)))

-- A store is fresh: no bytes were put yet, so the medium determines the whole store.
pub record IsFreshStore (x : SlotsState) : Type 0 where
  pub active : Active x.medium (image_of x)
  pub shape : is_shaped x ≡ true
  pub fresh : x ≡ store_on x.medium
  pub store : IsStore x

-- A medium with an active image makes a fresh store if no bytes are held back and put_end is 0.
pub medium_makes_fresh_store : {m : MediumState} {held : List ℕ} {put_end : ℕ} → HasImage m → held ≡ [] → put_end ≡ 0
    → IsFreshStore (store_of m held put_end)
medium_makes_fresh_store {m} {held} {put_end} has none zero_is =
    let same : store_of m held put_end ≡ store_on m = store_is_fresh m held put_end none zero_is in
    let kept : IsStore (store_of m held put_end) = subst IsStore (sym same) (medium_makes_store m has) in
    record {
      active = seen_image_is_active (store_of m held put_end) has;
      shape = store_has_shape kept;
      fresh = same;
      store = kept;
    }

-- Lemmas about the spare's gate and is_begun.

-- If is_begun is true, the spare's gate is closed.
pub begun_gate_is_closed : (s : SlotsState) → is_begun s ≡ true → ¬ HasOpenGate (spare_slot s)
unfolding is_begun
begun_gate_is_closed s begun = eqb-false _ _ (not-true _ begun)

-- If the spare's gate is closed, is_begun is true.
pub closed_gate_is_begun : (s : SlotsState) → ¬ HasOpenGate (spare_slot s) → is_begun s ≡ true
unfolding is_begun
closed_gate_is_begun s shut = not_from_false _ (ne_eqb _ _ shut)

-- If the spare's gate is open, is_begun is false.
pub open_gate_not_begun : (s : SlotsState) → HasOpenGate (spare_slot s) → is_begun s ≡ false
unfolding is_begun
open_gate_not_begun s is_open = not_from_true _ (eq-eqb _ _ is_open)

-- If is_begun is false, the spare's gate is open.
pub not_begun_gate_is_open : (s : SlotsState) → is_begun s ≡ false → HasOpenGate (spare_slot s)
unfolding is_begun
not_begun_gate_is_open s off = eqb-true _ _ (not-false _ off)

-- If the spare's gate has the same first byte in two stores, is_begun is the same for both.
pub same_gate_same_begun : (s now : SlotsState) → (spare_slot now).gate ≡ (spare_slot s).gate → is_begun now ≡ is_begun s
unfolding is_begun
same_gate_same_begun s now same = ap (λ (g : ℕ). not (g == OPEN)) same

-- A lemma about media that differ only in the fuse.

-- Changing the fuse of a store's medium keeps the image, the spare's data, is_begun and the capacity, as FuseResult states.
pub fuse_leaves_store : {s v : SlotsState} → s ≡ v → IsStore s → (m : MediumState) (fuse : Fuse) → m ≡ record s.medium { fuse = fuse }
    → FuseResult v fuse (store_of m s.held s.put_end)
fuse_leaves_store {s} {v} view store m fuse is =
    let same : store_of m s.held s.put_end ≡ store_with_fuse s fuse = ap (λ (x : MediumState). store_of x s.held s.put_end) is in
    let shows = fuse_changes_nothing_visible s fuse s.held s.put_end in
    let kept : IsStore (store_of m s.held s.put_end) =
    subst IsStore (sym same) (record {
      has_image = has_image_on_other_fuse s.medium fuse store.has_image;
      puts = record { fits = store.puts.fits; part = store.puts.part; ahead = store.puts.ahead };
    }) in
    subst (λ (x : SlotsState). FuseResult x fuse (store_of m s.held s.put_end)) view
    (record {
      medium = same;
      store = kept;
      image = ap image_of same ∙ shows.image;
      spare = ap spare_of same ∙ spare_same_on_other_fuse s fuse;
      begun = ap is_begun same ∙ shows.begun;
      room = ap room_of same ∙ shows.room;
      shape = store_has_shape kept;
    })
