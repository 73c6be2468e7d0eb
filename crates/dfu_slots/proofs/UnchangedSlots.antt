-- Lemmas about stores whose active slot and image stay.
use Rattle.std.proofs.Common.{◌≡◌, ℕ, length, refl, sym, ◌∙◌, ap, subst}
use Rattle.dfu_slots.specs.Units.{gate_room, Grain}
use Rattle.dfu_slots.specs.Medium.{MediumState, Fuse}
use Rattle.dfu_slots.specs.Layout.{Slot}
use Rattle.dfu_slots.specs.Image.{gate_of, Active, HasImage, active_at, spare_at, spare}
use Rattle.dfu_slots.specs.StoreView.{SlotsState, store_of, image_of, room_of}
use Rattle.dfu_slots.specs.Store.{IsStore}
use Rattle.dfu_slots.specs.inside.PlaceMemory.{RemembersPlaces}
use Rattle.dfu_slots.proofs.Stands.{ActiveAt, active_image_at_its_place}
use Rattle.dfu_slots.proofs.Newest.{test_finds_active_image}
use Rattle.dfu_slots.proofs.Series.{SameSize}
use Rattle.dfu_slots.proofs.VisibleStores.{image_is, seen_image_is_active, active_on_same_size, room_kept_on_same_size, fuse_leaves_store}

-- The medium keeps its size, and its active image stays active in the same slot.
pub record ActiveImageStays (s now : SlotsState) (has : HasImage s.medium) : Type 0 where
  pub stands : ActiveAt (gate_of s.medium) now.medium.bytes has.active.at has.active.spare has.image
  pub same : SameSize s.medium now.medium

module _ (s now : SlotsState) (has : HasImage s.medium) (stays : ActiveImageStays s now has) where
  staying_image_is_active : Active now.medium has.image
  staying_image_is_active = active_on_same_size has.active.at has.active.spare has.image stays.same has.active.sized.whole stays.stands

  -- If ActiveImageStays holds, the medium of the new store has an active image.
  pub staying_image_exists : HasImage now.medium
  staying_image_exists = record { image = has.image; active = staying_image_is_active }

  -- If ActiveImageStays holds, image_of is the same for both stores.
  pub staying_image_is_seen : image_of now ≡ image_of s
  staying_image_is_seen = sym (image_is now has.image staying_image_is_active) ∙ image_is s has.image has.active

  -- If ActiveImageStays holds, the capacity is the same for both stores.
  pub staying_room_is_kept : room_of now ≡ room_of s
  staying_room_is_kept = room_kept_on_same_size s now stays.same

-- The active slots of two media have the same offset, and so do their spare slots.
pub record SamePlaces (m n : MediumState) : Type 0 where
  pub active : active_at (gate_of n) n.bytes ≡ active_at (gate_of m) m.bytes
  pub spare : spare_at (gate_of n) n.bytes ≡ spare_at (gate_of m) m.bytes

-- If ActiveImageStays holds, the active slot and the spare keep their offsets.
pub staying_image_keeps_places : (s now : SlotsState) (has : HasImage s.medium) → ActiveImageStays s now has →
    SamePlaces s.medium now.medium
staying_image_keeps_places s now has stays =
    let a = has.active in
    let g = gate_of s.medium in
    let was = test_finds_active_image g s.medium.bytes a.at a.spare has.image (active_image_at_its_place a) in
    let is = test_finds_active_image g now.medium.bytes a.at a.spare has.image stays.stands in
    record {
      active = ap (λ (w : Grain). active_at (gate_room w) now.medium.bytes) stays.same.grain ∙ sym is.0 ∙ was.0;
      spare = ap (λ (w : Grain). spare_at (gate_room w) now.medium.bytes) stays.same.grain ∙ sym is.1 ∙ was.1;
    }

-- If two media have their active slots and their spares at the same offsets, the offsets that a store caches are valid for both.
pub places_kept_by_store : {s now : SlotsState} {active spare : ℕ} → RemembersPlaces s active spare → IsStore now
    → SamePlaces s.medium now.medium
    → RemembersPlaces now active spare
places_kept_by_store kept store same = record {
  store = store;
  active_there = kept.active_there ∙ sym same.active;
  spare_there = kept.spare_there ∙ sym same.spare;
}

-- The image that a store with cached offsets shows is the active one.
pub image_at_kept_places_active : {s : SlotsState} {active spare : ℕ} → RemembersPlaces s active spare → Active s.medium (image_of s)
image_at_kept_places_active {s} kept = seen_image_is_active s kept.store.has_image

-- The offsets that a store caches stay valid if the medium's fuse changes.
pub places_kept_with_other_fuse : {s : SlotsState} {active spare : ℕ} → RemembersPlaces s active spare → (m : MediumState) (fuse : Fuse)
    → m ≡ record s.medium { fuse = fuse } → RemembersPlaces (store_of m s.held s.put_end) active spare
places_kept_with_other_fuse kept m fuse is = places_kept_by_store kept (fuse_leaves_store refl kept.store m fuse is).store
    (record {
      active = ap (λ (x : MediumState). active_at (gate_of x) x.bytes) is;
      spare = ap (λ (x : MediumState). spare_at (gate_of x) x.bytes) is;
    })

-- If the store doesn't change, its active slot and image stay.
pub active_slot_stays : (s now : SlotsState) (has : HasImage s.medium) → now ≡ s → ActiveImageStays s now has
active_slot_stays s now has same = record {
  stands = subst (λ (x : SlotsState). ActiveAt (gate_of s.medium) x.medium.bytes has.active.at has.active.spare has.image) (sym same)
      (active_image_at_its_place has.active);
  same = record { grain = ap (λ (x : SlotsState). x.medium.grain) same; size = ap (λ (x : SlotsState). length x.medium.bytes) same };
}

-- The content of the spare slot depends only on the bytes and the grain of a medium.
pub spare_same_by_grain : (m n : MediumState) → n.grain ≡ m.grain → ◌≡◌ {A = Slot} (spare (gate_of n) n.bytes) (spare (gate_of m) n.bytes)
spare_same_by_grain m n grain = ap (λ (w : Grain). spare (gate_room w) n.bytes) grain
