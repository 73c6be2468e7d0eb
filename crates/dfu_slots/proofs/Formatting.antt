-- Lemmas about the steps of a `format`, which keep the length and the grain of the medium.
use Rattle.std.proofs.Common.{◌≡◌, inr, ℕ, ◌+◌, ◌*◌, ◌≤◌, List, [], ◌++◌, length, Result, refl, sym, ap, subst, arith}
use Rattle.dfu_suffix.specs.Register.{register}
use Rattle.dfu_slots.specs.declared.layout.Unit.{Unit as WriteUnit}
use Rattle.dfu_slots.specs.declared.layout.Unit.TheVariants.{Byte, U16, U64, U256}
use Rattle.dfu_slots.specs.Units.{Grain, IsMultiple, filled_units}
use Rattle.dfu_slots.specs.declared.fault.WriteFault.{WriteFault}
use Rattle.dfu_slots.specs.Medium.{MediumState, Write, AllWrites, BrokenWrites, IsWritableAhead}
use Rattle.dfu_slots.specs.inside.Series.{Series}
use Rattle.dfu_slots.specs.Layout.{slot_size}
use Rattle.dfu_slots.specs.Image.{gate_of, capacity_of, IsSizedMedium, Active}
use Rattle.dfu_slots.specs.Writes.{close_writes, image_writes, open_writes, held_writes, write_some}
use Rattle.dfu_slots.specs.Operations.{held_from}
use Rattle.dfu_slots.specs.StoreView.{SlotsState, store_of, image_of, format_series}
use Rattle.dfu_slots.specs.Changes.{CanFormat}
use Rattle.dfu_slots.proofs.Stands.{sized_medium_has_two_slots}
use Rattle.dfu_slots.proofs.Series.{AllWritesInside, SameSize, all_writes_keep_size, size_is_transitive, two_lists_work_as_one, first_part_may_break, second_part_may_break, series_extends, appended_writes_inside}
use Rattle.dfu_slots.proofs.Pieces.{piece_writes_lie_inside}
use Rattle.dfu_slots.proofs.ImagePieces.{same_size_can_be_formatted}
use Rattle.dfu_slots.proofs.Sectors.{IsSectorEdge, first_byte_is_edge, gate_room_is_multiple}
use Rattle.dfu_slots.proofs.SlotOpened.{open_writes_in_gate_and_header}
use Rattle.dfu_slots.proofs.Multiples.{zero_is_multiple, sum_is_multiple, filled_bytes_within, same_size_is_sized}
use Rattle.dfu_slots.proofs.VisibleStores.{active_on_same_size, image_is, IsFreshStore, medium_makes_fresh_store}
use Rattle.dfu_slots.proofs.Formatted.{formatted_image_is_active}
use Rattle.dfu_slots.proofs.Edges.{sized_medium_ends_at_edge, data_begins_at_edge}
use Rattle.dfu_slots.proofs.ErasesAhead.{edge_is_writable_ahead}
use Rattle.dfu_slots.proofs.BeginMedium.{closed_gate_fits_room}

-- An image that fits into the data of a slot still fits when zeros fill its last unit.
filled_image_fits_capacity : (s : MediumState) (image : List ℕ) → CanFormat s image → length (filled_units s.grain.unit image)
    ≤ capacity_of s
filled_image_fits_capacity s image can = filled_bytes_within s.grain.unit (capacity_of s) image can.sized.whole.units can.fits

-- The writes that close both gates lie within the medium.
pub close_writes_lie_inside : (s : MediumState) → IsSizedMedium s → AllWritesInside 0 (length s.bytes) (close_writes s.grain s.bytes)
close_writes_lie_inside s sized =
    let most = closed_gate_fits_room s.grain in
    (omega arith, omega (arith, most, sized.room, sized.even), (omega arith, omega (arith, most, sized.room, sized.even), tt))

-- The writes of the image lie within the medium.
pub image_writes_lie_inside : (s : MediumState) (image : List ℕ) → CanFormat s image →
    AllWritesInside 0 (length s.bytes) (image_writes s.grain image)
image_writes_lie_inside s image can =
    let units = filled_units s.grain.unit image in
    piece_writes_lie_inside s.grain.sector (length units) 0 (length s.bytes) (2 * gate_of s) units (sized_medium_ends_at_edge s can.sized)
    (omega arith)
    (omega (arith, filled_image_fits_capacity s image can, can.sized.room, can.sized.even))

-- Lemmas about all writes of a `format`.

-- The writes of a `format` make the image active.
format_writes_activate_image : (s now : MediumState) (image : List ℕ) → CanFormat s image → AllWrites s (format_series s image) now →
    Active now image
format_writes_activate_image s now image can all =
    let to = length s.bytes in
    let closing = close_writes s.grain s.bytes in
    let opening = open_writes s.grain 0 0 (length image) (register image) in
    let inside = appended_writes_inside 0 to (closing ++ image_writes s.grain image) opening
    (appended_writes_inside 0 to closing (image_writes s.grain image) (close_writes_lie_inside s can.sized) (image_writes_lie_inside s
    image can))
    (open_writes_in_gate_and_header s.grain 0 to 0 0 (length image) (register image) (sized_medium_ends_at_edge s can.sized) (omega arith)
    (omega (arith, can.sized.room, can.sized.even))) in
    active_on_same_size 0 (slot_size now.bytes) image (all_writes_keep_size (format_series s image) s now inside all) can.sized.whole
    (formatted_image_is_active s.grain s now image (sized_medium_has_two_slots s can.sized) can.sized.whole can.fits all)

-- The first slot may be opened, with no bytes held back.
pub record MayOpenFirst (m : MediumState) : Type 0 where
  pub sized : IsSizedMedium m
  pub slot : 0 + slot_size m.bytes ≤ length m.bytes
  pub place : IsMultiple m.grain.unit 0
  pub sector : IsSectorEdge m.grain.sector 0
  pub ahead : IsWritableAhead m (held_from m.grain 0 0 0)
  pub within : held_from m.grain 0 0 0 + length (filled_units m.grain.unit []) ≤ length m.bytes
  pub whole : IsMultiple m.grain.unit (held_from m.grain 0 0 0)

-- Filling the empty list up to a unit adds no zeros.
filling_no_bytes_gives_none : (u : WriteUnit) → filled_units u [] ≡ []
filling_no_bytes_gives_none Byte = refl
filling_no_bytes_gives_none U16 = refl
filling_no_bytes_gives_none U64 = refl
filling_no_bytes_gives_none U256 = refl

-- The steps of `write_image`: it closes the gates, writes the pieces, and opens the first slot.
module _ {s : MediumState} {image : List ℕ} (can : CanFormat s image) (mid : MediumState)
    (closed : AllWrites s (close_writes s.grain s.bytes) mid) where
  size_kept_after_close : SameSize s mid
  size_kept_after_close = all_writes_keep_size (close_writes s.grain s.bytes) s mid (close_writes_lie_inside s can.sized) closed

  -- After the gates are closed the image can be written.
  pub closed_medium_can_be_formatted : CanFormat mid image
  closed_medium_can_be_formatted = same_size_can_be_formatted size_kept_after_close can

  close_keeps_image_writes : image_writes mid.grain image ≡ image_writes s.grain image
  close_keeps_image_writes = ap (λ (w : Grain). image_writes w image) size_kept_after_close.grain

  -- If the write of a piece fails, its fault interrupts the `format`.
  pub format_broken_at_pieces : (fault : WriteFault) (now : MediumState) → BrokenWrites fault mid (image_writes mid.grain image) now
      → BrokenWrites fault s (format_series s image) now
  format_broken_at_pieces fault now broken =
      first_part_may_break fault (close_writes s.grain s.bytes ++ image_writes s.grain image)
      (open_writes s.grain 0 0 (length image) (register image)) s now
      (second_part_may_break fault (close_writes s.grain s.bytes) (image_writes s.grain image) s mid now closed
      (subst (λ (ws : List Write). BrokenWrites fault mid ws now) close_keeps_image_writes broken))

  -- Facts after all pieces are written.
  module _ (filling : MediumState) (all : AllWrites mid (image_writes mid.grain image) filling) where
    pieces_written_on_medium : AllWrites mid (image_writes s.grain image) filling
    pieces_written_on_medium = subst (λ (ws : List Write). AllWrites mid ws filling) close_keeps_image_writes all

    size_kept_by_pieces : SameSize mid filling
    size_kept_by_pieces = all_writes_keep_size (image_writes mid.grain image) mid filling (image_writes_lie_inside mid image
        closed_medium_can_be_formatted) all

    size_kept_after_pieces : SameSize s filling
    size_kept_after_pieces = size_is_transitive size_kept_after_close size_kept_by_pieces

    -- After all pieces are written, the first slot may be opened.
    pub first_slot_may_open : MayOpenFirst filling
    first_slot_may_open =
        let sized = same_size_is_sized size_kept_after_pieces can.sized in
        let w = filling.grain in
        let g = gate_of filling in
        let here : 0 + 2 * g ≡ held_from w 0 0 0 = omega arith in
        let room = gate_room_is_multiple w (capacity_of filling) sized.whole in
        let there : g + g ≡ held_from w 0 0 0 = omega arith in
        record {
          sized = sized;
          slot = omega (arith, sized.even);
          place = zero_is_multiple w.unit;
          sector = first_byte_is_edge w.sector;
          ahead = edge_is_writable_ahead filling (held_from w 0 0 0) (subst (λ (n : ℕ). IsSectorEdge w.sector n) here
              (data_begins_at_edge w filling.bytes (sized_medium_has_two_slots filling sized) sized.whole (slot_size filling.bytes) 0 (inr
              (refl, refl))));
          within = omega (arith, ap length (filling_no_bytes_gives_none w.unit), sized.room, sized.even);
          whole = subst (λ (n : ℕ). IsMultiple w.unit n) there (sum_is_multiple w.unit g g room room);
        }

    -- The writes that open the first slot are the last ones of the `format`.
    pub format_ends_with_opening : {T : Type 0} (now : MediumState) (r : Result T WriteFault)
        → Series filling (held_writes filling.grain (held_from filling.grain 0 0 0) []
        ++ open_writes filling.grain 0 0 (length image) (register image)) r now
        → Series s (format_series s image) r now
    format_ends_with_opening now r series =
        let w = filling.grain in
        series_extends (close_writes s.grain s.bytes ++ image_writes s.grain image)
        (open_writes s.grain 0 0 (length image) (register image)) s filling now r
        (two_lists_work_as_one (close_writes s.grain s.bytes) (image_writes s.grain image) s mid filling closed pieces_written_on_medium)
        (subst (λ (v : Grain). Series filling (open_writes v 0 0 (length image) (register image)) r now) size_kept_after_pieces.grain
        (subst (λ (ws : List Write). Series filling (ws ++ open_writes w 0 0 (length image) (register image)) r now)
        (ap (λ (l : List ℕ). write_some w.sector (held_from w 0 0 0) l) (filling_no_bytes_gives_none w.unit)) series))

-- If a medium and an image pass the checks of `format`, the medium can be formatted with the image.
pub tested_can_be_formatted : {s : MediumState} (image : List ℕ) {a b : ℕ} → IsSizedMedium s → length image ≤ b → b ≡ a → a ≡ capacity_of s
    → CanFormat s image
tested_can_be_formatted image sized le one two = record { sized = sized; fits = omega (arith, le, one, two) }

-- The store after a `format` shows the image, and no bytes were put yet.
pub record StoreAfterFormat (x : SlotsState) (image : List ℕ) : Type 0 where
  pub active : Active x.medium image
  pub image_is : image_of x ≡ image
  pub fresh : IsFreshStore x

-- A store on the formatted medium, with no bytes held back and a put_end of 0, satisfies StoreAfterFormat.
pub format_leaves_its_store : {s : MediumState} {image : List ℕ} (now : MediumState) → CanFormat s image →
    AllWrites s (format_series s image) now
    → {held : List ℕ} {put_end : ℕ} → held ≡ [] → put_end ≡ 0 → StoreAfterFormat (store_of now held put_end) image
format_leaves_its_store {s} {image} now can all {held} {put_end} none zero_is =
    let active : Active now image = format_writes_activate_image s now image can all in
    record {
      active = active;
      image_is = sym (image_is (store_of now held put_end) image active);
      fresh = medium_makes_fresh_store (record { image = image; active = active }) none zero_is;
    }

-- Writing may begin at the first slot's data, because a sector begins there.
pub first_data_is_writable_ahead : (m : MediumState) → IsSizedMedium m → IsWritableAhead m (2 * gate_of m)
first_data_is_writable_ahead m sized =
    let here : 0 + 2 * gate_of m ≡ 2 * gate_of m = omega arith in
    edge_is_writable_ahead m (2 * gate_of m) (subst (λ (n : ℕ). IsSectorEdge m.grain.sector n) here
    (data_begins_at_edge m.grain m.bytes (sized_medium_has_two_slots m sized) sized.whole (slot_size m.bytes) 0 (inr (refl, refl))))
