-- After a format the image is active on the medium.
use Rattle.std.proofs.Common.{◌≡◌, ◌≢◌, inl, inr, ⊎_elim, ℕ, zero, suc, ◌+◌, ◌-◌, ◌*◌, ◌≤◌, ◌<◌, List, [], ◌∷◌, length, take, drop, replicate, slice_index, slice_range, refl, sym, ◌∙◌, ap, subst, arith, length-drop, take-append-drop}
use Rattle.std.proofs.lemmas.List.{length-take, take_all, take_at, drop_all, take-take}
use Rattle.std.proofs.lemmas.Bool.{cases_lt}
use Rattle.dfu_suffix.specs.Register.{register}
use Rattle.dfu_slots.specs.Units.{Grain, gate_size, gate_room, IsWhole, fill_size, filled_units}
use Rattle.dfu_slots.specs.Medium.{MediumState, Write, ChangedWithin, written, AllWrites}
use Rattle.dfu_slots.specs.Layout.{slot_size, capacity, slot, OPEN, header, HasHeader, gate_unit, header_unit}
use Rattle.dfu_slots.specs.Writes.{closed_gate, erasing_write, piece_writes, image_writes, open_writes, format_writes}
use Rattle.dfu_slots.proofs.Stands.{HasTwoSlots, ActiveAt}
use Rattle.dfu_slots.proofs.Counting.{formed_header_has_its_length, version_two_header_is_formed}
use Rattle.dfu_slots.proofs.BytesOutsideWrite.{whole_write_is_torn, range_kept_outside_write, byte_kept_outside_write, no_change_keeps_all, wider_frame_holds}
use Rattle.dfu_slots.proofs.Parts.{gate_unit_has_size, header_unit_has_size, data_length, same_length_has_two_slots}
use Rattle.dfu_slots.proofs.Series.{list_has_two_parts}
use Rattle.dfu_slots.proofs.ReadBack.{HasBytesAt, empty_list_is_at_any_place, range_by_its_length}
use Rattle.dfu_slots.proofs.WritesWithErases.{LeavesBytesAt, IsWrittenAfterErases, left_bytes_join, erasing_write_leaves_bytes, write_goes_over_erases}
use Rattle.dfu_slots.proofs.Sectors.{IsSectorEdge, gate_unit_at_least_16, gate_room_at_least_16}
use Rattle.dfu_slots.proofs.Edges.{second_slot_begins_sector, header_begins_at_edge, data_begins_at_edge}
use Rattle.dfu_slots.proofs.Multiples.{filled_length_sums, filled_bytes_within}
use Rattle.dfu_slots.proofs.Pieces.{no_bytes_no_pieces}
use Rattle.dfu_slots.proofs.BeginMedium.{closed_gate_fits_room, written_closed_gate_is_closed, unit_begins_with_gate}
use Rattle.dfu_slots.proofs.Commit.{unit_begins_with_header}

-- If a list of bytes at offset `at` ends at or before `to`, so does its first piece of 4096 bytes.
piece_ends_within : (at to : ℕ) (bytes : List ℕ) → at + length bytes ≤ to → at + length (take 4096 bytes) ≤ to
piece_ends_within at to bytes fits = omega (arith, fits, length-take 4096 bytes)

-- If less than a full piece is left, writing one piece stores all bytes.
last_piece_leaves_bytes : (sector n at to : ℕ) (bytes : List ℕ) (s mid now : MediumState) → length bytes < 4096
    → LeavesBytesAt at to (take 4096 bytes) s.bytes mid.bytes → AllWrites mid (piece_writes sector n (at + 4096) (drop 4096 bytes)) now
    → LeavesBytesAt at to bytes s.bytes now.bytes
last_piece_leaves_bytes sector n at to bytes s mid now short left more =
    let none : drop 4096 bytes ≡ [] = drop_all 4096 bytes (omega (arith, short)) in
    let equal : take 4096 bytes ≡ bytes = take_all 4096 bytes (omega (arith, short)) in
    let same : now ≡ mid = subst (λ (ws : List Write). AllWrites mid ws now)
    (ap (λ (l : List ℕ). piece_writes sector n (at + 4096) l) none ∙ no_bytes_no_pieces sector n (at + 4096)) more in
    subst (λ (m : MediumState). LeavesBytesAt at to bytes s.bytes m.bytes) (sym same)
    (left.0, subst (λ (l : List ℕ). HasBytesAt mid.bytes at l) equal left.1)

-- If at least one full piece is left, writing it and then the remaining pieces stores all bytes.
full_piece_leaves_bytes : (n at to : ℕ) (bytes s mid now : List ℕ) → 4096 ≤ length bytes → length bytes ≤ suc n → at + length bytes
    ≤ to → to ≤ length s
    → LeavesBytesAt at to (take 4096 bytes) s mid
    → (length (drop 4096 bytes) ≤ n → at + 4096 + length (drop 4096 bytes) ≤ to → to ≤ length mid
    → LeavesBytesAt (at + 4096) to (drop 4096 bytes) mid now)
    → LeavesBytesAt at to bytes s now
full_piece_leaves_bytes n at to bytes s mid now long le fits room left others =
    let front = length-take 4096 bytes in
    let back = length-drop 4096 bytes in
    let more = others (omega (arith, back, le)) (omega (arith, back, fits, long)) (omega (arith, room, left.0.size)) in
    subst (λ (l : List ℕ). LeavesBytesAt at to l s now) (take-append-drop 4096 bytes)
    (left_bytes_join at to 4096 (take 4096 bytes) (drop 4096 bytes) s mid now (omega (arith, front, long))
    (omega (arith, front, back, fits, long)) room left more)

-- Writing the pieces stores all bytes at `at`. No byte before `at` changes, nor any byte from `to` on.
pub pieces_leave_bytes : (sector to : ℕ) → IsSectorEdge sector to → (n at : ℕ) (bytes : List ℕ) (s now : MediumState) → length bytes ≤ n
    → at + length bytes ≤ to → to ≤ length s.bytes → AllWrites s (piece_writes sector n at bytes) now
    → LeavesBytesAt at to bytes s.bytes now.bytes
pieces_leave_bytes sector to edge zero at [] s now le fits room same =
    (no_change_keeps_all at to s.bytes now.bytes (ap (λ (m : MediumState). m.bytes) same), empty_list_is_at_any_place now.bytes at)
pieces_leave_bytes sector to edge zero at (b ∷ bs) s now le fits room same = absurd (omega arith)
pieces_leave_bytes sector to edge (suc n) at [] s now le fits room same =
    (no_change_keeps_all at to s.bytes now.bytes (ap (λ (m : MediumState). m.bytes) same), empty_list_is_at_any_place now.bytes at)
pieces_leave_bytes sector to edge (suc n) at (b ∷ bs) s now le fits room all =
    let parts = list_has_two_parts (erasing_write sector at (take 4096 (b ∷ bs)))
    (piece_writes sector n (at + 4096) (drop 4096 (b ∷ bs))) s now all in
    let high = piece_ends_within at to (b ∷ bs) fits in
    let left = erasing_write_leaves_bytes sector to at (take 4096 (b ∷ bs)) edge high s parts.0 room parts.1.first in
    ⊎_elim
    (λ short. last_piece_leaves_bytes sector n at to (b ∷ bs) s parts.0 now short left parts.1.second)
    (λ long. full_piece_leaves_bytes n at to (b ∷ bs) s.bytes parts.0.bytes now.bytes long le fits room left
    (λ few lies kept. pieces_leave_bytes sector to edge n (at + 4096) (drop 4096 (b ∷ bs)) parts.0 now few lies kept parts.1.second))
    (cases_lt (length (b ∷ bs)) 4096)

-- If the first slot holds the image and has an open gate, and the second slot's gate is closed, the image is active.
module _ (g : ℕ) (wide : 16 ≤ g) (now image units : List ℕ) (sized : HasTwoSlots g now) (room : 2 * g + length units ≤ slot_size now)
    (front : take (length image) units ≡ image) (least : length image ≤ length units)
    (shut : slice_index now (slot_size now) ≢ OPEN) (first_gate : slice_index now 0 ≡ OPEN)
    (first_header : slice_range now (0 + g) (0 + g + 16) ≡ header 2 0 (length image) (register image))
    (first_data : HasBytesAt now (0 + 2 * g) units) where
  abbrev len : ℕ
  len = length image

  abbrev crc : ℕ
  crc = register image

  -- The image is a prefix of the first slot's data.
  image_is_first_data_front : image ≡ take len (slot g now 0).data_bytes
  image_is_first_data_front =
      sym front
      ∙ ap (λ (l : List ℕ). take len l) (sym first_data ∙ range_by_its_length now (0 + 2 * g) (length units))
      ∙ take-take len (length units) (drop (0 + 2 * g) now) least
      ∙ sym (take-take len (0 + slot_size now - (0 + 2 * g)) (drop (0 + 2 * g) now) (omega (arith, room, least)))

  opened_first_slot_is_active : ActiveAt g now 0 (slot_size now) image
  opened_first_slot_is_active =
      let room_is : length (slot g now 0).data_bytes ≡ capacity g now = data_length g now 0 (omega (arith, sized.even))
      (omega (arith, sized.room)) in
      let head : (slot g now 0).header ≡ header 2 0 len crc = first_header in
      let fits : len ≤ length (slot g now 0).data_bytes = omega (arith, room_is, room, least) in
      let whole = version_two_header_is_formed (slot g now 0) 0 len (head
      ∙ ap (λ (l : List ℕ). header 2 0 len (register l)) image_is_first_data_front) fits in
      let told = formed_header_has_its_length (slot g now 0) len whole (omega (arith, fits, room_is, sized.bound)) in
      record {
        sized = sized;
        places = inl (refl, refl);
        newest = record {
          counts = record {
            is_open = first_gate;
            intact = λ two. subst (λ (n : ℕ). HasHeader (slot g now 0) n) (sym told) whole;
          };
          other_is_older = inl (λ c. shut c.is_open);
        };
        header_is = whole;
        image_is = image_is_first_data_front;
      }

-- Writes of a format: they close both gates, and write the pieces, then the header, and then the open gate.
module _ (w : Grain) (s m1 m2 m3 m4 now : MediumState) (image : List ℕ) (sized : HasTwoSlots (gate_room w) s.bytes)
    (whole : IsWhole w (capacity (gate_room w) s.bytes)) (small : length image ≤ capacity (gate_room w) s.bytes)
    (is_1 : m1.bytes ≡ written s.bytes (slot_size s.bytes) (closed_gate w)) (is_2 : m2.bytes ≡ written m1.bytes 0 (closed_gate w))
    (all_3 : AllWrites m2 (image_writes w image) m3)
    (all_4 : AllWrites m3 (erasing_write w.sector (0 + gate_room w) (header_unit (gate_size w.unit) 0 (length image) (register image))) m4)
    (all_5 : AllWrites m4 (erasing_write w.sector 0 (gate_unit (gate_size w.unit) OPEN)) now) where
  abbrev g : ℕ
  g = gate_room w

  abbrev k : ℕ
  k = gate_size w.unit

  abbrev h : ℕ
  h = slot_size s.bytes

  abbrev units : List ℕ
  units = filled_units w.unit image

  fits : length units ≤ capacity g s.bytes
  fits = filled_bytes_within w.unit (capacity g s.bytes) image whole.units small

  least : length image ≤ length units
  least = omega (arith, filled_length_sums w.unit image)

  medium_has_two_halves : length s.bytes ≡ h + h
  medium_has_two_halves = omega (arith, sized.even)

  room : 2 * g + length units ≤ h
  room = omega (arith, fits, sized.room)

  second_gate_keeps_length : length m1.bytes ≡ h + h
  second_gate_keeps_length = ap length is_1 ∙ (whole_write_is_torn s.bytes h (closed_gate w) (omega (
    arith,
    closed_gate_fits_room w,
    medium_has_two_halves,
    sized.room,
  ))).size ∙ medium_has_two_halves

  first_close_keeps_data : ChangedWithin 0 g m1.bytes m2.bytes
  first_close_keeps_data =
      let fits_2 : 0 + length (closed_gate w) ≤ length m1.bytes = omega (
        arith,
        closed_gate_fits_room w,
        second_gate_keeps_length,
        sized.room,
      ) in
      wider_frame_holds 0 (0 + length (closed_gate w)) 0 g m1.bytes m2.bytes
      (subst (λ (l : List ℕ). ChangedWithin 0 (0 + length (closed_gate w)) m1.bytes l) (sym is_2)
      (whole_write_is_torn m1.bytes 0 (closed_gate w) fits_2))
      (omega arith) (omega (arith, closed_gate_fits_room w))

  both_gates_keep_length : length m2.bytes ≡ h + h
  both_gates_keep_length = first_close_keeps_data.size ∙ second_gate_keeps_length

  image_stored_after_pieces : LeavesBytesAt (2 * g) h units m2.bytes m3.bytes
  image_stored_after_pieces = pieces_leave_bytes w.sector h (second_slot_begins_sector w s.bytes sized whole) (length units) (2 * g) units
      m2 m3 (omega arith) room
      (omega (arith, both_gates_keep_length)) all_3

  pieces_keep_length : length m3.bytes ≡ h + h
  pieces_keep_length = image_stored_after_pieces.0.size ∙ both_gates_keep_length

  abbrev head : List ℕ
  head = header_unit k 0 (length image) (register image)

  header_unit_fits_room : 0 + g + length head ≤ 0 + 2 * g
  header_unit_fits_room = omega (arith, header_unit_has_size k 0 (length image) (register image) (gate_unit_at_least_16 w.unit))

  header_written_after_pieces : IsWrittenAfterErases (0 + g) (0 + 2 * g) head m3.bytes m4.bytes
  header_written_after_pieces = write_goes_over_erases w.sector (0 + 2 * g) (0 + g) head (data_begins_at_edge w s.bytes sized whole h 0 (inr
      (refl, refl))) header_unit_fits_room m3 m4
      (omega (arith, pieces_keep_length, sized.room)) all_4

  header_keeps_length : length m4.bytes ≡ h + h
  header_keeps_length = header_written_after_pieces.keeps.size ∙ pieces_keep_length

  gate_unit_fits_room : 0 + length (gate_unit k OPEN) ≤ 0 + g
  gate_unit_fits_room = omega (arith, gate_unit_has_size k OPEN (gate_unit_at_least_16 w.unit))

  gate_opened_after_header : IsWrittenAfterErases 0 (0 + g) (gate_unit k OPEN) m4.bytes now.bytes
  gate_opened_after_header = write_goes_over_erases w.sector (0 + g) 0 (gate_unit k OPEN) (header_begins_at_edge w s.bytes sized whole h 0
      (inr (refl, refl))) gate_unit_fits_room m4 now
      (omega (arith, header_keeps_length, sized.room)) all_5

  format_keeps_length : length now.bytes ≡ h + h
  format_keeps_length = gate_opened_after_header.keeps.size ∙ header_keeps_length

  -- The second slot's gate stays closed.
  second_gate_stays_closed : slice_index now.bytes h ≡ slice_index (written s.bytes h (closed_gate w)) h
  second_gate_stays_closed =
      byte_kept_outside_write 0 (0 + g) m4.bytes now.bytes h gate_opened_after_header.keeps (inr (omega (arith, sized.room)))
      ∙ byte_kept_outside_write (0 + g) (0 + 2 * g) m3.bytes m4.bytes h header_written_after_pieces.keeps (inr (omega (arith, sized.room)))
      ∙ byte_kept_outside_write (2 * g) h m2.bytes m3.bytes h image_stored_after_pieces.0 (inr (omega arith))
      ∙ byte_kept_outside_write 0 g m1.bytes m2.bytes h first_close_keeps_data (inr (omega (arith, sized.room)))
      ∙ ap (λ (l : List ℕ). slice_index l h) is_1

  -- After all writes of a format the image is active.
  format_makes_image_active : ActiveAt g now.bytes 0 (slot_size now.bytes) image
  format_makes_image_active =
      let size_is : slot_size now.bytes ≡ h = omega (arith, format_keeps_length) in
      let at_2 : 2 * g ≡ 0 + 2 * g = omega arith in
      let gate : slice_index now.bytes 0 ≡ OPEN =
      ap (λ (l : List ℕ). slice_index l 0) gate_opened_after_header.is
      ∙ unit_begins_with_gate k (gate_unit_at_least_16 w.unit) gate_opened_after_header.left 0 OPEN (omega (
        arith,
        gate_opened_after_header.erased.size,
        header_keeps_length,
        sized.room,
      )) in
      let header_is : slice_range now.bytes (0 + g) (0 + g + 16) ≡ header 2 0 (length image) (register image) =
      range_kept_outside_write 0 (0 + g) m4.bytes now.bytes (0 + g) (0 + g + 16) gate_opened_after_header.keeps (inr (omega arith))
      ∙ ap (λ (l : List ℕ). slice_range l (0 + g) (0 + g + 16)) header_written_after_pieces.is
      ∙ unit_begins_with_header k (gate_unit_at_least_16 w.unit) header_written_after_pieces.left (0 + g) 0 (length image) (register image)
      (omega (arith, header_written_after_pieces.erased.size, pieces_keep_length, sized.room)) in
      let stands : HasBytesAt now.bytes (0 + 2 * g) units =
      range_kept_outside_write 0 (0 + g) m4.bytes now.bytes (0 + 2 * g) (0 + 2 * g + length units) gate_opened_after_header.keeps (inr
      (omega arith))
      ∙ range_kept_outside_write (0 + g) (0 + 2 * g) m3.bytes m4.bytes (0 + 2 * g) (0 + 2 * g + length units)
      header_written_after_pieces.keeps (inr (omega arith))
      ∙ subst (λ (p : ℕ). HasBytesAt m3.bytes p units) at_2 image_stored_after_pieces.1 in
      opened_first_slot_is_active g (gate_room_at_least_16 w) now.bytes image units (same_length_has_two_slots g s.bytes now.bytes
      (format_keeps_length ∙ sym medium_has_two_halves) sized)
      (omega (arith, size_is, room)) (take_at image (replicate (fill_size w.unit (length image)) 0) (length image) refl) least
      (λ e. written_closed_gate_is_closed w s.bytes h (omega (arith, medium_has_two_halves, sized.room))
      (sym second_gate_stays_closed ∙ ap (λ (p : ℕ). slice_index now.bytes p) (sym size_is) ∙ e))
      gate header_is stands

-- If all writes of a format worked, the image is active in the first slot.
pub formatted_image_is_active : (w : Grain) (s now : MediumState) (image : List ℕ) → HasTwoSlots (gate_room w) s.bytes
    → IsWhole w (capacity (gate_room w) s.bytes) → length image ≤ capacity (gate_room w) s.bytes
    → AllWrites s (format_writes w s.bytes image) now → ActiveAt (gate_room w) now.bytes 0 (slot_size now.bytes) image
formatted_image_is_active w s now image sized whole small (m1, w1, (m2, w2, rest)) =
    let head = erasing_write w.sector (0 + gate_room w) (header_unit (gate_size w.unit) 0 (length image) (register image)) in
    let gate = erasing_write w.sector 0 (gate_unit (gate_size w.unit) OPEN) in
    let parts = list_has_two_parts (image_writes w image) (open_writes w 0 0 (length image) (register image)) m2 now rest in
    let opens = list_has_two_parts head gate parts.0 now parts.1.second in
    format_makes_image_active w s m1 m2 parts.0 opens.0 now image sized whole small w1.bytes w2.bytes parts.1.first opens.1.first
    opens.1.second
