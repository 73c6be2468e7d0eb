-- Boards after marks of a trial: their device has the same image and stage as before.
use Rattle.std.specs.Prelude.{◌≡◌, ◌&&◌, ◌||◌, ◌==◌, ℕ, ◌+◌, ◌-◌, ◌*◌, ◌/◌, ◌^◌, ◌≤◌, ◌<◌, nat_le, nat_lt, IsTrue, List, length, take, drop, get_or, slice_index, slice_range, if◌then◌else◌}
use Rattle.std.proofs.Common.{inl, inr, refl, sym, ap, ◌∙◌, subst, arith, ⊎_elim}
use Rattle.std.proofs.lemmas.Bool.{cases_lt}
use Rattle.std.proofs.lemmas.List.{get_or-take, get_or-drop}
use Rattle.dfu_slots.specs.Units.{Grain, gate_room}
use Rattle.dfu_slots.specs.Medium.{IsErasedToSector, IsWritableAhead, written}
use Rattle.dfu_slots.specs.Layout.{Slot, slot, slot_size, header_length}
use Rattle.dfu_slots.specs.Image.{IsSizedMedium, is_newest, active_at, spare_at}
use Rattle.dfu_slots.specs.StoreView.{store_of, image_of, spare_of, is_begun, room_of}
use Rattle.dfu_slots.specs.Store.{IsStore}
use Rattle.dfu_slots.proofs.Stands.{sized_medium_has_two_slots}
use Rattle.dfu_slots.proofs.Newest.{tested_places_are_slots}
use Rattle.dfu_slots.proofs.Edges.{slot_ends_at_edge}
use Rattle.dfu_slots.proofs.VisibleStores.{same_gate_same_begun}
use Rattle.dfu_boot.specs.trial.Unread.{ChangedUnreadBytes}
use Rattle.dfu_boot.proofs.Places.{slot_places_swap}
use Rattle.dfu_boot.proofs.UnreadMarks.{unread_change_keeps_images}
use Rattle.dfu_device.specs.declared.device_state.DeviceState.{DeviceState}
use Rattle.dfu_device.specs.declared.device_state.DeviceState.TheVariants as device_state
use Rattle.dfu_device.specs.DeviceView.{DeviceView, profile, profile_of, situation}
use Rattle.dfu_device.specs.Parts.{stage_of, is_filled, are_device_parts}
use Rattle.dfu_asks.specs.declared.noted.Noted.{Noted}
use Rattle.dfu_asks.specs.Mapped.{mapped_medium}
use Rattle.dfu_asks.specs.Noted.{IsNoteOfMedium}
use Rattle.dfu_asks.specs.Lent.{LentDevice}
use Rattle.dfu_asks.specs.Asks.{grain_in, device_in, IsDevice}
use Rattle.dfu_laws.specs.board.Board.{Board, lent_on, medium_on}
use Rattle.dfu_laws.specs.board.Refines.{IsIdleBoard}
use Rattle.dfu_laws.specs.link.Marks.{IsMarkedBoard}

-- If the range from index a of a list contains index p, byte p of the list is byte p - a of the range.
byte_of_range : (l : List ℕ) (a b p : ℕ) → a ≤ p → p < b → slice_index l p ≡ get_or (slice_range l a b) (p - a) 0
byte_of_range l a b p low high =
    let e : a + (p - a) ≡ p = omega (arith, low) in
    ap (λ (k : ℕ). get_or l k 0) (sym e) ∙ sym (get_or-drop a l (p - a) 0)
    ∙ sym (get_or-take (b - a) (drop a l) (p - a) 0 (omega (arith, low, high)))

module _ (w : Grain) (old now : List ℕ) (un : ChangedUnreadBytes (mapped_medium w old) (mapped_medium w now)) where
  -- Number of bytes reserved for a gate, and for a header.
  abbrev g : ℕ
  g = gate_room w

  -- The slots do not change their size.
  half : slot_size now ≡ slot_size old
  half = ap (λ (k : ℕ). k / 2) un.size

  -- A change of unread bytes leaves the first slot unchanged.
  first : slot g now 0 ≡ slot g old 0
  first = un.slots 0 (slot_size old) (inl (refl, refl))

  -- A change of unread bytes leaves the second slot unchanged.
  second : slot g now (slot_size now) ≡ slot g old (slot_size old)
  second = ap (λ (k : ℕ). slot g now k) half ∙ un.slots (slot_size old) 0 (inr (refl, refl))

  -- The active slot has the same offset as before.
  active_place_same : active_at g now ≡ active_at g old
  active_place_same = λ i. if is_newest (first i) (second i) then 0 else half i

  -- The spare slot has the same offset as before.
  spare_place_same : spare_at g now ≡ spare_at g old
  spare_place_same = λ i. if is_newest (first i) (second i) then half i else 0

  marked_active_slot_same : slot g now (active_at g now) ≡ slot g old (active_at g old)
  marked_active_slot_same = ap (λ (k : ℕ). slot g now k) active_place_same
      ∙ un.slots (active_at g old) (spare_at g old) (tested_places_are_slots g old)

  -- The slot at the old offset of the spare slot is unchanged.
  spare_slot_at_old_place_same : slot g now (spare_at g old) ≡ slot g old (spare_at g old)
  spare_slot_at_old_place_same = un.slots (spare_at g old) (active_at g old) (slot_places_swap old (active_at g old) (spare_at g old)
      (tested_places_are_slots g old))

  -- A change of unread bytes leaves the spare slot unchanged.
  spare_slot_same : slot g now (spare_at g now) ≡ slot g old (spare_at g old)
  spare_slot_same = ap (λ (k : ℕ). slot g now k) spare_place_same ∙ spare_slot_at_old_place_same

  -- If the bytes of the spare slot up to the next sector are erased before the mark, they are erased after it.
  marked_ahead_sector_erased : IsSizedMedium (mapped_medium w old) → (k : ℕ) → 2 * g + k ≤ slot_size old
      → IsWritableAhead (mapped_medium w old) (spare_at g old + 2 * g + k)
      → IsWritableAhead (mapped_medium w now) (spare_at g now + 2 * g + k)
  marked_ahead_sector_erased sized k fits ahead some =
      subst (λ (x : ℕ). IsErasedToSector w.sector now (x + 2 * g + k) (x + 2 * g + k)) (sym spare_place_same) there
    where
      spare_place_now : ℕ
      spare_place_now = spare_at g old

      there : IsErasedToSector w.sector now (spare_place_now + 2 * g + k) (spare_place_now + 2 * g + k)
      there p low high none = ⊎_elim
          (λ inner.
          byte_of_range now (spare_place_now + 2 * g) (spare_place_now + slot_size now) p (omega (arith, low)) (omega (arith, inner, half))
          ∙ ap (λ (x : Slot). get_or x.data_bytes (p - (spare_place_now + 2 * g)) 0) spare_slot_at_old_place_same
          ∙ sym (byte_of_range old (spare_place_now + 2 * g) (spare_place_now + slot_size old) p (omega (arith, low)) inner)
          ∙ ahead some p low (omega (arith, high, un.size)) none)
          (λ past. absurd (none (spare_place_now + slot_size old) (omega (arith, fits)) past
          (slot_ends_at_edge w old (sized_medium_has_two_slots (mapped_medium w old) sized) sized.whole (active_at g old) spare_place_now
          (tested_places_are_slots g old) some)))
          (cases_lt p (spare_place_now + slot_size old))

  module _ (held : List ℕ) (end : ℕ) where
    marked_image_same : image_of (store_of (mapped_medium w now) held end) ≡ image_of (store_of (mapped_medium w old) held end)
    unfolding image_of
    marked_image_same = ap (λ (x : Slot). take (header_length x) x.data_bytes) marked_active_slot_same

    marked_spare_bytes_same : spare_of (store_of (mapped_medium w now) held end) ≡ spare_of (store_of (mapped_medium w old) held end)
    unfolding spare_of
    marked_spare_bytes_same = ap (λ (x : Slot). written x.data_bytes (end - length held) held) spare_slot_same

    begun_flag_same : is_begun (store_of (mapped_medium w now) held end) ≡ is_begun (store_of (mapped_medium w old) held end)
    begun_flag_same =
        same_gate_same_begun (store_of (mapped_medium w old) held end) (store_of (mapped_medium w now) held end)
        (ap (λ (x : Slot). x.gate) spare_slot_same)

    marked_room_same : room_of (store_of (mapped_medium w now) held end) ≡ room_of (store_of (mapped_medium w old) held end)
    unfolding room_of
    marked_room_same = ap (λ (k : ℕ). k - 2 * g) half

    filled_flag_same : (m : DeviceState) (n : ℕ)
        → is_filled m n (store_of (mapped_medium w now) held end) ≡ is_filled m n (store_of (mapped_medium w old) held end)
    filled_flag_same (device_state.DownloadSync written number) n =
        λ i. nat_lt 0 n && (nat_le (written + n) (marked_room_same i) && ((written == 0) || (begun_flag_same i && (end == written))))
    filled_flag_same (device_state.DownloadBusy written number passed) n =
        λ i. nat_lt 0 n && (nat_le (written + n) (marked_room_same i) && ((written == 0) || (begun_flag_same i && (end == written))))
    filled_flag_same (device_state.DownloadSyncWritten written number) n =
        λ i. nat_lt 0 written && (nat_le written (marked_room_same i) && (begun_flag_same i && (end == written)))
    filled_flag_same (device_state.DownloadIdle written number) n =
        λ i. nat_lt 0 written && (nat_le written (marked_room_same i) && (begun_flag_same i && (end == written)))
    filled_flag_same (device_state.ManifestSync written) n =
        λ i. nat_lt 0 written && (nat_le written (marked_room_same i) && (begun_flag_same i && (end == written)))
    filled_flag_same (device_state.Manifest written passed) n =
        λ i. nat_lt 0 written && (nat_le written (marked_room_same i) && (begun_flag_same i && (end == written)))
    filled_flag_same m n = refl

    marked_device_parts_same : (m : DeviceState) (n : ℕ)
        → are_device_parts m n (store_of (mapped_medium w now) held end) ≡ are_device_parts m n (store_of (mapped_medium w old) held end)
    marked_device_parts_same m n = λ i. ((length (marked_spare_bytes_same i) == marked_room_same i)
        && (nat_le (marked_room_same i) (2 ^ 24) && nat_le (length (marked_image_same i)) (marked_room_same i))) && filled_flag_same m n i

    marked_store_is_store : IsStore (store_of (mapped_medium w old) held end) → IsStore (store_of (mapped_medium w now) held end)
    marked_store_is_store s =
        let has = s.has_image in
        let sized = has.active.sized in
        record {
          has_image =
              record {
                image = has.image;
                active = (unread_change_keeps_images (mapped_medium w old) (mapped_medium w now) has.image un).1
                    has.active;
              };
          puts = record {
            fits = subst (λ (k : ℕ). end ≤ k - 2 * g) (sym half) s.puts.fits;
            part = s.puts.part;
            ahead = marked_ahead_sector_erased sized (end - length held) (omega (arith, s.puts.fits, sized.room)) s.puts.ahead;
          };
        }

  marked_note_is_of_medium : (n : Noted) → IsNoteOfMedium n (mapped_medium w old) → IsNoteOfMedium n (mapped_medium w now)
  marked_note_is_of_medium n k = record {
    place = (λ i. if n.second then half i else 0) ∙ k.place ∙ sym active_place_same;
    header = k.header ∙ sym (ap (λ (x : Slot). x.header) marked_active_slot_same);
  }

-- The board has no pending writes, and its device has the image, the stage and the profile of d.
pub record MarkedBoardDevice (d : DeviceView) (b' : Board) : Type 0 where
  pub device : DeviceView
  -- The board represents this device, without pending writes.
  pub idle : IsIdleBoard b' device
  -- The image and the stage are those of `d`.
  pub same : situation device ≡ situation d
  pub fixed : profile device ≡ profile d

module _ (a : LentDevice) (old now : List ℕ) (un : ChangedUnreadBytes (mapped_medium (grain_in a) old) (mapped_medium (grain_in a) now))
  where
    -- If a device is valid with the old bytes of the flash, it is valid with the new bytes.
    marked_device_is_device : IsDevice a old → IsDevice a now
    marked_device_is_device k = record {
      store = marked_store_is_store (grain_in a) old now un a.held a.put_end k.store;
      sound = subst IsTrue (sym (marked_device_parts_same (grain_in a) old now un a.held a.put_end a.mode (length a.block))) k.sound;
      noted = marked_note_is_of_medium (grain_in a) old now un a.noted k.noted;
    }

    marked_situation_same : situation (device_in a now) ≡ situation (device_in a old)
    marked_situation_same = λ i. record {
      image = marked_image_same (grain_in a) old now un a.held a.put_end i;
      stage = stage_of a.mode (marked_spare_bytes_same (grain_in a) old now un a.held a.put_end i) a.block;
    }

    marked_profile_same : profile (device_in a now) ≡ profile (device_in a old)
    marked_profile_same = λ i. profile_of a.config (marked_room_same (grain_in a) old now un a.held a.put_end i)

-- A mark on a board without pending writes does not change the image, the stage or the profile of the board's device.
pub mark_keeps_device : (b b' : Board) (d : DeviceView) → IsIdleBoard b d → IsMarkedBoard b b' → MarkedBoardDevice d b'
mark_keeps_device b b' d k mark =
    let re = mark.same in
    let un = subst (λ (x : Board). ChangedUnreadBytes (medium_on b) (medium_on x)) re mark.unread in
    subst (λ (x : Board). MarkedBoardDevice d x) (sym re) (record {
      device = device_in (lent_on b) b'.flash;
      idle = record { work = k.work; is = marked_device_is_device (lent_on b) b.flash b'.flash un k.is; device = refl };
      same = marked_situation_same (lent_on b) b.flash b'.flash un ∙ ap situation k.device;
      fixed = marked_profile_same (lent_on b) b.flash b'.flash un ∙ ap profile k.device;
    })
