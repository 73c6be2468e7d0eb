-- A download leaves the confirmed image in its slot, and may put a new image on trial.
use Rattle.std.proofs.Common.{◌≡◌, ◌⊎◌, inl, inr, ⊎_elim, ℕ, ◌+◌, ◌≤◌, true, false, List, refl, sym, ◌∙◌, subst, arith}
use Rattle.dfu_slots.specs.Medium.{MediumState, ChangedWithin}
use Rattle.dfu_slots.specs.Layout.{slot, slot_size, ArePlaces}
use Rattle.dfu_slots.specs.Image.{gate_of, slot_of, IsNewest, Active, HasImage, IsSizedMedium}
use Rattle.dfu_slots.proofs.Stands.{active_image_at_its_place}
use Rattle.dfu_slots.proofs.Newest.{test_finds_active_image, test_finds_newest_slot}
use Rattle.dfu_slots.proofs.Sectors.{gate_room_at_least_16}
use Rattle.dfu_slots.proofs.Parts.{slot_kept_outside_change}
use Rattle.dfu_boot.specs.trial.Marks.{is_mark_set, AreTries}
use Rattle.dfu_boot.specs.trial.Trial.{IsFilledSlot, image_at}
use Rattle.dfu_boot.specs.trial.Calls.{IsSettledSlot}
use Rattle.dfu_boot.specs.trial.Lists.{DownloadPlacesImageOrNot, Alone, Tried, AreTrusted}
use Rattle.dfu_boot.specs.declared.trial.standing.Settled.{Settled}
use Rattle.dfu_boot.proofs.Places.{slot_places_swap, marks_end_in_header_sector}
use Rattle.dfu_boot.proofs.Slots.{newest_image_is_active, active_slot_is_filled, change_keeps_two_slots, change_keeps_slot_places}
use Rattle.dfu_boot.proofs.Closing.{marks_exclude_trial}
use Rattle.dfu_boot.proofs.Counting.{no_mark_counts}
use Rattle.dfu_boot.proofs.Keeping.{mark_kept_outside_change, equal_slots_equal_images}

module _ (m now : MediumState) (tries : ℕ) (are : AreTries m.grain tries) (s : Settled) (spare : ℕ) (settled : IsSettledSlot m s)
    (confirmed : s.is_confirmed ≡ true) (places : ArePlaces m.bytes s.slot spare)
    (keeps : ChangedWithin spare (spare + slot_size m.bytes) m.bytes now.bytes) where
  abbrev g : ℕ
  g = gate_of m

  abbrev n : MediumState
  n = record now { grain = m.grain }

  abbrev a : Active m settled.has.image
  a = settled.has.active

  settled_medium_is_sized : IsSizedMedium m
  settled_medium_is_sized = a.sized

  place : a.at ≡ s.slot
  place = (test_finds_active_image g m.bytes a.at a.spare settled.has.image (active_image_at_its_place a)).0 ∙ sym settled.slot

  confirmed_slot_is_filled : IsFilledSlot (slot_of m s.slot)
  confirmed_slot_is_filled = subst (λ (p : ℕ). IsFilledSlot (slot_of m p)) place (active_slot_is_filled m settled.has.image a)

  -- The active slot is unchanged.
  confirmed_slot_stays : slot g now.bytes s.slot ≡ slot_of m s.slot
  confirmed_slot_stays =
      slot_kept_outside_change g spare (spare + slot_size m.bytes) m.bytes now.bytes s.slot keeps (gate_room_at_least_16 m.grain) (omega
      (arith, settled_medium_is_sized.room))
      (⊎_elim (λ p. inl (omega (arith, p.0, p.1))) (λ p. inr (omega (arith, p.0, p.1))) places)

  confirmation_survives_download : is_mark_set n s.slot 0 ≡ true
  confirmation_survives_download = mark_kept_outside_change m now s.slot 0 spare (spare + slot_size m.bytes) keeps
      (⊎_elim (λ p. inl (omega (
        arith,
        p.0,
        p.1,
        settled_medium_is_sized.room,
        marks_end_in_header_sector m.grain tries 0 are (omega
            arith),
      )))
      (λ p. inr (omega (arith, p.0, p.1))) places)
      ∙ sym settled.confirmed ∙ confirmed

  confirmed_slot_stays_filled : IsFilledSlot (slot_of n s.slot)
  confirmed_slot_stays_filled = subst IsFilledSlot (sym confirmed_slot_stays) confirmed_slot_is_filled

  download_keeps_two_slots : IsSizedMedium n
  download_keeps_two_slots = change_keeps_two_slots m now keeps.size settled_medium_is_sized

  download_keeps_places : ArePlaces now.bytes s.slot spare
  download_keeps_places = change_keeps_slot_places m now keeps.size s.slot spare places

  download_keeps_confirmed_image : image_at n s.slot ≡ image_at m s.slot
  download_keeps_confirmed_image = equal_slots_equal_images _ _ confirmed_slot_stays

  -- If the confirmed image is still the newest after the download, the confirmed image is the only trusted one.
  confirmed_stays_without_new : IsNewest (slot_of n s.slot) (slot_of n spare) → AreTrusted n tries (Alone (image_at m s.slot))
  confirmed_stays_without_new newest =
      let found = test_finds_newest_slot g now.bytes s.slot spare download_keeps_places newest in
      let has : HasImage n = record {
        image = image_at n s.slot;
        active = newest_image_is_active n s.slot spare download_keeps_two_slots download_keeps_places newest confirmed_slot_stays_filled;
      } in (
        record { slot = s.slot; is_confirmed = true },
        record {
          has = has;
          slot = found.0;
          none = marks_exclude_trial n s.slot spare has found.0 found.1 (inl
              confirmation_survives_download);
          confirmed = sym confirmation_survives_download;
        },
        refl,
        download_keeps_confirmed_image,
      )

  -- If the new image is the newest, and no mark of its slot is set, the new image is on trial, with no recorded start.
  placed_image_is_on_trial : (image : List ℕ) → IsNewest (slot_of n spare) (slot_of n s.slot) → IsFilledSlot (slot_of n spare) →
      image_at n spare ≡ image
      → ((i : ℕ) → i ≤ tries → is_mark_set n spare i ≡ false) → AreTrusted n tries (Tried (image_at m s.slot) image 0)
  placed_image_is_on_trial image newest mine is unset = (
    record { slot = spare; base = s.slot; starts = 0 },
    (
      record {
        sized = download_keeps_two_slots;
        places = slot_places_swap now.bytes s.slot spare download_keeps_places;
        newest = newest;
        mine = mine;
        other = confirmed_slot_stays_filled;
        unconfirmed = unset 0 (omega arith);
        confirmed = confirmation_survives_download;
      },
      sym (no_mark_counts n spare 1 tries (λ some. unset 1 (omega (arith, some)))),
    ),
    download_keeps_confirmed_image,
    is,
    omega arith,
    omega arith,
  )

  pub download_keeps_trust : (image : List ℕ) → DownloadPlacesImageOrNot n tries s.slot spare image
      → AreTrusted n tries (Alone (image_at m s.slot)) ⊎ AreTrusted n tries (Tried (image_at m s.slot) image 0)
  download_keeps_trust image put = ⊎_elim (λ old. inl (confirmed_stays_without_new old)) (λ new. inr (placed_image_is_on_trial image new.0
      new.1 new.2 new.3)) put
