-- After an operation, the first slot is unchanged or closed, or contains the active image.
use Rattle.std.proofs.Common.{◌≡◌, inl, inr, ℕ, ◌+◌, ◌≤◌, ap, arith}
use Rattle.dfu_slots.specs.Units.{Grain, gate_room}
use Rattle.dfu_slots.specs.Medium.{MediumState}
use Rattle.dfu_slots.specs.Layout.{slot}
use Rattle.dfu_slots.specs.Image.{capacity_of}
use Rattle.dfu_slots.proofs.Sectors.{gate_room_at_least_16, gate_room_is_a_sector}
use Rattle.dfu_home.specs.declared.due.Due.TheVariants.{Refuse, Home, Erase, Program}
use Rattle.dfu_home.specs.Places.{first_of}
use Rattle.dfu_home.specs.Laws.{FirstSlotIsKnown}
use Rattle.dfu_home.proofs.SecondSlotImage.{image_second_if_first_closed, image_second_if_found_second}
use Rattle.dfu_home.proofs.UnchangedImage.{first_slot_stays_if_open, first_slot_stays_shut, copied_slot_shows_image}
use Rattle.dfu_home.proofs.Allowing.{gate_room_is_one_sector, copy_erase_within_slot, copy_program_within_blank}

-- A medium whose bytes are unchanged has the same first slot.
unchanged_medium_keeps_slot : (m now : MediumState) → now.bytes ≡ m.bytes → now.grain ≡ m.grain → first_of now ≡ first_of m
unchanged_medium_keeps_slot m now bytes grain = λ i. slot (gate_room (grain i)) (bytes i) 0

pub first_slot_is_known : FirstSlotIsKnown
first_slot_is_known m now image p (Refuse refusal) a does carried is_open =
    inl (unchanged_medium_keeps_slot m now carried.bytes.after carried.grain)
first_slot_is_known m now image p Home a does carried is_open =
    inl (unchanged_medium_keeps_slot m now carried.bytes.after carried.grain)
first_slot_is_known m now image p (Erase at) a (may, inl (away, was_open, some, is)) carried is_open =
    let gate = gate_room_is_a_sector m.grain (capacity_of m) a.sized.whole some in
    inl (first_slot_stays_if_open m now image at (at + m.grain.sector) (image_second_if_found_second m image a away.second) a.sized.whole
    carried.bytes carried.grain (omega (arith, is, gate, a.sized.room)) was_open (omega (arith, is, gate)) is_open)
first_slot_is_known m now image p (Erase at) a (may, inr (c, erases)) carried is_open =
    let away = image_second_if_first_closed m image a c.shut in
    let within = (copy_erase_within_slot m c p.last at erases).0 in
    elim erases [
      | inl (d, is, does) ↦ absurd (first_slot_stays_shut m now image at (at + m.grain.sector) away a.sized.whole carried.bytes
          carried.grain within c.shut (omega (arith, is, gate_room_at_least_16 m.grain)) is_open)
      | inr (inl (due, is, old)) ↦ absurd (first_slot_stays_shut m now image at (at + m.grain.sector) away a.sized.whole carried.bytes
          carried.grain within c.shut (omega (arith, is, gate_room_at_least_16 m.grain)) is_open)
      | inr (inr (due, is, old)) ↦ inr (copied_slot_shows_image m now image at (at + m.grain.sector) away a.sized.whole carried.bytes
          carried.grain within (omega (arith, is, gate_room_is_one_sector m c)) due.0 due.1)
    ]
first_slot_is_known m now image p (Program at len) a (may, c, programs) carried is_open =
    let away = image_second_if_first_closed m image a c.shut in
    let within = (copy_program_within_blank m c p.last at len programs).0 in
    elim programs [
      | inl (d, is, size, does) ↦ absurd (first_slot_stays_shut m now image at (at + len) away a.sized.whole carried.bytes carried.grain
          within c.shut (omega (arith, is, gate_room_at_least_16 m.grain)) is_open)
      | inr (inl (due, is, size, erased)) ↦ absurd (first_slot_stays_shut m now image at (at + len) away a.sized.whole carried.bytes
          carried.grain within c.shut (omega (arith, is, gate_room_at_least_16 m.grain)) is_open)
      | inr (inr (due, is, size, erased)) ↦ inr (copied_slot_shows_image m now image at (at + len) away a.sized.whole carried.bytes
          carried.grain within (omega (arith, is, size)) due.0 due.1)
    ]
