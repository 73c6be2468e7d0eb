-- Images in the slots of a medium after marks and after the end of a trial: each was in a slot before.
use Rattle.std.specs.Prelude.{◌≡◌, ◌⊎◌, ℕ, ◌+◌, ◌/◌, List}
use Rattle.std.proofs.Common.{inl, inr, sym, ap, ◌∙◌, subst, arith, ⊎_elim}
use Rattle.dfu_slots.specs.Units.{Grain, gate_room}
use Rattle.dfu_slots.specs.Medium.{MediumState, ChangedWithin}
use Rattle.dfu_slots.specs.Layout.{Slot, slot, slot_size, ArePlaces}
use Rattle.dfu_slots.specs.Image.{gate_of, slot_of, IsSizedMedium}
use Rattle.dfu_slots.proofs.Sectors.{gate_room_at_least_16}
use Rattle.dfu_slots.proofs.BytesOutsideWrite.{no_change_keeps_all, wider_frame_holds}
use Rattle.dfu_slots.proofs.Parts.{slot_size_kept_by_change, header_kept_outside_change, data_kept_outside_change, slot_kept_outside_change}
use Rattle.dfu_boot.specs.trial.Trial.{IsFilledSlot}
use Rattle.dfu_boot.specs.trial.Unread.{ChangedUnreadBytes}
use Rattle.dfu_boot.specs.trial.Lists.{Ends, TrialStepResult}
use Rattle.dfu_boot.specs.declared.trial.standing.Standing.TheVariants as standing
use Rattle.dfu_boot.proofs.Places.{slot_places_swap}
use Rattle.dfu_laws.specs.board.Slots.{IsInSlot}
use Rattle.dfu_laws.specs.link.Marks.{OpenGateWasClosed}
use Rattle.dfu_laws.proofs.board.Slots.{image_shown_in, same_bytes_fill_same_image, filled_slot_holds_image, slot_of_image_is_filled, place_is_one_of_two}

-- A mark adds no image to the slots.
pub marks_add_no_slot_image : (m now : MediumState) → ChangedUnreadBytes m now → (i : List ℕ) → IsInSlot now i → IsInSlot m i
marks_add_no_slot_image m now un i x =
    let size : slot_size now.bytes ≡ slot_size m.bytes = ap (λ (n : ℕ). n / 2) un.size in
    let places : ArePlaces m.bytes x.0 x.1 =
    subst (λ (n : ℕ). ((x.0 ≡ 0) × (x.1 ≡ n)) ⊎ ((x.0 ≡ n) × (x.1 ≡ 0))) size x.2 in
    let same = un.slots x.0 x.1 places in
    filled_slot_holds_image m x.0 x.1 _ places (subst IsFilledSlot same (slot_of_image_is_filled now i x)) (ap image_shown_in (sym same) ∙
    x.5)

module _ (m now : MediumState) (sized : IsSizedMedium m) (closed : OpenGateWasClosed m now.bytes) (grain : now.grain ≡ m.grain) where
  -- Offset of the slot whose gate was closed.
  abbrev at : ℕ
  at = closed.0

  -- Offset of the other slot.
  abbrev base : ℕ
  base = closed.1

  -- Number of bytes reserved for a gate, and for a header.
  abbrev g : ℕ
  g = gate_of m

  -- Only the gate of the closed slot changed.
  closed_gate_alone_changes : ChangedWithin at (at + g) m.bytes now.bytes
  closed_gate_alone_changes = wider_frame_holds at (at + m.grain.sector) at (at + g) m.bytes now.bytes closed.4 (omega arith) (omega arith)

  -- The slots have the same layout as before, because the grain is unchanged.
  there : (p : ℕ) → ◌≡◌ {A = Slot} (slot_of now p) (slot g now.bytes p)
  there p = ap (λ (w : Grain). slot (gate_room w) now.bytes p) grain

  base_slot_unchanged : ◌≡◌ {A = Slot} (slot_of now base) (slot_of m base)
  base_slot_unchanged = there base ∙ slot_kept_outside_change g at (at + g) m.bytes now.bytes base closed_gate_alone_changes
      (gate_room_at_least_16 m.grain) (omega (arith, sized.room))
      (⊎_elim (λ p. inr (omega (arith, p.0, p.1, sized.room))) (λ p. inl (omega (arith, p.0, p.1))) closed.2)

  -- After the gate was closed, each image in a slot was in a slot before.
  pub gate_close_adds_no_image : (i : List ℕ) → IsInSlot now i → IsInSlot m i
  gate_close_adds_no_image i x =
      let size : slot_size now.bytes ≡ slot_size m.bytes = slot_size_kept_by_change at (at + g) m.bytes now.bytes closed_gate_alone_changes
      in
      let places : ArePlaces m.bytes x.0 x.1 =
      subst (λ (n : ℕ). ((x.0 ≡ 0) × (x.1 ≡ n)) ⊎ ((x.0 ≡ n) × (x.1 ≡ 0))) size x.2 in
      elim (place_is_one_of_two m.bytes at base x.0 x.1 closed.2 places) [
        | inl mine ↦
            let same : ◌≡◌ {A = Slot} (slot_of now x.0) (slot g now.bytes at) = there x.0 ∙ ap (λ (p : ℕ). slot g now.bytes p) mine in
            let old = same_bytes_fill_same_image (slot g now.bytes at) (slot g m.bytes at)
            (header_kept_outside_change g at (at + g) m.bytes now.bytes at closed_gate_alone_changes (inr (omega arith)))
            (data_kept_outside_change g at (at + g) m.bytes now.bytes at closed_gate_alone_changes (inr (omega arith)))
            closed.3 (subst IsFilledSlot same (slot_of_image_is_filled now i x)) in
            filled_slot_holds_image m at base _ closed.2 old.0 (old.1 ∙ ap image_shown_in (sym same) ∙ x.5)
        | inr other ↦
            let same : ◌≡◌ {A = Slot} (slot_of now x.0) (slot_of m base) = ap (λ (p : ℕ). slot_of now p) other ∙ base_slot_unchanged in
            filled_slot_holds_image m base at _ (slot_places_swap m.bytes at base closed.2) (subst IsFilledSlot same
            (slot_of_image_is_filled now i x))
            (ap image_shown_in (sym same) ∙ x.5)
      ]

-- The end of a trial by dfu_boot changes only the sector of an open gate. If no image is on trial, it changes nothing.
pub trial_end_closes_gate : (m now : MediumState) (tries : ℕ) → TrialStepResult tries m Ends now → OpenGateWasClosed m now.bytes
trial_end_closes_gate m now tries (standing.Settled s, stands, same) =
    let a = stands.has.active in (
      a.at,
      a.spare,
      a.places,
      a.newest.counts.is_open,
      no_change_keeps_all a.at (a.at + m.grain.sector) m.bytes now.bytes
          (ap (λ (z : MediumState). z.bytes) same),
    )
trial_end_closes_gate m now tries (standing.OnTrial t, stands, carried) = (
  t.slot,
  t.base,
  stands.0.places,
  stands.0.mine.counts.is_open,
  carried.0,
)
