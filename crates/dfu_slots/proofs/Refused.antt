-- No medium with an active image has a fault of `open`.
use Rattle.std.proofs.Common.{⊎_elim, ℕ, length, sym, ◌∙◌, subst}
use Rattle.dfu_slots.specs.Medium.{MediumState}
use Rattle.dfu_slots.specs.Layout.{HasHeader}
use Rattle.dfu_slots.specs.Image.{SlotCounts, gate_of, slot_of, HasImage}
use Rattle.dfu_slots.specs.Changes.{FirstOpenFault}
use Rattle.dfu_slots.specs.declared.fault.OpenFault.{OpenFault}
use Rattle.dfu_slots.specs.declared.fault.OpenFault.TheVariants.{WrongSize, NoImage, TwoImages, BadHeader}
use Rattle.dfu_slots.proofs.Stands.{active_image_at_its_place}
use Rattle.dfu_slots.proofs.Newest.{test_finds_active_image, test_finds_newest_slot}

-- A medium with a fault of `open` has no active image.
pub faulty_medium_has_no_image : (fault : OpenFault) (m : MediumState) → FirstOpenFault fault m → ¬ HasImage m
faulty_medium_has_no_image WrongSize m bad has = bad has.active.sized
faulty_medium_has_no_image NoImage m bad has =
    let a = has.active in
    ⊎_elim (λ p. bad.1 (subst (λ (q : ℕ). SlotCounts (slot_of m q)) p.0 a.newest.counts))
    (λ p. bad.2 (subst (λ (q : ℕ). SlotCounts (slot_of m q)) p.0 a.newest.counts)) a.places
faulty_medium_has_no_image TwoImages m bad has =
    let a = has.active in
    bad.3 (record { at = a.at; other = a.spare; places = a.places; newest = a.newest })
faulty_medium_has_no_image BadHeader m (sized, bad) has =
    let a = has.active in
    let same = (test_finds_active_image (gate_of m) m.bytes a.at a.spare has.image (active_image_at_its_place a)).0
    ∙ sym (test_finds_newest_slot (gate_of m) m.bytes bad.newest.at bad.newest.other bad.newest.places bad.newest.newest).0 in
    bad.none (length has.image) (subst (λ (q : ℕ). HasHeader (slot_of m q) (length has.image)) same a.header_is)
