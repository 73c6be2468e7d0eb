use Rattle.std.proofs.Common.{◌≡◌, ℕ, slice_index, sym, ◌∙◌, ap, subst, arith}
use Rattle.dfu_slots.specs.Medium.{MediumState}
use Rattle.dfu_slots.specs.Image.{gate_of, spare_at, HasImage}
use Rattle.dfu_asks.specs.Mapped.{mapped_medium}
use Rattle.dfu_asks.proofs.SpareRanges.{slot_begins_before_place, slot_of_place_is_one_of_two, slot_of_place_begins_in_flash, slot_of_place_is_unique, tested_equal_is_equal, tested_unequal_is_unequal, closed_slot_range_is_in_spare, range_at_spare_is_in_spare}
use Rattle.dfu_asks.proofs.next_and_took.is_spare.Goals as goal

pub flash_byte_at-requires : goal.flash_byte_at-requires
flash_byte_at-requires c =
    omega (
      arith,
      slot_of_place_begins_in_flash _ _ c.slot_start-slot.result _ c.slot_start-slot.ensures c.requires.some (omega (
        arith,
        c.if-at-len.false,
      )),
    )

pub returns-then-flash_byte_at-clause-yes : goal.returns-then-flash_byte_at-clause-yes
returns-then-flash_byte_at-clause-yes c = λ t image a.
    let flash = c.args.flash.now in
    let slot = c.slot_start-slot.result in
    let here = c.slot_start-slot.ensures in
    closed_slot_range_is_in_spare (mapped_medium (record { unit = c.args.unit; sector = c.args.sector.size }) flash)
    image slot c.args.at c.args.len a (slot_of_place_is_one_of_two _ _ slot here)
    (λ e. c.if-flash_byte_at.true (c.flash_byte_at.ensures ∙ e)) (slot_begins_before_place _ _ slot here)
    (omega (arith, c.if-at-len.false))

pub returns-in-Ok-clause-yes : goal.returns-in-Ok-clause-yes
returns-in-Ok-clause-yes c = λ t image a.
    let flash = c.args.flash.now in
    let slot = c.slot_start-slot.result in
    let is : spare_at (gate_of (mapped_medium (record { unit = c.args.unit; sector = c.args.sector.size }) flash)) flash ≡ slot =
    sym (ap (λ (x : MediumState). spare_at (gate_of x) x.bytes) c.in-Some.ensures.some) ∙ sym c.in-Ok.ensures.spare ∙ sym c.from.ensures
    ∙ tested_equal_is_equal _ _ t in
    let here = c.slot_start-slot.ensures in
    range_at_spare_is_in_spare
    (mapped_medium (record { unit = c.args.unit; sector = c.args.sector.size }) flash) slot c.args.at c.args.len is
    (slot_begins_before_place _ _ slot here) (omega (arith, c.if-at-len.false))

pub returns-in-Err-clause-no : goal.returns-in-Err-clause-no
returns-in-Err-clause-no c = λ t k either low high.
    let flash = c.args.flash.now in
    let slot = c.slot_start-slot.result in
    let here = c.slot_start-slot.ensures in
    let same : k ≡ slot = slot_of_place_is_unique _ _ slot here k either low (omega (arith, high, c.requires.some)) in (
      ap (λ (j : ℕ). slice_index flash j) same ∙ sym c.flash_byte_at.ensures ∙ c.if-flash_byte_at.false,
      λ has e. c.active_image_is_one.ensures.refused c.in-Err.field-0 _ c.in-Err.ensures.fault
          (subst HasImage (sym c.in-Some.ensures.some) has),
    )

pub returns-in-Ok-clause-no : goal.returns-in-Ok-clause-no
returns-in-Ok-clause-no c = λ t k either low high.
    let flash = c.args.flash.now in
    let slot = c.slot_start-slot.result in
    let is : c.from.result ≡ spare_at (gate_of (mapped_medium (record { unit = c.args.unit; sector = c.args.sector.size }) flash)) flash =
    c.from.ensures ∙ c.in-Ok.ensures.spare ∙ ap (λ (x : MediumState). spare_at (gate_of x) x.bytes) c.in-Some.ensures.some in
    let here = c.slot_start-slot.ensures in
    let same : k ≡ slot = slot_of_place_is_unique _ _ slot here k either low (omega (arith, high, c.requires.some)) in (
      ap (λ (j : ℕ). slice_index flash j) same ∙ sym c.flash_byte_at.ensures ∙ c.if-flash_byte_at.false,
      λ has e. tested_unequal_is_unequal _ _ t (is ∙ e ∙ same),
    )
