use Rattle.std.proofs.Common.{ℕ, List, take, drop, ◌+◌, ◌*◌, sym, ap, ◌∙◌}
use Rattle.std.specs.Int.{w32, from_le_bytes}
use Rattle.dfu_slots.specs.Image.{slot_of}
use Rattle.dfu_slots.specs.Units.{Grain}
use Rattle.dfu_asks.specs.Mapped.{grain_of, mapped_medium}
use Rattle.dfu_asks.specs.Noted.{noted_slot_place}
use Rattle.dfu_asks.proofs.ImagePlaces.{image_lies_at_place}
use Rattle.dfu_asks.proofs.image.ImagePlace.find.Goals as goal

pub returns-clause-some : goal.returns-clause-some
returns-clause-some c =
    let n = c.in_ok-noted.noted in
    let flash = c.args.flash.now in
    let grain : Grain = grain_of c.args.unit c.args.sector in
    image_lies_at_place grain flash (noted_slot_place n flash) c.in_ok-noted.ensures.image c.in_ok-noted.ensures.some.place _
    (λ i. c.slot_at-slot.ensures.value i + 2 * c.gate_room.ensures.value i)
    (c.length_in.ensures ∙ ap (λ (h : List ℕ). from_le_bytes w32 (take 4 (drop 4 h))) (c.in_ok-noted.ensures.some.header
    ∙ sym (ap (λ (at : ℕ). (slot_of (mapped_medium grain flash) at).header) c.in_ok-noted.ensures.some.place)))
