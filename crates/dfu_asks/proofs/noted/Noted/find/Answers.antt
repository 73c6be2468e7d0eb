use Rattle.std.proofs.Common.{◌==◌, not, ℕ, sym, ◌∙◌, ap, subst}
use Rattle.dfu_slots.specs.Medium.{MediumState}
use Rattle.dfu_slots.specs.Image.{gate_of, slot_of, HasImage}
use Rattle.dfu_asks.specs.Mapped.{mapped_medium}
use Rattle.dfu_asks.specs.Noted.{IsNoteOfMedium}
use Rattle.dfu_asks.proofs.ImageNotes.{noted_slot_is_active}
use Rattle.dfu_asks.proofs.noted.Noted.find.Goals as goal

pub returns-in-Ok-clause-some : goal.returns-in-Ok-clause-some
returns-in-Ok-clause-some c =
    let k = c.in_ok-medium.medium in
    let m = mapped_medium (record { unit = k.unit; sector = k.sector.size }) k.bytes.now in
    subst (λ (x : MediumState). IsNoteOfMedium (record { second = not (c.in-Ok.places.active == 0); header = c.header_of.result }) x)
    c.in_ok-medium.ensures.some (record {
      place = noted_slot_is_active (gate_of m) m.bytes c.in-Ok.places.active c.in-Ok.ensures.active;
      header = c.header_of.ensures ∙ ap (λ (at : ℕ). (slot_of m at).header) c.in-Ok.ensures.active;
    })

pub returns-in-Err-clause-none : goal.returns-in-Err-clause-none
returns-in-Err-clause-none c = λ has.
    c.active_image_is_one.ensures.refused c.in-Err.field-0 _ c.in-Err.ensures.fault (subst HasImage (sym c.in_ok-medium.ensures.some) has)
