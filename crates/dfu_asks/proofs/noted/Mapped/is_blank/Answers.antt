use Rattle.std.proofs.Common.{◌+◌, ◌*◌, ◌/◌, ℕ, IsTrue, length, slice_range, sym, ◌∙◌, ap}
use Rattle.std.specs.List.{list_all}
use Rattle.dfu_slots.specs.Units.{Grain, gate_room}
use Rattle.dfu_asks.specs.Blank.{is_erased_byte}
use Rattle.dfu_asks.specs.Mapped.{grain_of}
use Rattle.dfu_asks.proofs.Blanks.{blank_flash_has_no_image}
use Rattle.dfu_asks.proofs.noted.Mapped.is_blank.Goals as goal

pub returns-clause-no_image : goal.returns-clause-no_image
returns-clause-no_image c so =
    let grain : Grain = grain_of c.args.self.now.unit c.args.self.now.sector in
    let flash = c.args.self.now.bytes.now in
    let erased : (at : ℕ) → IsTrue (list_all is_erased_byte (slice_range flash at (at + 2 * c.gate_room.result)))
    → IsTrue (list_all is_erased_byte (slice_range flash at (at + 2 * gate_room grain))) =
    λ at is. ap (λ (n : ℕ). list_all is_erased_byte (slice_range flash at (at + 2 * n))) (sym c.gate_room.ensures.value) ∙ is in
    blank_flash_has_no_image grain flash (record {
      first = erased 0 (sym c.is_erased.ensures ∙ c.if-not-is_erased.false);
      second = erased (length flash / 2) (sym c.is_erased-2.ensures ∙ so);
    })
