use Rattle.std.specs.Prelude.{ℕ, false, slice_index_or}
use Rattle.std.proofs.Common.{sym, ap, ◌∙◌}
use Rattle.dfu_conformance.proofs.Places.{place_number_below_12}
use Rattle.dfu_conformance.proofs.UntakenRows.{false_adds_nothing, second_false_falsifies_three}
use Rattle.dfu_conformance.proofs.held.slide.Goals as goal

pub returns-else-at-number : goal.returns-else-at-number
returns-else-at-number c n a r below within =
    false_adds_nothing _ _ (second_false_falsifies_three _ _ _ (c.requires _ a r (place_number_below_12 c.args.one.now.from) below within
    (ap (λ (k : ℕ). slice_index_or c.args.at.now k false) (sym c.number.ensures) ∙ c.if-at-number.false)))
