use Rattle.std.specs.Prelude.{ℕ, false, slice_index_or}
use Rattle.std.proofs.Common.{sym, ap, ◌∙◌}
use Rattle.dfu_conformance.proofs.Places.{place_number_below_12}
use Rattle.dfu_conformance.proofs.UntakenRows.{false_adds_nothing, second_false_falsifies_three, third_false_falsifies_four}
use Rattle.dfu_conformance.proofs.held.go.Goals.{else-at-number-via-then-at-number+else-row_fits_event, else-at-number-via-else-at-number}
use Rattle.dfu_conformance.proofs.held.go.Goals as goal

pub returns-else-at-number : goal.returns-else-at-number
returns-else-at-number c n a r below within = false_adds_nothing _ _ (elim c.else-at-number.branch [
  | else-at-number-via-then-at-number+else-row_fits_event w ↦ second_false_falsifies_three _ _ _
      (sym w.row_fits_event.ensures ∙ w.if-row_fits_event.false)
  | else-at-number-via-else-at-number w ↦
      third_false_falsifies_four _ _ _ _ (c.requires _ a r (place_number_below_12 c.args.row.now.from) below within
      (ap (λ (k : ℕ). slice_index_or c.args.at.now k false) (sym c.number.ensures) ∙ w.if-at-number.false))
])
