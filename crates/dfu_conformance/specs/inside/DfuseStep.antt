-- One step of the judge of a DfuSe device, as the judge computes it.
use Rattle.std.specs.Prelude.{ℕ, ◌==◌, ◌&&◌, ◌||◌, Bool, false, List, slice_index_or}
use Rattle.std.specs.List.{list_any}
use Rattle.dfu_conformance.specs.declared.row.StandardState.{StandardState}
use Rattle.dfu_conformance.specs.declared.row.Row.{Row}
use Rattle.dfu_conformance.specs.declared.row.Drift.{Drift}
use Rattle.dfu_conformance.specs.declared.event.LogEvent.{LogEvent}
use Rattle.dfu_conformance.specs.declared.standard.TheConstants.{STANDARD}
use Rattle.dfu_conformance.specs.declared.marks.TheConstants.{MARKS}
use Rattle.dfu_conformance.specs.declared.habits.TheConstants.{HABITS}
use Rattle.dfu_conformance.specs.declared.drifts.TheConstants.{DRIFTS}
use Rattle.dfu_conformance.specs.RowMatches.{place_number, row_fits}
use Rattle.dfu_conformance.specs.inside.Stepped.{passes_below}
use Rattle.dfu_conformance.specs.declared.dfuse.rows.TheConstants.{DFUSE}
use Rattle.dfu_conformance.specs.dfuse.Runs.{of_dfuse, dfuse_may_stay_at_event}
use Rattle.dfu_conformance.specs.dfuse.Verdicts.{has_place}

-- At the event, the row leads a DfuSe device from a listed state to state `n`.
abbrev pub row_leads_to : List Bool → LogEvent → StandardState → Row → Bool
row_leads_to at e n row =
    (place_number row.next == place_number n) && (row_fits row e && (has_place at row.from && of_dfuse row.when))

-- The move leads a DfuSe device from a listed state to state `n`.
abbrev pub drift_leads_to : List Bool → StandardState → Drift → Bool
drift_leads_to at n d = (place_number d.next == place_number n) && (has_place at d.from && of_dfuse d.when)

-- Right after the event, before a move, a DfuSe device may be in state `n`: it stayed there, or a row led it there.
abbrev pub may_be_at_before_move : List Bool → LogEvent → StandardState → Bool
may_be_at_before_move at e n =
    ((((dfuse_may_stay_at_event e && has_place at n) || list_any (row_leads_to at e n) STANDARD) || list_any (row_leads_to at e n) MARKS)
    || list_any (row_leads_to at e n) HABITS) || list_any (row_leads_to at e n) DFUSE

-- A DfuSe device may be in state `n` after at most one move by itself, from a state for which `held` is true.
abbrev pub may_be_at_after_move : (StandardState → Bool) → StandardState → Bool
may_be_at_after_move held n =
    held n || list_any (λ (d : Drift). (place_number d.next == place_number n) && (held d.from && of_dfuse d.when)) DRIFTS

-- After the event and at most one move by itself, a DfuSe device may be in state `n`.
abbrev pub may_be_at_after_event : List Bool → LogEvent → StandardState → Bool
may_be_at_after_event at e n = may_be_at_after_move (λ (p : StandardState). may_be_at_before_move at e p) n

-- The list contains at least one state.
unfoldable pub has_any_place : List Bool → Bool
has_any_place at = passes_below (λ (n : ℕ). slice_index_or at n false) 12
