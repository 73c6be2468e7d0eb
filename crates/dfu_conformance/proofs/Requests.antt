-- The rows of `MARKS` apply to bus resets and to returns of power, but not to requests.
use Rattle.std.specs.Prelude.{◌≡◌, ℕ, ◌≤◌, nat_le, Bool, true, false, List}
use Rattle.std.specs.List.{list_any, list_all}
use Rattle.std.proofs.Common.{refl, arith, inl, inr}
use Rattle.std.proofs.lemmas.Bool.{false_from_ne_true, or_cases, and_parts, eqb-true, leb-true}
use Rattle.std.proofs.lemmas.List.Folds.{Any-from_list_any}
use Rattle.dfu_conformance.specs.declared.row.StandardState.{StandardState}
use Rattle.dfu_conformance.specs.declared.row.Row.{Row}
use Rattle.dfu_conformance.specs.declared.event.LogEvent.{LogEvent}
use Rattle.dfu_conformance.specs.declared.marks.TheConstants.{MARKS}
use Rattle.dfu_conformance.specs.RowMatches.{event_kind_number}
use Rattle.dfu_conformance.specs.inside.Stepped.{row_leads}
use Rattle.dfu_conformance.proofs.ForCallers.{each_element_passes}

-- The row is for a bus reset or a return of power.
is_reset_or_power_row : Row → Bool
is_reset_or_power_row row = nat_le 9 (event_kind_number row.asked)

-- Each row of `MARKS` is for a bus reset or a return of power.
marks_are_reset_or_power_rows : list_all is_reset_or_power_row MARKS ≡ true
unfolding is_reset_or_power_row
marks_are_reset_or_power_rows = refl

-- Requests have indices up to 8, and resets and power have indices from 9 on, so they differ.
request_is_no_reset_or_power : (x y : ℕ) → 9 ≤ x → y ≤ 8 → x ≡ y → ⊥
request_is_no_reset_or_power x y above below same = omega arith

-- The index of a reset or of power isn't 8, the index of `Other`.
nine_or_more_is_not_eight : (x : ℕ) → 9 ≤ x → x ≡ 8 → ⊥
nine_or_more_is_not_eight x above same = omega arith

-- No row of `MARKS` applies to a request, because each is for a bus reset or a return of power.
pub marks_lead_no_request : (held : List (List ℕ)) (e : LogEvent) (n : StandardState) (a r : ℕ) → event_kind_number e.asked ≤ 8
    → list_any (row_leads held e n a r) MARKS ≡ false
unfolding is_reset_or_power_row
marks_lead_no_request held e n a r request = false_from_ne_true _ (λ some.
    let (k, row, in', is, led) = Any-from_list_any (row_leads held e n a r) MARKS some in
    let mark : 9 ≤ event_kind_number row.asked =
    leb-true _ _ (each_element_passes is_reset_or_power_row MARKS row (k, in', is) marks_are_reset_or_power_rows)
    in
    let asks = (and_parts _ _ (and_parts _ _ (and_parts _ _ led).1).0).0 in
    elim (or_cases _ _ asks) [
      | inl same ↦ request_is_no_reset_or_power (event_kind_number row.asked) (event_kind_number e.asked) mark request (eqb-true _ _ same)
      | inr other ↦ nine_or_more_is_not_eight (event_kind_number row.asked) mark (eqb-true _ _ (and_parts _ _ other).1)
    ])
