-- A test over the rows or moves of a list passes exactly if one of these rows or moves leads a device to the state.
use Rattle.std.specs.Prelude.{◌≡◌, ◌⊎◌, ℕ, ◌==◌, ◌&&◌, ◌||◌, Bool, true, List}
use Rattle.std.specs.List.{list_any}
use Rattle.std.proofs.Common.{refl, ap, ◌∙◌, inl, inr}
use Rattle.std.proofs.lemmas.Bool.{or_cases, or_left, or_right, and_parts, and_from, eq-eqb, eqb-true}
use Rattle.std.proofs.lemmas.List.Folds.{Any-from_list_any, list_any-from_Any}
use Rattle.dfu_conformance.specs.declared.row.StandardState.{StandardState}
use Rattle.dfu_conformance.specs.declared.row.Row.{Row}
use Rattle.dfu_conformance.specs.declared.row.Drift.{Drift}
use Rattle.dfu_conformance.specs.declared.event.LogEvent.{LogEvent}
use Rattle.dfu_conformance.specs.RowMatches.{place_number, row_fits}
use Rattle.dfu_conformance.specs.Candidates.{applies_to}
use Rattle.dfu_conformance.specs.MayAnswer.{RowStep, MovesBy}
use Rattle.dfu_conformance.proofs.Places.{equal_place_numbers_equal_place}

-- The row leads a device to state `n`, from a state for which the test `held` is true.
abbrev pub leads_from : (StandardState → Bool) → LogEvent → StandardState → (attributes readings : ℕ) → Row → Bool
leads_from held e n a r row = (place_number row.next == place_number n) && (row_fits row e && (held row.from && applies_to row.when a r))

-- If the test `leads_from` passes for some row, a row of the list leads a device to `n` from a state for which `held` is true.
pub leading_row_is_row_step : (rows : List Row) (held : StandardState → Bool) (e : LogEvent) (n : StandardState) (a r : ℕ)
    → list_any (leads_from held e n a r) rows ≡ true
    → (p : StandardState) × (held p ≡ true) × RowStep rows a r p e n
leading_row_is_row_step rows held e n a r some =
    let (k, row, in', is, led) = Any-from_list_any (leads_from held e n a r) rows some in
    let there = and_parts _ _ led in
    let speaks = and_parts _ _ there.1 in
    let from = and_parts _ _ speaks.1 in (
      row.from,
      from.0,
      record {
        row = row;
        listed = (k, in', is);
        begins = refl;
        ends = equal_place_numbers_equal_place row.next n (eqb-true _ _ there.0);
        speaks = speaks.0;
        row_is_for_device = from.1;
      },
    )

-- If a row of the list leads a device to `n` from a state for which `held` is true, the test `leads_from` passes for some row.
pub row_step_is_leading_row : (rows : List Row) (held : StandardState → Bool) (e : LogEvent) (p n : StandardState) (a r : ℕ) → held p ≡ true
    → RowStep rows a r p e n
    → list_any (leads_from held e n a r) rows ≡ true
row_step_is_leading_row rows held e p n a r is g =
    list_any-from_Any (leads_from held e n a r) rows (
      g.listed.0,
      g.row,
      g.listed.1,
      g.listed.2,
      and_from _ _ (eq-eqb _ _ (ap place_number g.ends)) (and_from _ _ g.speaks (and_from _ _ (ap held g.begins ∙ is) g.row_is_for_device)),
    )

-- If the test passes for `n`, then `held` is true for `n`, or a move of the list leads to `n` from a state for which `held` is true.
pub leading_drift_is_move : (moves : List Drift) (held : StandardState → Bool) (n : StandardState) (a r : ℕ)
    → (held n || list_any (λ (d : Drift). (place_number d.next == place_number n) && (held d.from && applies_to d.when a r)) moves) ≡ true
    → (p : StandardState) × (held p ≡ true) × ((n ≡ p) ⊎ MovesBy moves a r p n)
leading_drift_is_move moves held n a r some = elim (or_cases _ _ some) [
  | inl stayed ↦ (n, stayed, inl refl)
  | inr moved ↦
      let (k, row, in', is, led) =
      Any-from_list_any (λ (d : Drift). (place_number d.next == place_number n) && (held d.from && applies_to d.when a r)) moves moved in
      let there = and_parts _ _ led in
      let from = and_parts _ _ there.1 in (
        row.from,
        from.0,
        inr (record {
          row = row;
          listed = (k, in', is);
          begins = refl;
          ends = equal_place_numbers_equal_place row.next n (eqb-true _ _ there.0);
          row_is_for_device = from.1;
        }),
      )
]

-- If `held` is true for `p`, and a device stays in `p` or goes to `n` by a move of the list, the test passes for `n`.
pub move_is_leading_drift : (moves : List Drift) (held : StandardState → Bool) (p n : StandardState) (a r : ℕ) → held p ≡ true
    → (n ≡ p) ⊎ MovesBy moves a r p n
    → (held n || list_any (λ (d : Drift). (place_number d.next == place_number n) && (held d.from && applies_to d.when a r)) moves) ≡ true
move_is_leading_drift moves held p n a r is (inl same) = or_left _ _ (ap held same ∙ is)
move_is_leading_drift moves held p n a r is (inr m) =
    or_right _ _ (list_any-from_Any (λ (d : Drift). (place_number d.next == place_number n) && (held d.from && applies_to d.when a r))
    moves (
      m.listed.0,
      m.row,
      m.listed.1,
      m.listed.2,
      and_from _ _ (eq-eqb _ _ (ap place_number m.ends)) (and_from _ _ (ap held m.begins ∙ is) m.row_is_for_device),
    ))
