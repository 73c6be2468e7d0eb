-- Facts for the proofs of other crates: the tables contain a row with given fields, and two moves in sequence are one move.
use Rattle.std.specs.Prelude.{◌≡◌, ℕ, ◌+◌, ◌==◌, ◌&&◌, ◌||◌, not, Bool, true, List, [], ◌∷◌, Contains, if◌then◌else◌}
use Rattle.std.specs.List.{list_any, list_all}
use Rattle.std.proofs.Common.{refl, sym, ap, subst, ◌∙◌, inl, inr}
use Rattle.std.proofs.lemmas.Bool.{not-true, and_parts, and_from, or_cases, eqb-true, eq-eqb, true_from_ne_false, both_ways}
use Rattle.std.proofs.lemmas.List.Folds.{Any-from_list_any, list_all_at}
use Rattle.dfu_conformance.specs.declared.row.StandardState.{StandardState}
use Rattle.dfu_conformance.specs.declared.row.EventKind.{EventKind}
use Rattle.dfu_conformance.specs.declared.row.Reading.TheVariants.{Bootloader, RuntimeMute, SelfReset, DetachAtOnce, DetachLeaves, ErrorWithoutCode}
use Rattle.dfu_conformance.specs.declared.row.Row.{Row}
use Rattle.dfu_conformance.specs.declared.row.Drift.{Drift}
use Rattle.dfu_conformance.specs.declared.row.When.{When}
use Rattle.dfu_conformance.specs.declared.row.When.TheVariants.{Always, CanDownload, CanUpload, Tolerant, NotTolerant, WillDetach, By}
use Rattle.dfu_conformance.specs.declared.row.Gives.{Gives}
use Rattle.dfu_conformance.specs.declared.row.Gives.TheVariants as gives
use Rattle.dfu_conformance.specs.declared.event.LogEvent.{LogEvent}
use Rattle.dfu_conformance.specs.declared.drifts.TheConstants.{DRIFTS}
use Rattle.dfu_conformance.specs.RowMatches.{place_number, event_kind_number, asks, answer_matches}
use Rattle.dfu_conformance.specs.Candidates.{applies_to, reading_bit}
use Rattle.dfu_conformance.specs.MayAnswer.{RowStep, MovesBy, MayMove, Run}
use Rattle.dfu_conformance.proofs.Places.{equal_place_numbers_equal_place}

-- Number of the answer that a row allows, 0 to 7.
abbrev pub gives_number : Gives → ℕ
gives_number gives.Ack = 0
gives_number gives.Stall = 1
gives_number gives.Status = 2
gives_number gives.NoCode = 3
gives_number gives.State = 4
gives_number gives.Full = 5
gives_number gives.Short = 6
gives_number gives.Silent = 7

-- Answer with this number, or `Silent` for 7 and above.
gives_of_number : ℕ → Gives
gives_of_number n =
    if n == 0 then gives.Ack else if n == 1 then gives.Stall else if n == 2 then gives.Status else if n == 3 then gives.NoCode
    else if n == 4 then gives.State else if n == 5 then gives.Full else if n == 6 then gives.Short else gives.Silent

-- From the number of an answer, `gives_of_number` returns this answer.
gives_has_its_number : (g : Gives) → gives_of_number (gives_number g) ≡ g
unfolding gives_of_number
gives_has_its_number gives.Ack = refl
gives_has_its_number g = refl

-- Number of the set of devices to which a row applies, 0 to 11.
abbrev pub when_number : When → ℕ
when_number Always = 0
when_number CanDownload = 1
when_number CanUpload = 2
when_number Tolerant = 3
when_number NotTolerant = 4
when_number WillDetach = 5
when_number (By reading) = 6 + reading_bit reading

-- Set of devices with this number, or `By ErrorWithoutCode` for 11 and above.
when_of_number : ℕ → When
when_of_number n =
    if n == 0 then Always else if n == 1 then CanDownload else if n == 2 then CanUpload else if n == 3 then Tolerant
    else if n == 4 then NotTolerant else if n == 5 then WillDetach else if n == 6 then By Bootloader else if n == 7 then By RuntimeMute
    else if n == 8 then By SelfReset else if n == 9 then By DetachAtOnce else if n == 10 then By DetachLeaves else By ErrorWithoutCode

-- From the number of a set of devices, `when_of_number` returns this set.
when_has_its_number : (w : When) → when_of_number (when_number w) ≡ w
unfolding when_of_number
when_has_its_number Always = refl
when_has_its_number (By Bootloader) = refl
when_has_its_number (By reading) = refl
when_has_its_number w = refl

-- The row has these five fields, and any source.
abbrev pub is_row : StandardState → EventKind → When → Gives → StandardState → Row → Bool
is_row from asked when g next row =
    (place_number row.from == place_number from) && ((event_kind_number row.asked == event_kind_number asked)
    && ((when_number row.when == when_number when) && ((gives_number row.gives == gives_number g)
    && (place_number row.next == place_number next))))

-- If the list contains a row with these fields that fits the event and the device, a row leads the device from `from` to `next`.
pub device_goes_by_listed_row : (rows : List Row) (from : StandardState) (asked : EventKind) (when : When) (g : Gives) (next :
    StandardState) (a r : ℕ)
    (e : LogEvent)
    → list_any (is_row from asked when g next) rows ≡ true → applies_to when a r ≡ true → asks asked e ≡ true
    → answer_matches g from next e.length e.answer ≡ true → RowStep rows a r from e next
device_goes_by_listed_row rows from asked when g next a r e some row_is_for_device is_asked is_shown =
    let (k, row, in', is, fields) = Any-from_list_any (is_row from asked when g next) rows some in
    let f = and_parts _ _ fields in
    let q = and_parts _ _ f.1 in
    let w = and_parts _ _ q.1 in
    let n = and_parts _ _ w.1 in
    let same_from : row.from ≡ from = equal_place_numbers_equal_place row.from from (eqb-true _ _ f.0) in
    let same_next : row.next ≡ next = equal_place_numbers_equal_place row.next next (eqb-true _ _ n.1) in
    let equal_when_numbers_equal_when : row.when ≡ when = sym (when_has_its_number row.when) ∙ ap when_of_number (eqb-true _ _ w.0)
    ∙ when_has_its_number when in
    let same_gives : row.gives ≡ g = sym (gives_has_its_number row.gives) ∙ ap gives_of_number (eqb-true _ _ n.0)
    ∙ gives_has_its_number g in
    record {
      row = row;
      listed = (k, in', is);
      begins = same_from;
      ends = same_next;
      speaks = and_from _ _
          (ap (λ (x : ℕ). (x == event_kind_number e.asked) || (not e.is_plain && (x == 8))) (eqb-true _ _ q.0) ∙ is_asked)
          ((λ i. answer_matches (same_gives i) (same_from i) (same_next i) e.length e.answer) ∙ is_shown);
      row_is_for_device = ap (λ (x : When). applies_to x a r) equal_when_numbers_equal_when ∙ row_is_for_device;
    }

-- The move has these three fields, and any source.
abbrev pub is_move : StandardState → When → StandardState → Drift → Bool
is_move from when next d =
    (place_number d.from == place_number from) && ((when_number d.when == when_number when) && (place_number d.next == place_number next))

-- If the list contains a move with these fields that applies to the device, the device may make this move.
pub device_moves_by_listed_drift : (moves : List Drift) (from : StandardState) (when : When) (next : StandardState) (a r : ℕ)
    → list_any (is_move from when next) moves ≡ true
    → applies_to when a r ≡ true → MovesBy moves a r from next
device_moves_by_listed_drift moves from when next a r some row_is_for_device =
    let (k, row, in', is, fields) = Any-from_list_any (is_move from when next) moves some in
    let f = and_parts _ _ fields in
    let w = and_parts _ _ f.1 in
    record {
      row = row;
      listed = (k, in', is);
      begins = equal_place_numbers_equal_place row.from from (eqb-true _ _ f.0);
      ends = equal_place_numbers_equal_place row.next next (eqb-true _ _ w.1);
      row_is_for_device = ap (λ (x : When). applies_to x a r) (sym (when_has_its_number row.when)
          ∙ ap when_of_number (eqb-true _ _ w.0) ∙ when_has_its_number when) ∙ row_is_for_device;
    }

-- The move `f` leads from the start of `d` to the end of `e`, for all devices that may make both `d` and `e`.
drift_joins_two : Drift → Drift → Drift → Bool
drift_joins_two d e f =
    ((place_number f.from == place_number d.from) && (place_number f.next == place_number e.next))
    && ((when_number f.when == 0) || ((when_number f.when == when_number d.when) || (when_number f.when == when_number e.when)))

-- If `e` begins in the state in which `d` ends, `DRIFTS` contains a move that joins the two.
followed_drifts_are_joined : Drift → Drift → Bool
followed_drifts_are_joined d e = not (place_number d.next == place_number e.from) || list_any (drift_joins_two d e) DRIFTS

-- If a move of `DRIFTS` begins in the state in which another one ends, `DRIFTS` contains a move that joins the two.
all_drift_pairs_are_joined : list_all (λ (d : Drift). list_all (λ (e : Drift). followed_drifts_are_joined d e) DRIFTS) DRIFTS ≡ true
unfolding followed_drifts_are_joined drift_joins_two
all_drift_pairs_are_joined = refl

-- If all elements of a list pass a test, so does its element `x`.
pub each_element_passes : {X : Type 0} (p : X → Bool) (xs : List X) (x : X) → Contains xs x → list_all p xs ≡ true → p x ≡ true
each_element_passes p xs x (k, in', is) all = true_from_ne_false (p x) (λ fails.
    both_ways (list_all p xs) (list_all_at p xs k x in' (ap p is ∙ fails)) all)

-- If two moves of `DRIFTS` in sequence lead a device from `p` to `s`, one move of `DRIFTS` does so too.
two_listed_moves_are_one : (a r : ℕ) (p q s : StandardState) → MovesBy DRIFTS a r p q → MovesBy DRIFTS a r q s → MovesBy DRIFTS a r p s
unfolding followed_drifts_are_joined drift_joins_two
two_listed_moves_are_one a r p q s m n =
    let both : followed_drifts_are_joined m.row n.row ≡ true =
    each_element_passes (λ (e : Drift). followed_drifts_are_joined m.row e) DRIFTS n.row n.listed
    (each_element_passes
    (λ (d : Drift). list_all (λ (e : Drift). followed_drifts_are_joined d e) DRIFTS) DRIFTS m.row m.listed all_drift_pairs_are_joined) in
    elim (or_cases _ _ both) [
      | inl apart ↦ absurd (both_ways (place_number m.row.next == place_number n.row.from)
          (not-true _ apart) (eq-eqb _ _ (ap place_number (m.ends ∙ sym n.begins))))
      | inr some ↦
          let (k, row, in', is, closed) = Any-from_list_any (drift_joins_two m.row n.row) DRIFTS some in
          let c = and_parts _ _ closed in
          let ends = and_parts _ _ c.0 in
          record {
            row = row;
            listed = (k, in', is);
            begins = equal_place_numbers_equal_place row.from m.row.from (eqb-true _ _ ends.0) ∙ m.begins;
            ends = equal_place_numbers_equal_place row.next n.row.next (eqb-true _ _ ends.1) ∙ n.ends;
            row_is_for_device = joined_drift_is_for_device a r row m.row n.row m.row_is_for_device n.row_is_for_device c.1;
          }
    ]
  where
    equal_when_numbers_equal_when : (x y : When) → (when_number x == when_number y) ≡ true → x ≡ y
    equal_when_numbers_equal_when x y e = sym (when_has_its_number x) ∙ ap when_of_number (eqb-true _ _ e) ∙ when_has_its_number y

    joined_drift_is_for_device : (a r : ℕ) (f d e : Drift) → applies_to d.when a r ≡ true → applies_to e.when a r ≡ true
        → ((when_number f.when == 0) || ((when_number f.when == when_number d.when) || (when_number f.when == when_number e.when))) ≡ true
        → applies_to f.when a r ≡ true
    joined_drift_is_for_device a r f d e of_d of_e some = elim (or_cases _ _ some) [
      | inl always ↦ ap (λ (x : When). applies_to x a r) (equal_when_numbers_equal_when f.when Always always)
      | inr some ↦ elim (or_cases _ _ some) [
        | inl as_d ↦ ap (λ (x : When). applies_to x a r) (equal_when_numbers_equal_when f.when d.when as_d) ∙ of_d
        | inr as_e ↦ ap (λ (x : When). applies_to x a r) (equal_when_numbers_equal_when f.when e.when as_e) ∙ of_e
      ]
    ]

-- If a device may reach a state in two moves, it may reach it in one.
pub two_moves_are_one : (a r : ℕ) (p q s : StandardState) → MayMove a r p q → MayMove a r q s → MayMove a r p s
two_moves_are_one a r p q s (inl same) n = subst (λ (x : StandardState). MayMove a r x s) same n
two_moves_are_one a r p q s (inr m) (inl same) = inr (subst (λ (x : StandardState). MovesBy DRIFTS a r p x) (sym same) m)
two_moves_are_one a r p q s (inr m) (inr n) = inr (two_listed_moves_are_one a r p q s m n)

-- If a device moves from `p` to `q`, each run from `q` is also a run from `p`.
pub move_begins_run : (a r : ℕ) (p q : StandardState) (events : List LogEvent) (last : StandardState) → MayMove a r p q
    → Run a r q events last
    → Run a r p events last
move_begins_run a r p q [] last m run = two_moves_are_one a r p q last m run
move_begins_run a r p q (e ∷ events) last m (here, next, moved, may, rest) = (here, next, two_moves_are_one a r p q here m moved, may, rest)
