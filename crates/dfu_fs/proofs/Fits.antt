-- Forms that fit a line, checked part by part.
use Rattle.std.specs.Prelude.{◌≡◌, ℕ, ◌+◌, ◌<◌, Option, Some, None, List, [], ◌∷◌, length, drop, get_or}
use Rattle.std.proofs.Common.{refl, arith, ap, ◌∙◌, suc, drop-cons}
use Rattle.std.proofs.lemmas.List.{drop_all}
use Rattle.dfu_fs.specs.declared.json.part.LinePart.{LinePart}
use Rattle.dfu_fs.specs.Parts.{◌>>=◌, with_part}
use Rattle.dfu_fs.specs.Objects.{members_by_form, members_of_first_form, first_or_second, members_at_line_end}

members_by_form_take_first_part : (p : LinePart) (ps : List LinePart) (out line : List ℕ)
    → members_by_form (p ∷ ps) out line ≡ (with_part p out line >>= λ s. members_by_form ps s.0 s.1)
unfolding members_by_form
members_by_form_take_first_part p ps out line = refl

no_parts_leave_line_end : (out line : List ℕ) → members_by_form [] out line ≡ members_at_line_end out line
unfolding members_by_form
no_parts_leave_line_end out line = refl

members_by_form_take_part : (form : List LinePart) (i : ℕ) (d : LinePart) (out line : List ℕ) → i < length form
    → members_by_form (drop i form) out line ≡ (with_part (get_or form i d) out line >>= λ s. members_by_form (drop (i + 1) form) s.0 s.1)
members_by_form_take_part form i d out line lt =
    let next : suc i ≡ i + 1 = omega arith in
    ap (λ (ps : List LinePart). members_by_form ps out line) (drop-cons form i d lt) ∙ members_by_form_take_first_part (get_or form i d)
    (drop (suc i) form) out line
    ∙ ap (λ (n : ℕ). with_part (get_or form i d) out line >>= λ s. members_by_form (drop n form) s.0 s.1) next

-- If part `i` fits the line, the members from part `i` on are those of the later parts on the rest of the line.
pub fit_part_passes : (form : List LinePart) (i : ℕ) (d : LinePart) (out line out' line' : List ℕ) → i < length form
    → with_part (get_or form i d) out line ≡ Some (out', line')
    → members_by_form (drop i form) out line ≡ members_by_form (drop (i + 1) form) out' line'
fit_part_passes form i d out line out' line' lt is =
    members_by_form_take_part form i d out line lt
    ∙ ap (λ (o : Option (List ℕ × List ℕ)). o >>= λ s. members_by_form (drop (i + 1) form) s.0 s.1) is

-- If part `i` doesn't fit the line, the form doesn't fit it from part `i` on.
pub unfit_part_unfits_form : (form : List LinePart) (i : ℕ) (d : LinePart) (out line : List ℕ) → i < length form
    → with_part (get_or form i d) out line ≡ None → members_by_form (drop i form) out line ≡ None
unfit_part_unfits_form form i d out line lt is =
    members_by_form_take_part form i d out line lt
    ∙ ap (λ (o : Option (List ℕ × List ℕ)). o >>= λ s. members_by_form (drop (i + 1) form) s.0 s.1) is

no_words_left_keep_members : (out line : List ℕ) → length line ≡ 0 → members_at_line_end out line ≡ Some out
no_words_left_keep_members out [] e = refl
no_words_left_keep_members out (b ∷ bs) e = absurd (omega (arith, e))

words_left_give_no_members : (out line : List ℕ) → 0 < length line → members_at_line_end out line ≡ None
words_left_give_no_members out [] e = absurd (omega (arith, e))
words_left_give_no_members out (b ∷ bs) e = refl

-- If nothing of the line is left after the last part, the members are complete.
pub line_of_all_parts_has_form : (form : List LinePart) (i : ℕ) (out line : List ℕ) → length form < i + 1 → length line ≡ 0
    → members_by_form (drop i form) out line ≡ Some out
line_of_all_parts_has_form form i out line le e =
    ap (λ (ps : List LinePart). members_by_form ps out line) (drop_all i form (omega (arith, le))) ∙ no_parts_leave_line_end out line
    ∙ no_words_left_keep_members out line e

-- If words of the line are left after the last part, the form doesn't fit.
pub left_words_unfit_form : (form : List LinePart) (i : ℕ) (out line : List ℕ) → length form < i + 1 → 0 < length line
    → members_by_form (drop i form) out line ≡ None
left_words_unfit_form form i out line le e =
    ap (λ (ps : List LinePart). members_by_form ps out line) (drop_all i form (omega (arith, le))) ∙ no_parts_leave_line_end out line
    ∙ words_left_give_no_members out line e

first_form_is_tried_first : (f : List LinePart) (fs : List (List LinePart)) (line : List ℕ)
    → members_of_first_form (f ∷ fs) line ≡ first_or_second (members_by_form f [] line) (members_of_first_form fs line)
unfolding members_of_first_form
first_form_is_tried_first f fs line = refl

no_forms_give_no_members : (line : List ℕ) → members_of_first_form [] line ≡ None
unfolding members_of_first_form
no_forms_give_no_members line = refl

form_at_place_is_tried_first : (forms : List (List LinePart)) (i : ℕ) (d : List LinePart) (line : List ℕ) → i < length forms
    → members_of_first_form (drop i forms) line ≡ first_or_second (members_by_form (get_or forms i d) [] line)
    (members_of_first_form (drop (i + 1) forms) line)
form_at_place_is_tried_first forms i d line lt =
    let next : suc i ≡ i + 1 = omega arith in
    ap (λ (fs : List (List LinePart)). members_of_first_form fs line) (drop-cons forms i d lt)
    ∙ first_form_is_tried_first (get_or forms i d) (drop (suc i) forms) line
    ∙ ap (λ (n : ℕ). first_or_second (members_by_form (get_or forms i d) [] line) (members_of_first_form (drop n forms) line)) next

-- If form `i` fits the line, its members are those of the first fitting form from `i` on.
pub fit_form_gives_members : (forms : List (List LinePart)) (i : ℕ) (d : List LinePart) (line out : List ℕ) → i < length forms
    → members_by_form (get_or forms i d) [] line ≡ Some out → members_of_first_form (drop i forms) line ≡ Some out
fit_form_gives_members forms i d line out lt is =
    form_at_place_is_tried_first forms i d line lt
    ∙ ap (λ (o : Option (List ℕ)). first_or_second o (members_of_first_form (drop (i + 1) forms) line)) is

-- If form `i` doesn't fit the line, the first fitting form from `i` on is a later one.
pub unfit_form_is_skipped : (forms : List (List LinePart)) (i : ℕ) (d : List LinePart) (line : List ℕ) → i < length forms
    → members_by_form (get_or forms i d) [] line ≡ None
    → members_of_first_form (drop i forms) line ≡ members_of_first_form (drop (i + 1) forms) line
unfit_form_is_skipped forms i d line lt is =
    form_at_place_is_tried_first forms i d line lt
    ∙ ap (λ (o : Option (List ℕ)). first_or_second o (members_of_first_form (drop (i + 1) forms) line)) is

-- After the last form, no form is left that fits the line.
pub nothing_fits_without_forms : (forms : List (List LinePart)) (i : ℕ) (line : List ℕ) → length forms < i + 1
    → members_of_first_form (drop i forms) line ≡ None
nothing_fits_without_forms forms i line le =
    ap (λ (fs : List (List LinePart)). members_of_first_form fs line) (drop_all i forms (omega (arith, le))) ∙ no_forms_give_no_members line
