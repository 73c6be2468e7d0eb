-- Fields of a line are added one by one.
use Rattle.std.specs.Prelude.{◌≡◌, ℕ, ◌+◌, ◌<◌, List, ◌++◌, length, drop, get_or}
use Rattle.std.specs.Borrow.{Bor}
use Rattle.std.proofs.Common.{arith, sym, ap, ◌∙◌, suc, drop-cons}
use Rattle.std.proofs.lemmas.List.{drop_all}
use Rattle.dfu_output.specs.declared.fields.Value.{Value}
use Rattle.dfu_output.specs.Fields.{value_text, text_with_fields}

-- Adding the fields from index `i` on adds field `i` first and then the fields after it.
pub next_field_is_added : (fields : List (Bor (List ℕ) × Value)) (i : ℕ) (d : Bor (List ℕ) × Value) (text more : List ℕ) → i < length fields
    → more ≡ text ++ ((get_or fields i d).0.now ++ value_text (get_or fields i d).1)
    → text_with_fields text (drop i fields) ≡ text_with_fields more (drop (i + 1) fields)
next_field_is_added fields i d text more lt is =
    let next : suc i ≡ i + 1 = omega arith in
    ap (text_with_fields text) (drop-cons fields i d lt)
    ∙ ap (λ (t : List ℕ). text_with_fields t (drop (suc i) fields)) (sym is)
    ∙ ap (λ (n : ℕ). text_with_fields more (drop n fields)) next

-- Adding the fields from index `i` on changes nothing if there are at most `i` fields.
pub no_fields_leave_text : (fields : List (Bor (List ℕ) × Value)) (i : ℕ) (text : List ℕ) → length fields < i + 1
    → text_with_fields text (drop i fields) ≡ text
no_fields_leave_text fields i text le = ap (text_with_fields text) (drop_all i fields (omega (arith, le)))
