-- Facts about the texts of arguments.
use Rattle.std.proofs.Common.{◌≡◌, ◌∙◌, refl, ap, sym, List, Option, None, Some, Result, Ok, Err, IfOk}
use Rattle.std.specs.List.{find}
use Rattle.std.specs.Prelude.{slice_get}
use Rattle.std.specs.Option.{option_and_then, option_map}
use Rattle.std.specs.Str.{bytes_eq}
use Rattle.clap.specs.Words.{Row, Text, all_of, first_of}

-- An argument without a row has no first text.
pub argument_without_row_has_no_text : (id : Text) (rows : List Row) → all_of id rows ≡ None → first_of id rows ≡ None
argument_without_row_has_no_text id rows none = go (find (λ r. bytes_eq r.id id) rows) none
  where
    go : (o : Option Row) → option_map (λ (r : Row). r.values) o ≡ None → option_and_then (λ (r : Row). slice_get r.values 0) o ≡ None
    go None none = refl
    go (Some r) none = cc

-- If copying an argument's first text succeeds, the copy equals this text.
pub copied_text_is_value : {T E : Type 0} (text : T → Text) (copy : Result T E) (value : Text) (first : Option Text)
    → IfOk copy (λ t. text t ≡ value) → first ≡ Some value → IfOk copy (λ t. first ≡ Some (text t))
copied_text_is_value text (Ok t) value first same is = is ∙ ap Some (sym same)
copied_text_is_value text (Err e) value first same is = tt
