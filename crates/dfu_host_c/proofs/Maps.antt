-- Faults and ranges of maps that are read from a string.
use Rattle.std.proofs.Common.{◌≡◌, ◌≤◌, ℕ, ◌∙◌, Option, Some, None, IfSome, MatchOption, List, length, Result, Ok, Err, sym, ap, subst}
use Rattle.std.specs.Prelude.{◌<◌, slice_index_or}
use Rattle.std.specs.Borrow.{Bor}
use Rattle.std.specs.List.{HoldsAt, slice_get}
use Rattle.std.specs.Slice.{IsItemAt}
use Rattle.std.proofs.lemmas.Option.{slice_get-get_or, slice_get_past}
use Rattle.dfu_formats.specs.memory.Reading.{MapContent}
use Rattle.dfu_formats.specs.declared.memory.fault.MapFault.{MapFault}
use Rattle.dfu_formats.specs.declared.memory.pages.Pages.{Pages}

-- If reading a string ends with a fault, the string is not a map.
pub faulty_string_is_no_map : (result : Result MapContent MapFault) (fault : MapFault) (m : MapContent) → result ≡ Err fault → result
    ≡ Ok m → ⊥
faulty_string_is_no_map result fault m is only = let never : Err fault ≡ Ok m = sym is ∙ only in absurd cc

-- A range that was found by a number is the map's range with that number.
pub found_range_has_its_number : (xs ys : List Pages) (i : ℕ) (r : Option (Bor Pages)) (p : Bor Pages) → xs ≡ ys → IsItemAt xs i r
    → r ≡ Some p →
    slice_get ys i ≡ Some p.now
found_range_has_its_number xs ys i r p same at is =
    let value : p.now ≡ slice_index_or xs i p.now = subst (λ (o : Option (Bor Pages)). IfSome o (λ x. x.now ≡ slice_index_or xs i x.now)) is at.1 in
    let within : i < length xs =
    (subst (λ (o : Option (Bor Pages)). MatchOption o (length xs ≤ i) (λ x. (i < length xs) × HoldsAt (λ y. x.now ≡ y) xs i)) is at.3).0 in
    subst (λ (zs : List Pages). slice_get zs i ≡ Some p.now) same (slice_get-get_or xs i p.now within ∙ ap Some (sym value))

-- If no range was found by a number, the map has no range with that number.
pub unfound_number_has_no_range : (xs ys : List Pages) (i : ℕ) (r : Option (Bor Pages)) → xs ≡ ys → IsItemAt xs i r → r ≡ None
    → slice_get ys i ≡ None
unfound_number_has_no_range xs ys i r same at is =
    let past : length xs ≤ i =
    subst (λ (o : Option (Bor Pages)). MatchOption o (length xs ≤ i) (λ x. (i < length xs) × HoldsAt (λ y. x.now ≡ y) xs i)) is at.3 in
    subst (λ (zs : List Pages). slice_get zs i ≡ None) same (slice_get_past xs i past)
