-- Proofs by cases of a test or of a result.
use Rattle.std.proofs.Common.{◌≡◌, Bool, true, false, if◌then◌else◌, Result, Ok, Err, OnOk, refl}
use Rattle.std.specs.Result.{is_err}

-- P follows if it follows from each outcome of the test.
pub fact_by_both_outcomes : {P : Type 0} (t : Bool) → (t ≡ true → P) → (t ≡ false → P) → P
fact_by_both_outcomes true f g = f refl
fact_by_both_outcomes false f g = g refl

-- A property holds for a choice if it holds for each branch when the test selects that branch.
pub choice_has_fact : {A : Type 0} (P : A → Type 0) (t : Bool) (x y : A) → (t ≡ true → P x) → (t ≡ false → P y) → P (if t then x else y)
choice_has_fact P true x y f g = f refl
choice_has_fact P false x y f g = g refl

-- If a result is not an error, the fact of its Ok case holds.
pub result_without_error_has_fact : {T E P : Type 0} (r : Result T E) → false ≡ is_err r → OnOk r P → P
result_without_error_has_fact (Ok x) fine p = p
result_without_error_has_fact (Err e) fine p = absurd (cc)
