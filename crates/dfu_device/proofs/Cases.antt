-- Proof by the two cases of a Bool.
use Rattle.std.specs.Prelude.{◌≡◌, Bool, true, false}
use Rattle.std.proofs.Common.{refl}

-- P holds if it follows both from b being true and from b being false.
pub bool_has_two_cases : {P : Type 0} (b : Bool) → (b ≡ true → P) → (b ≡ false → P) → P
bool_has_two_cases true f g = f refl
bool_has_two_cases false f g = g refl
