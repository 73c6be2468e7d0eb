-- Properties of a conditional.
use Rattle.std.specs.Prelude.{Bool, true, false, if◌then◌else◌}

-- If a property holds for both branches of a conditional, it holds for the conditional.
pub holds_in_both_branches : {A : Type 0} (P : A → Type 0) (b : Bool) (x y : A) → P x → P y → P (if b then x else y)
holds_in_both_branches P true x y p q = p
holds_in_both_branches P false x y p q = q
