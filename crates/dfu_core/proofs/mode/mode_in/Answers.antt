use Rattle.std.proofs.Common.{◌≡◌, Option, Some, None, sym, ap, ◌∙◌}
use Rattle.dfu_core.proofs.mode.mode_in.Goals as goal

-- Value of an option, or `m` if the option is None.
abbrev value_or_default : {A : Type 0} → A → Option A → A
value_or_default m (Some x) = x
value_or_default m None = m

option_value_is_unique : {A : Type 0} (o : Option A) (m x : A) → o ≡ Some m → o ≡ Some x → m ≡ x
option_value_is_unique o m x is also = ap (value_or_default m) (sym is ∙ also)

pub returns-in-Some-mode_of-clause-only : goal.returns-in-Some-mode_of-clause-only
returns-in-Some-mode_of-clause-only c = λ m has. option_value_is_unique c.mode_of.result c.in-Some-mode_of.mode m c.in-Some-mode_of.is
    (c.mode_of.ensures.only m has)
