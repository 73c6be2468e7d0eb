-- Meanings of the lines of a log.
use Rattle.std.specs.Prelude.{◌≡◌, ℕ, List, Option}
use Rattle.std.proofs.Common.{subst}
use Rattle.dfu_conformance.specs.declared.log.Line.{Line}
use Rattle.dfu_conformance.specs.Line.{LineMeaning}

pub equal_lines_agree : (interface : ℕ) (given text : List ℕ) (o p : Option Line) → given ≡ text → o ≡ p → LineMeaning interface given o
    → LineMeaning interface text p
equal_lines_agree interface given text o p same is says =
    subst (λ (x : Option Line). LineMeaning interface text x) is (subst (λ (t : List ℕ). LineMeaning interface t o) same says)
