use Rattle.std.proofs.Common.{◌≡◌, length}
use Rattle.dfu_formats.specs.images.Text.{without_leading_blanks}
use Rattle.dfu_formats.proofs.images.text.unblanked.Given as goal

abbrev pub invariant-loop-rest : goal.invariant-loop-rest
invariant-loop-rest l = without_leading_blanks l.rest ≡ without_leading_blanks l.text

abbrev pub decreases-loop-rest : goal.decreases-loop-rest
decreases-loop-rest l = length l.rest
