use Rattle.std.specs.Prelude.{length}
use Rattle.dfu_conformance.proofs.captures.joining.exchanges_of.Given as goal

-- Each record removes at least one byte from the rest.
abbrev pub decreases-loop-rest : goal.decreases-loop-rest
decreases-loop-rest l = length l.rest
