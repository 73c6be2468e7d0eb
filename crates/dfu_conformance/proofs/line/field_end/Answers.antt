use Rattle.std.proofs.Common.{sym, ◌∙◌}
use Rattle.dfu_conformance.specs.Line.{is_space}
use Rattle.dfu_conformance.proofs.Fields.{found_place_is_first, missing_place_is_end}
use Rattle.dfu_conformance.proofs.line.field_end.Goals as goal

pub returns-in-Some-clause-value : goal.returns-in-Some-clause-value
returns-in-Some-clause-value c = found_place_is_first is_space c.args.line.now c.in-Some.at (sym c.first_space.ensures ∙ c.in-Some.is)

pub returns-in-None-clause-value : goal.returns-in-None-clause-value
returns-in-None-clause-value c = missing_place_is_end is_space c.args.line.now (sym c.first_space.ensures ∙ c.in-None.is)
