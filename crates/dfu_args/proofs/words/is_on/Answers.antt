use Rattle.std.proofs.Common.{ap, ◌∙◌}
use Rattle.clap.specs.Words.{found_of}
use Rattle.clap.proofs.WalkLemmas.{first_value-rows}
use Rattle.dfu_args.specs.CommandLine.{is_on}
use Rattle.dfu_args.proofs.words.is_on.Goals as goal

pub returns-in-Some : goal.returns-in-Some
returns-in-Some c = c.eq.ensures ∙ ap is_on (c.in-Some.ensures ∙ first_value-rows (found_of c.args.found.now) c.args.id.now)

pub returns-in-None : goal.returns-in-None
returns-in-None c = ap is_on (c.in-None.ensures ∙ first_value-rows (found_of c.args.found.now) c.args.id.now)
