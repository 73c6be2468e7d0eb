use Rattle.std.proofs.lemmas.List.Elements.{All-get_or}
use Rattle.dfu_args.specs.Alone.{AloneParsesAsWhole}
use Rattle.dfu_args.proofs.command_line.listed_of.Goals as goal

pub returns-then-eq-clause-alone : goal.returns-then-eq-clause-alone
returns-then-eq-clause-alone c =
    All-get_or AloneParsesAsWhole _ c.loop-listed.listed-index _ c.loop-listed-test.true c.commands-listed-items.ensures.alone
