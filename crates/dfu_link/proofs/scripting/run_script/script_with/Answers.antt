use Rattle.dfu_link.specs.LineContent.{given_bytes}
use Rattle.dfu_link.proofs.EndPrints.{ended_script_has_printed}
use Rattle.dfu_link.proofs.scripting.run_script.script_with.Goals as goal

pub returns-clause-printed : goal.returns-clause-printed
returns-clause-printed g c = ended_script_has_printed c.image_shown.ensures (given_bytes c.args.given) (g.R.Read.remaining c.args.reader)
    (g.W.Write.contents c.args.writer.now) (g.W.Write.contents c.run_lines.new.writer) c.run_lines.result c.run_lines.ensures
