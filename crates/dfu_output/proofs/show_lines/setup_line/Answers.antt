use Rattle.dfu_output.specs.ShowLines.{setup_line}
use Rattle.dfu_output.proofs.show_lines.setup_line.Goals as goal

pub returns : goal.returns
unfolding setup_line
returns c = rw c.name.ensures at c.line_of.ensures
