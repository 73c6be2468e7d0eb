use Rattle.std.proofs.Common.{◌≡◌, ◌+◌, ◌<◌, ◌≤◌, length}
use Rattle.dfu_formats.specs.images.Lines.{lines, state_before_first_line, line_read, lines_read}
use Rattle.dfu_formats.proofs.images.lines.lines_read.Given as goal

abbrev pub invariant-loop-next : goal.invariant-loop-next
invariant-loop-next g l = record {
  few : l.at + length l.rest ≤ length l.text + 1;
  counted : l.state.count < l.at;
  so_far : lines_read (line_read g.F.TextFormat.step) l.at l.state (lines l.rest)
      ≡ lines_read (line_read g.F.TextFormat.step) 1 state_before_first_line (lines l.text);
}

abbrev pub decreases-loop-next : goal.decreases-loop-next
decreases-loop-next g l = length l.rest
