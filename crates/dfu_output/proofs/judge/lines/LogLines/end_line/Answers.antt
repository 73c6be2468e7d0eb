use Rattle.std.proofs.Common.{◌+◌, ap, ◌∙◌, refl, arith}
use Rattle.dfu_output.specs.judge.Lines.{LinesState}
use Rattle.dfu_output.proofs.LogSaying.{equal_lines_agree}
use Rattle.dfu_output.proofs.judge.lines.LogLines.end_line.Goals as goal

pub returns-clause-ok : goal.returns-clause-ok
returns-clause-ok c = record {
  room = omega (arith, c.requires.some, ap (λ (s : LinesState). s.room) c.self.view_is);
  end = refl;
  said = equal_lines_agree c.args.interface _ _ _ _
      (c.deref.ensures.value ∙ ap (λ (s : LinesState). s.line) c.self.view_is) c.in-Some.is
      c.read_line.ensures;
  line = c.clear.ensures.items;
  number = ap (λ (s : LinesState). s.number + 1) c.self.view_is;
}
