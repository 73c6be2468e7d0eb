use Rattle.std.proofs.Common.{◌<◌, ◌++◌, ◌∷◌, [], length, ap, ◌∙◌, subst, arith}
use Rattle.dfu_output.specs.judge.Lines.{LinesState}
use Rattle.dfu_output.proofs.judge.lines.LogLines.keep.Goals as goal

pub returns-clause-ok : goal.returns-clause-ok
returns-clause-ok c = record {
  room = omega (arith, c.requires.some, ap (λ (s : LinesState). s.room) c.self.view_is);
  inner = c.requires.inner;
  short = subst (λ (s : LinesState). length s.line < 262158) c.self.view_is
      (omega (arith, c.len.ensures, c.if-len-ge-MAX_LINE.false));
  line = c.put.ensures.items ∙ ap (λ (s : LinesState). s.line ++ c.args.byte ∷ []) c.self.view_is;
  number = ap (λ (s : LinesState). s.number) c.self.view_is;
}
