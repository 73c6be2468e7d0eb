use Rattle.std.proofs.Common.{◌∷◌, ℕ, sym, subst}
use Rattle.dfu_output.specs.judge.Lines.{ByteRefused}
use Rattle.dfu_output.proofs.judge.lines.LogLines.take.Goals as goal

pub returns-in-Err-clause-err : goal.returns-in-Err-clause-err
returns-in-Err-clause-err c tail =
    subst (λ (k : ℕ). ByteRefused c.args.interface c.args.self.now (k ∷ tail) c.in-Err.fault) (sym c.if-byte-eq10.true)
    (c.in-Err.ensures.err tail)

pub returns-in-Err-keep-clause-err : goal.returns-in-Err-keep-clause-err
returns-in-Err-keep-clause-err c tail = c.in-Err-keep.ensures.err c.args.interface tail
