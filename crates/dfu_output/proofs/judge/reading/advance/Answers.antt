use Rattle.std.proofs.Common.{◌+◌, ◌++◌, List, ℕ, None, arith, drop, refl, subst, take}
use Rattle.dfu_output.specs.judge.Judging.{LogStops}
use Rattle.dfu_output.proofs.LogPieces.{no_departure_keeps_output, piece_splits_at_byte}
use Rattle.dfu_output.proofs.judge.reading.advance.Goals as goal

pub returns-in-Err-clause-err : goal.returns-in-Err-clause-err
returns-in-Err-clause-err g c old text at tail =
    let k = c.take_inner-count.result in
    let rest = c.args.rest.now in
    subst (λ (xs : List ℕ). LogStops c.args.interface old (g.W.Write.contents c.step.new.writer) xs c.in-Err.fault)
    (piece_splits_at_byte text rest tail k _ (omega (arith, c.take_inner-count.ensures.within, c.if-count-rest.false)))
    (c.in-Err.ensures.err old (text ++ take k rest)
    (no_departure_keeps_output _ old _ (text ++ take k rest) at.course None _ at.out refl
    (c.take_inner-count.ensures.state_after_text c.args.interface text at.course at.at at.judged)) (drop (k + 1) rest ++ tail))
