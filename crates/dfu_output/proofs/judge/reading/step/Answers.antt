use Rattle.dfu_output.proofs.LogPieces.{bad_byte_stops_log, unwritten_departure_stops, no_departure_keeps_output, departure_extends_output}
use Rattle.dfu_output.proofs.judge.reading.step.Goals as goal

pub returns-in-Ok-None-clause-ok : goal.returns-in-Ok-None-clause-ok
returns-in-Ok-None-clause-ok g c old text at =
    no_departure_keeps_output _ _ _ _ _ _ _ at.out c.in-Ok-None.field-0-is (c.in-Ok-None.ensures.ok text at.course at.at at.judged)

pub returns-in-Ok-clause-ok : goal.returns-in-Ok-clause-ok
returns-in-Ok-clause-ok g c old text at =
    departure_extends_output _ _ _ _ _ _ _ c.in-Ok-Some.departure _ _ at.out c.in-Ok.ensures.ok c.number.ensures c.in-Ok-Some.field-0-is
    (c.in-Ok-Some.ensures.ok text at.course at.at at.judged)

pub returns-in-Err-tell-clause-err : goal.returns-in-Err-tell-clause-err
returns-in-Err-tell-clause-err g c old text at tail =
    unwritten_departure_stops _ _ _ _ text tail c.args.byte _ c.in-Ok-Some.departure _ _ _ c.in-Err-tell.fault at
    (c.in-Ok-Some.ensures.ok text at.course at.at at.judged) c.in-Ok-Some.field-0-is c.number.ensures c.in-Err-tell.ensures.err

pub returns-in-Err-clause-err : goal.returns-in-Err-clause-err
returns-in-Err-clause-err g c old text at tail =
    bad_byte_stops_log _ _ _ text tail c.args.byte _ c.in-Err.fault at (c.in-Err.ensures.err text at.course at.at tail)
