use Rattle.std.proofs.lemmas.Result.{err_from_is_err_and}
use Rattle.dfu_link.proofs.scripting.source.LineReader.next.Goals as goal

pub returns-in_err-read_line-clause-fault : goal.returns-in_err-read_line-clause-fault
returns-in_err-read_line-clause-fault g c =
    let failed = err_from_is_err_and c.from_residual.result c.from_residual.ensures.1 in
    rw (failed.1, failed.2) (rw (← c.self.view_is) c.in_err-read_line.ensures.fault)
