use Rattle.dfu_suffix.proofs.AddLaws.{gathered_result_is_for_all, gathering_fault_is_make_result}
use Rattle.dfu_suffix.proofs.adding.file_of.Goals as goal

pub returns-in-Ok-clause-all : goal.returns-in-Ok-clause-all
returns-in-Ok-clause-all g c =
    gathered_result_is_for_all (g.R.Read.remaining c.args.reader) c.in-Ok.payload.items c.args.ids c.with_suffix.result c.in-Ok.ensures.all
    c.with_suffix.ensures.all

pub returns-in-Err-clause-all : goal.returns-in-Err-clause-all
returns-in-Err-clause-all g c =
    rw c.fault_of.ensures (gathering_fault_is_make_result (g.R.Read.remaining c.args.reader) c.args.ids c.in-Err.fault c.in-Err.ensures.all)
