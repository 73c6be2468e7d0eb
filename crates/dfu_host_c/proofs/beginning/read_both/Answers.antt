use Rattle.std.proofs.Common.{rules, inl}
use Rattle.dfu_host_c.proofs.Refused.{call_is_refused_by_first_fault}
use Rattle.dfu_host_c.proofs.beginning.read_both.Goals as goal

pub returns-in-Err-clause-err : goal.returns-in-Err-clause-err
returns-in-Err-clause-err c = inl (call_is_refused_by_first_fault _ _ c.in-Err.is c.file_in.ensures.fault (search rules))
