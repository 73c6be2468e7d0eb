use Rattle.std.proofs.Common.{rules, inr, refl}
use Rattle.dfu_host_c.proofs.Refused.{call_is_refused_by_first_fault}
use Rattle.dfu_host_c.proofs.dfuse.file.dfuse_read_file.Goals as goal

pub returns-in-Err : goal.returns-in-Err
returns-in-Err c = record { outcome = inr (call_is_refused_by_first_fault _ _ c.in-Err.is c.read.ensures.fault (search rules), refl) }
