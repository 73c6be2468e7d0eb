use Rattle.std.proofs.Common.{rules, inl, inr, refl}
use Rattle.dfu_host_c.proofs.Refused.{call_is_refused_by_first_fault}
use Rattle.dfu_host_c.proofs.dfuse.file_image.dfuse_file_image.Goals as goal

pub returns-in-Err-clause-outcome : goal.returns-in-Err-clause-outcome
returns-in-Err-clause-outcome c = inr (inl (call_is_refused_by_first_fault _ _ c.in-Err.is c.read.ensures.fault (search rules), refl, refl))
