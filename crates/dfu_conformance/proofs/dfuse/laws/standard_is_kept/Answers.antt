use Rattle.dfu_conformance.proofs.DfuseKept.{standard_run_is_dfuse_run}
use Rattle.dfu_conformance.proofs.dfuse.laws.standard_is_kept.Goals as goal

pub returns : goal.returns
returns c = standard_run_is_dfuse_run
