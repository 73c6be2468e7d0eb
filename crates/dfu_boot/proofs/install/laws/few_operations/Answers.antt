use Rattle.dfu_boot.proofs.OperationCounts.{few_operations}
use Rattle.dfu_boot.proofs.install.laws.few_operations.Goals as goal

pub returns : goal.returns
returns c = few_operations
