use Rattle.dfu_laws.proofs.in_c.FormatCounts.{format_operations_bounded}
use Rattle.dfu_laws.proofs.laws.core_formats_ask_few_times.Goals as goal

pub returns : goal.returns
returns c = format_operations_bounded
