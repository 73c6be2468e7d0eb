use Rattle.dfu_suffix.proofs.SmallTable.{small_table_shifts_four_bits}
use Rattle.dfu_suffix.proofs.small.after_4_zeros.Goals as goal

pub returns : goal.returns
returns c = small_table_shifts_four_bits c.args.number
