use Rattle.std.proofs.Common.{arith}
use Rattle.dfu_asks.specs.Steps.{step_writes}
use Rattle.dfu_asks.specs.Carried.{total}
use Rattle.dfu_asks.proofs.Bits.{piece_is_part_of_writes}
use Rattle.dfu_asks.proofs.SeriesBytes.{carried_series_is_all_writes, written_piece_carries_series, torn_piece_breaks_series}
use Rattle.dfu_asks.proofs.laws.pieces_are_the_writes.Goals as goal

pub returns-clause-all : goal.returns-clause-all
returns-clause-all c w ws m = carried_series_is_all_writes w ws m (total ws) (omega arith)

pub returns-clause-next : goal.returns-clause-next
returns-clause-next c ss m n p within piece = written_piece_carries_series (step_writes ss) m n p.write within (piece_is_part_of_writes ss
    n p piece)

pub returns-clause-torn : goal.returns-clause-torn
returns-clause-torn c w fault ss m now n p within piece torn =
    torn_piece_breaks_series w fault (step_writes ss) m now n p.write within (piece_is_part_of_writes ss n p piece) torn
