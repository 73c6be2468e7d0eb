use Rattle.std.proofs.Common.{arith}
use Rattle.dfu_home.proofs.Units.{unit_buffer_begins_padded}
use Rattle.dfu_home.proofs.copying.unit_due.Goals as goal

pub returns-clause-bytes : goal.returns-clause-bytes
returns-clause-bytes g c =
    let size = c.gate_size-len.ensures in
    unit_buffer_begins_padded c.args.front.now c.fill_up.new.out c.gate_size-len.result c.fill_up.ensures (omega (
      arith,
      c.requires.few,
      size.least,
    )) size.at_most_256
