use Rattle.dfu_home.proofs.Units.{unit_buffer_is_padded}
use Rattle.dfu_home.proofs.bytes.fill_up.Goals as goal

pub returns : goal.returns
returns c = unit_buffer_is_padded c.args.front.now c.copy_from_slice.new.self c.copy_from_slice.ensures.after
