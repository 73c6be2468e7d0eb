use Rattle.dfu_places.proofs.InOrder.{bytes_lie_in_order}
use Rattle.dfu_places.proofs.laws.is_in_order.Goals as goal

pub returns : goal.returns
returns c = bytes_lie_in_order
