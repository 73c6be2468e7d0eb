use Rattle.dfu_laws.proofs.link.BoardsAfterCopies.{operations_keep_image}
use Rattle.dfu_laws.proofs.laws.copies_change_no_image.Goals as goal

pub returns : goal.returns
returns c = operations_keep_image c.image_stays.ensures
