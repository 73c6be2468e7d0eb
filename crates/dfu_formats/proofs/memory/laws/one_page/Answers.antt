use Rattle.dfu_formats.proofs.OnePageLaw.{one_page}
use Rattle.dfu_formats.proofs.memory.laws.one_page.Goals as goal

pub returns : goal.returns
returns c = one_page
