use Rattle.dfu_laws.proofs.in_c.FormatCalls.{ended_format_activates_image, broken_format_can_restart}
use Rattle.dfu_laws.proofs.laws.core_formats_make_an_image.Goals as goal

pub returns-clause-formatted : goal.returns-clause-formatted
returns-clause-formatted c = ended_format_activates_image

pub returns-clause-anew : goal.returns-clause-anew
returns-clause-anew c = broken_format_can_restart
