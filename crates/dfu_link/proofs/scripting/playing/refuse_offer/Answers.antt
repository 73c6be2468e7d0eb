use Rattle.std.proofs.Common.{refl}
use Rattle.dfu_link.specs.LineContent.{Offer}
use Rattle.dfu_link.proofs.PlayLaws.{offer_in_session_is_printed}
use Rattle.dfu_link.proofs.StepLaws.{event_line_is_done}
use Rattle.dfu_link.proofs.scripting.playing.refuse_offer.Goals as goal

pub returns : goal.returns
returns g c = λ purpose file. event_line_is_done (Offer purpose file) refl refl
    (offer_in_session_is_printed c.args.context.now.check.now purpose file c.args.context.now.limits c.requires c.device.ensures.active
    c.say_next.ensures)
