use Rattle.dfu_link.specs.inside.AcceptedImage.{candidate_bytes_of}
use Rattle.dfu_link.proofs.Checking.{byte_compared_at_place, no_front_past_end}
use Rattle.dfu_link.proofs.scripting.event_parts.has_byte.Goals as goal

pub returns-in-None : goal.returns-in-None
returns-in-None g c = no_front_past_end (candidate_bytes_of c.args.slots.now c.args.candidate) c.args.i c.args.byte c.in-None.ensures.none

pub returns-in-Some : goal.returns-in-Some
returns-in-Some g c =
    byte_compared_at_place (candidate_bytes_of c.args.slots.now c.args.candidate) c.args.i c.args.byte c.in-Some.found
    c.in-Some.ensures.some.0 c.in-Some.ensures.some.1
