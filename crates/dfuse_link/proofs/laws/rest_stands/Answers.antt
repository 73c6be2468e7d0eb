use Rattle.dfuse_link.proofs.FrontLast.{rest_stands}
use Rattle.dfuse_link.proofs.laws.rest_stands.Goals as goal

pub returns : goal.returns
returns c = rest_stands c.verified_is_read_back.ensures.only c.verified_is_read_back.ensures.closes
