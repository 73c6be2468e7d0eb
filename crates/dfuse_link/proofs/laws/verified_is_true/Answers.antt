use Rattle.dfuse_link.proofs.Verified.{verified_is_true}
use Rattle.dfuse_link.proofs.laws.verified_is_true.Goals as goal

pub returns : goal.returns
returns c = verified_is_true c.verified_is_read_back.ensures.only c.verified_is_read_back.ensures.closes
