use Rattle.dfuse_link.proofs.UntouchedTurns.{others_stay}
use Rattle.dfuse_link.proofs.laws.others_stay.Goals as goal

pub returns : goal.returns
returns c =
    others_stay c.verified_is_read_back.ensures.only c.verified_is_read_back.ensures.closes c.only_touched.ensures.always
    c.only_touched.ensures.only
