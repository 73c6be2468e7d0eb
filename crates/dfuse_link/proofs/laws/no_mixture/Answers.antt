use Rattle.dfuse_link.proofs.NoMixtures.{no_mixture, none_but_erasing}
use Rattle.dfuse_link.proofs.laws.no_mixture.Goals as goal

pub returns-clause-always : goal.returns-clause-always
returns-clause-always c =
    no_mixture c.one_page.ensures c.verified_is_read_back.ensures.only c.verified_is_read_back.ensures.closes c.only_touched.ensures.always

pub returns-clause-but_erasing : goal.returns-clause-but_erasing
returns-clause-but_erasing c =
    none_but_erasing c.one_page.ensures c.verified_is_read_back.ensures.only c.verified_is_read_back.ensures.closes
    c.only_touched.ensures.always
