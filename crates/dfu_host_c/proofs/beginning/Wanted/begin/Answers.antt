use Rattle.dfu_host_c.proofs.beginning.Wanted.begin.Goals as goal

pub returns-then-compares-clause-refused : goal.returns-then-compares-clause-refused
returns-then-compares-clause-refused c = rw c.if-compares.true c.download_verified.ensures.refused

pub returns-else-compares-clause-refused : goal.returns-else-compares-clause-refused
returns-else-compares-clause-refused c = rw c.if-compares.false c.download.ensures.refused
