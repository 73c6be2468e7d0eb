use Rattle.dfuse_link.proofs.CleanSessions.{clean_runs_are_counted}
use Rattle.dfuse_link.proofs.CountsFound.{plans_have_counts}
use Rattle.dfuse_link.proofs.laws.clean_runs_are_counted.Goals as goal

pub returns-clause-exact : goal.returns-clause-exact
returns-clause-exact c = clean_runs_are_counted

pub returns-clause-counts : goal.returns-clause-counts
returns-clause-counts c = plans_have_counts c.one_page.ensures
