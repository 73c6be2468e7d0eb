use Rattle.dfuse_link.proofs.Rows.{histories_are_rows, session_ends_within_actions}
use Rattle.dfuse_link.proofs.laws.sessions_end_in_time.Goals as goal

pub returns-clause-rows : goal.returns-clause-rows
returns-clause-rows c = histories_are_rows

pub returns-clause-in_time : goal.returns-clause-in_time
returns-clause-in_time c = session_ends_within_actions c.sessions_end.ensures.in_time
