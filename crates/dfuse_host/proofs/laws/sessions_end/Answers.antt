use Rattle.dfuse_host.proofs.SpentActions.{session_over_within_actions, over_session_never_changes}
use Rattle.dfuse_host.proofs.laws.sessions_end.Goals as goal

pub returns : goal.returns
returns c = record { in_time = session_over_within_actions; stays = over_session_never_changes }
