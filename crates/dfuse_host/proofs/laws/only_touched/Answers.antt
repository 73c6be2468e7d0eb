use Rattle.dfuse_host.proofs.TouchedSessions.{session_touches_image_always, only_touched, front_written_after_rest_read}
use Rattle.dfuse_host.proofs.laws.only_touched.Goals as goal

pub returns : goal.returns
returns c = record { always = session_touches_image_always; only = only_touched; front_last = front_written_after_rest_read }
