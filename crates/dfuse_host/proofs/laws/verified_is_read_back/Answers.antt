use Rattle.dfuse_host.proofs.CloseLaws.{session_closes_after_compare}
use Rattle.dfuse_host.proofs.ReadBackLaws.{only_read_back}
use Rattle.dfuse_host.proofs.RunLaws.{verified_session_read_each_byte}
use Rattle.dfuse_host.proofs.laws.verified_is_read_back.Goals as goal

pub returns : goal.returns
returns c = record { only = only_read_back; closes = session_closes_after_compare; each = verified_session_read_each_byte }
