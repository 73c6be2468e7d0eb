use Rattle.dfu_host.proofs.Rooms.{no_memory_exactly_on_overflow}
use Rattle.dfu_host.specs.CountingLaws.{kept_bytes_stay_counted}
use Rattle.dfu_host.proofs.laws.upload_counts_its_parts.Goals as goal

pub returns : goal.returns
returns c = record { counted = kept_bytes_stay_counted; full = no_memory_exactly_on_overflow }
