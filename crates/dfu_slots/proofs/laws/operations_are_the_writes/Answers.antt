use Rattle.dfu_slots.proofs.Sequences.{close_ops_make_writes, put_ops_make_writes, commit_ops_make_writes, image_ops_make_writes}
use Rattle.dfu_slots.proofs.laws.operations_are_the_writes.Goals as goal

pub returns-clause-close : goal.returns-clause-close
returns-clause-close c w held block head slot = close_ops_make_writes w held block head slot

pub returns-clause-put : goal.returns-clause-put
returns-clause-put c w held block head slot end = put_ops_make_writes w held block head slot end

pub returns-clause-commit : goal.returns-clause-commit
returns-clause-commit c w held block head slot end gen len crc few is = commit_ops_make_writes w held block head slot end gen len crc few is

pub returns-clause-image : goal.returns-clause-image
returns-clause-image c w image head from = image_ops_make_writes w image head from
