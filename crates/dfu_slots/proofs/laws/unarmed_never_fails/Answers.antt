use Rattle.dfu_slots.specs.Unarmed.{whole_fuse_fails_no_write, whole_fuse_after_writes, whole_fuse_fails_no_call, whole_fuse_after_calls}
use Rattle.dfu_slots.proofs.laws.unarmed_never_fails.Goals as goal

pub returns-clause-writes : goal.returns-clause-writes
returns-clause-writes c writes old now unarmed fault = whole_fuse_fails_no_write fault old now writes unarmed

pub returns-clause-writes_stay : goal.returns-clause-writes_stay
returns-clause-writes_stay c writes old now unarmed all = whole_fuse_after_writes old now writes unarmed all

pub returns-clause-calls : goal.returns-clause-calls
returns-clause-calls c calls old now unarmed fault = whole_fuse_fails_no_call fault old now calls unarmed

pub returns-clause-calls_stay : goal.returns-clause-calls_stay
returns-clause-calls_stay c calls old now unarmed all = whole_fuse_after_calls old now calls unarmed all
