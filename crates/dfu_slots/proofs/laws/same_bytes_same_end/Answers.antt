use Rattle.dfu_slots.specs.Determined.{writes_work_or_break, same_writes_same_end, broken_writes_same_fault, broken_writes_same_end, same_calls_same_ending, same_calls_same_store}
use Rattle.dfu_slots.proofs.laws.same_bytes_same_end.Goals as goal

pub returns-clause-outcome : goal.returns-clause-outcome
returns-clause-outcome c calls e d a b x y same known first second = same_calls_same_ending calls e d a b x y same known first second

pub returns-clause-end : goal.returns-clause-end
returns-clause-end c calls e a b x y same known first second = same_calls_same_store calls e a b x y same known first second

pub returns-clause-writes : goal.returns-clause-writes
returns-clause-writes c writes a b x y same known all fault broken = writes_work_or_break fault writes a b x y same known all broken

pub returns-clause-written : goal.returns-clause-written
returns-clause-written c writes a b x y same first second = same_writes_same_end writes a b x y same first second

pub returns-clause-fault : goal.returns-clause-fault
returns-clause-fault c f g writes a b x y same known first second = broken_writes_same_fault f g writes a b x y same known first second

pub returns-clause-broken : goal.returns-clause-broken
returns-clause-broken c fault writes a b x y same known first second = broken_writes_same_end fault writes a b x y same known first second
