-- Effect of a series of writes, by its result.
use Rattle.std.specs.Prelude.{List, Result, Ok, Err}
use Rattle.dfu_slots.specs.declared.fault.WriteFault.{WriteFault}
use Rattle.dfu_slots.specs.Medium.{MediumState, Write, AllWrites, BrokenWrites}

-- Effect of a series of writes: after Ok all of them worked; after a fault they worked up to the one that had the fault.
abbrev pub Series : {T : Type 0} → MediumState → List Write → Result T WriteFault → MediumState → Type 0
Series old writes (Ok _) now = AllWrites old writes now
Series old writes (Err fault) now = BrokenWrites fault old writes now
