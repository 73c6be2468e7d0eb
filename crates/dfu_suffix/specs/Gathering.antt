-- Result of gathering the bytes of a reader.
use Rattle.std.specs.Prelude.{◌≡◌, ℕ, ◌<◌, ◌≤◌, List, length, Result, Ok, Err, ⊤, Vec}
use Rattle.std.specs.declared.alloc.Global.{Global}
use Rattle.dfu_suffix.specs.declared.gathering.GatherFault.{GatherFault}
use Rattle.dfu_suffix.specs.declared.gathering.GatherFault.TheVariants.{TooLarge, NoMemory, Read}

-- After `Ok`, all bytes of the reader are gathered and within the limit. After `TooLarge`, they exceed the limit. `Read` and `NoMemory` may
-- be returned for any bytes.
abbrev pub GatherResult : ℕ → List ℕ → Result (Vec ℕ Global) GatherFault → Type 0
GatherResult limit all (Ok v) = (v.items ≡ all) × (length all ≤ limit)
GatherResult limit all (Err TooLarge) = limit < length all
GatherResult limit all (Err NoMemory) = ⊤
GatherResult limit all (Err Read) = ⊤
