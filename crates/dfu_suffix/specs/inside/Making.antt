-- Result of making a file in memory.
use Rattle.std.specs.Prelude.{◌≤◌, ◌<◌, ℕ, List, [], ◌++◌, length, Result, Ok, Err, ⊤, Vec}
use Rattle.std.specs.Int.{w32, to_le_bytes}
use Rattle.std.specs.declared.alloc.Global.{Global}
use Rattle.dfu_suffix.specs.Register.{register}
use Rattle.dfu_suffix.specs.Grammar.{fields_before_crc}
use Rattle.dfu_suffix.specs.Adding.{HasSuffix, CanGetSuffix, IsFileWithSuffix}
use Rattle.dfu_wire.specs.declared.ids.Ids.{Ids}
use Rattle.dfu_suffix.specs.declared.gathering.GatherFault.{GatherFault}
use Rattle.dfu_suffix.specs.declared.gathering.GatherFault.TheVariants as gather
use Rattle.dfu_suffix.specs.declared.fault.SuffixFault.{SuffixFault}
use Rattle.dfu_suffix.specs.declared.fault.SuffixFault.TheVariants.{AlreadySuffixed, TooLarge, NoMemory, Read}

-- Fields of an added suffix before dwCRC, with bcdDFU 0100h and no extra bytes.
unfoldable pub added_fields : Ids → List ℕ
added_fields ids = fields_before_crc ids 0x0100 []

-- The suffix of a payload: the fields, and the register over the payload and the fields.
abbrev pub added_suffix : List ℕ → Ids → List ℕ
added_suffix payload ids = added_fields ids ++ to_le_bytes w32 (register (payload ++ added_fields ids))

-- After `Ok`, a suffix could be added, and the file is in memory. `TooLarge` and `AlreadySuffixed` mean that no suffix could be added.
-- `Read` and `NoMemory` may be returned for any bytes, and no other fault is returned.
abbrev pub MakeResult : List ℕ → Ids → Result (Vec ℕ Global) SuffixFault → Type 0
MakeResult all ids (Ok v) = CanGetSuffix all × IsFileWithSuffix all ids v.items
MakeResult all ids (Err TooLarge) = 16777200 < length all
MakeResult all ids (Err AlreadySuffixed) = (length all ≤ 16777200) × HasSuffix all
MakeResult all ids (Err Read) = ⊤
MakeResult all ids (Err NoMemory) = ⊤
MakeResult all ids (Err fault) = ⊥

-- Fault of `add` for a fault of gathering, which has the same name.
abbrev pub gathering_fault : GatherFault → SuffixFault
gathering_fault gather.TooLarge = TooLarge
gathering_fault gather.NoMemory = NoMemory
gathering_fault gather.Read = Read
