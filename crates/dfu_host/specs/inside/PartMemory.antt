-- The memory of an upload after a part.
use Rattle.std.specs.Prelude.{◌≡◌, ℕ, Bool, IsTrue, List, ◌++◌, length}
use Rattle.dfu_host.specs.declared.phase.Phase.{Phase}
use Rattle.dfu_host.specs.declared.phase.Phase.TheVariants as phase
use Rattle.dfu_host.specs.declared.heard.Heard.{Heard}
use Rattle.dfu_host.specs.declared.heard.Heard.TheVariants as heard
use Rattle.dfu_host.specs.declared.task.Task.{Task}
use Rattle.dfu_host.specs.Goals.{IsFetch}
use Rattle.dfu_host.specs.Wire.{is_part_to_be_kept, NeedsRoom}
use Rattle.dfu_host.specs.InParts.{bytes_kept_for_part}

-- The part has the length `heard`. If it is to be kept, it was appended to the bytes kept before it.
pub record Joined (t k : ℕ) (memory part : List ℕ) (heard : ℕ) (memory' : List ℕ) : Type 0 where
  pub size : length part ≡ heard
  pub joins : IsTrue (is_part_to_be_kept t k heard) → memory' ≡ bytes_kept_for_part k memory ++ part

-- Kind of a result: a part with its length, a compared part, a part without memory, or no part.
pub data HeardPart : Type 0 where
  Came : (len : ℕ) → HeardPart
  HeardPartCompared : (same : Bool) (len : ℕ) → HeardPart
  HeardPartWithoutRoom : HeardPart
  HeardNoPart : HeardPart

abbrev pub part_heard : Heard → HeardPart
part_heard (heard.Part len) = Came len
part_heard (heard.Compared same len) = HeardPartCompared same len
part_heard heard.NoRoom = HeardPartWithoutRoom
part_heard heard.Acked = HeardNoPart
part_heard (heard.Told status) = HeardNoPart
part_heard (heard.StateIs state) = HeardNoPart
part_heard heard.Stalled = HeardNoPart
part_heard heard.Nothing = HeardNoPart
part_heard heard.Waited = HeardNoPart
part_heard heard.WasReset = HeardNoPart
part_heard heard.Restarted = HeardNoPart
part_heard heard.Left = HeardNoPart

-- The memory after a result for part k. A part that is to be kept was appended. After other results the memory may contain any bytes,
-- because no phase that can follow keeps any of them.
abbrev pub PartMemory : (t k : ℕ) → (memory : List ℕ) → (part : List ℕ) → Heard → (memory' : List ℕ) → Type 0
PartMemory t k memory part word memory' = elim (part_heard word) [
  | Came len ↦ Joined t k memory part len memory'
  | HeardPartCompared same len ↦ ⊥
  | HeardPartWithoutRoom ↦ Unit {0}
  | HeardNoPart ↦ Unit {0}
]

-- The memory after a result in a phase. It may change only in a phase that fetches a part, as `PartMemory` allows.
abbrev pub MemoryAfter : (t : ℕ) → (memory : List ℕ) → Phase → (part : List ℕ) → Heard → (memory' : List ℕ) → Type 0
MemoryAfter t memory (phase.Fetch k) part word memory' = PartMemory t k memory part word memory'
MemoryAfter t memory phase part word memory' = memory' ≡ memory

-- The host requested the part in a phase of an upload, and the part needs memory.
abbrev pub NeedsRoomIn : Task → Phase → (part : List ℕ) → Type 0
NeedsRoomIn t (phase.Fetch k) part = IsFetch t.goal × NeedsRoom t.transfer k (length part)
NeedsRoomIn t phase part = ⊥

-- The meaning NoRoom occurs only if the host requested the part in a phase of an upload, and the part needs memory.
abbrev pub NoRoomOnlyIfNeeded : Task → Phase → (part : List ℕ) → Heard → Type 0
NoRoomOnlyIfNeeded t phase part word = elim (part_heard word) [
  | Came len ↦ Unit {0}
  | HeardPartCompared same len ↦ Unit {0}
  | HeardPartWithoutRoom ↦ NeedsRoomIn t phase part
  | HeardNoPart ↦ Unit {0}
]
