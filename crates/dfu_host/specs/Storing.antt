-- The caller's room after a session took a result.
use Rattle.std.specs.Prelude.{◌≡◌, ℕ, ◌+◌, nat_lt, ◌&&◌, not, Bool, true, false, List, ◌++◌, length, take, drop}
use Rattle.dfu_host.specs.declared.phase.Phase.{Phase}
use Rattle.dfu_host.specs.declared.phase.Phase.TheVariants as phase
use Rattle.dfu_host.specs.declared.seen.Seen.{Seen}
use Rattle.dfu_host.specs.declared.seen.Seen.TheVariants as seen
use Rattle.dfu_host.specs.InParts.{bytes_kept_for_part}
use Rattle.dfu_host.specs.Wire.{is_part_to_be_kept}

-- The part is stored in the room after the kept bytes, and is kept too. The bytes after the part are unchanged.
pub record PartIsStored (kept part room : List ℕ) (count' : ℕ) (room' : List ℕ) : Type 0 where
  pub count : count' ≡ length kept + length part
  pub front : take count' room' ≡ kept ++ part
  pub rest : drop count' room' ≡ drop count' room

-- The room and the number of its kept bytes are unchanged.
pub record RoomIsUnchanged (count : ℕ) (room : List ℕ) (count' : ℕ) (room' : List ℕ) : Type 0 where
  pub count_stays : count' ≡ count
  pub room_stays : room' ≡ room

-- If the test is true, the part is stored; else the room is unchanged.
abbrev pub PartStoredIf : Bool → (kept part : List ℕ) → (count : ℕ) → (room : List ℕ) → (count' : ℕ) → (room' : List ℕ) → Type 0
PartStoredIf true kept part count room count' room' = PartIsStored kept part room count' room'
PartStoredIf false kept part count room count' room' = RoomIsUnchanged count room count' room'

-- True if part k must be kept, and ends within a room of `room` bytes.
abbrev pub part_has_room : (room t k : ℕ) → (kept part : List ℕ) → Bool
part_has_room room t k kept part = is_part_to_be_kept t k (length part) && not (nat_lt room (length kept + length part))

-- If part k must be kept and ends within the room, its bytes are stored after the bytes kept in the room; else nothing changes.
abbrev pub StoresPart : (t k : ℕ) → (part : List ℕ) → (count : ℕ) → (room : List ℕ) → (count' : ℕ) → (room' : List ℕ) → Type 0
StoresPart t k part count room count' room' =
    PartStoredIf (part_has_room (length room) t k (bytes_kept_for_part k (take count room)) part)
    (bytes_kept_for_part k (take count room)) part count room count' room'

-- The bytes of an answer change the room only in a phase that fetches a part.
abbrev pub RoomAfterBytes : (t : ℕ) → Phase → (bytes : List ℕ) → (count : ℕ) → (room : List ℕ) → (count' : ℕ) → (room' : List ℕ) → Type 0
RoomAfterBytes t (phase.Fetch k) bytes count room count' room' = StoresPart t k bytes count room count' room'
RoomAfterBytes t other bytes count room count' room' = RoomIsUnchanged count room count' room'

-- A result changes the room only if it is a part that the host requested in this phase.
abbrev pub RoomAfterSeen : (t : ℕ) → Phase → Seen → (count : ℕ) → (room : List ℕ) → (count' : ℕ) → (room' : List ℕ) → Type 0
RoomAfterSeen t phase (seen.Bytes bytes) count room count' room' = RoomAfterBytes t phase bytes.now count room count' room'
RoomAfterSeen t phase seen.Ack count room count' room' = RoomIsUnchanged count room count' room'
RoomAfterSeen t phase seen.Stall count room count' room' = RoomIsUnchanged count room count' room'
RoomAfterSeen t phase seen.Nothing count room count' room' = RoomIsUnchanged count room count' room'
RoomAfterSeen t phase seen.Waited count room count' room' = RoomIsUnchanged count room count' room'
RoomAfterSeen t phase seen.WasReset count room count' room' = RoomIsUnchanged count room count' room'
RoomAfterSeen t phase seen.Restarted count room count' room' = RoomIsUnchanged count room count' room'
RoomAfterSeen t phase seen.Left count room count' room' = RoomIsUnchanged count room count' room'
