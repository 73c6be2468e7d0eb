-- Writes of a row as one list, and the slot store after them.
use Rattle.std.specs.Prelude.{◌≡◌, ◌⊎◌, ℕ, ◌+◌, ◌==◌, true, if◌then◌else◌, List, [], ◌∷◌, ◌++◌, length, take}
use Rattle.dfu_slots.specs.declared.fault.WriteFault.{WriteFault}
use Rattle.dfu_slots.specs.Medium.{MediumState, Write}
use Rattle.dfu_slots.specs.Writes.{put_writes, put_rest}
use Rattle.dfu_slots.specs.StoreView.{SlotsState, store_of, data_place, image_of, spare_of, room_of, Begin, Put, Commit, writes_of, AllWorked, BrokenBy, CallsEnd}
use Rattle.dfu_slots.specs.Image.{gate_of, active_at}
use Rattle.dfu_slots.specs.Store.{IsStore}
use Rattle.dfu_device.specs.Parts.{is_put}
use Rattle.dfu_device.specs.Rows.{block_calls}

-- Bytes that are held back before a block that follows n bytes: none before the first block.
abbrev pub held_before_block : SlotsState → ℕ → List ℕ
held_before_block s n = if n == 0 then [] else s.held

-- Writes of a block that follows n bytes. If n is 0, they begin with those that close the spare slot.
abbrev pub block_series : SlotsState → ℕ → List ℕ → List Write
block_series s n block =
    if n == 0 then writes_of s Begin ++ put_writes s.medium.grain (data_place s 0) [] block else writes_of s (Put n block)

-- Slot store after the writes of a block, on the medium that they leave.
abbrev pub block_store : SlotsState → ℕ → List ℕ → MediumState → SlotsState
block_store s n block m = store_of m (put_rest s.medium.grain.unit (held_before_block s n) block) (n + length block)

-- A block was written after n bytes: all calls of its row succeeded, and the n bytes and the block are put into the spare slot. The active
-- image, its offset and the room of a slot are unchanged.
pub record BlockWritten (s : SlotsState) (n : ℕ) (block : List ℕ) (now : SlotsState) : Type 0 where
  pub calls : CallsEnd s (block_calls (take n (spare_of s)) block) AllWorked now
  pub store : IsStore now
  pub image : image_of now ≡ image_of s
  pub place : active_at (gate_of now.medium) now.medium.bytes ≡ active_at (gate_of s.medium) s.medium.bytes
  pub room : room_of now ≡ room_of s
  pub put : is_put (n + length block) now ≡ true
  pub spare : take (n + length block) (spare_of now) ≡ take n (spare_of s) ++ block

-- A write of a block had this fault, which broke off the calls of the row. The active image, its offset and the room are unchanged.
pub record BlockBroken (fault : WriteFault) (s : SlotsState) (n : ℕ) (block : List ℕ) (now : SlotsState) : Type 0 where
  pub calls : CallsEnd s (block_calls (take n (spare_of s)) block) (BrokenBy fault) now
  pub store : IsStore now
  pub image : image_of now ≡ image_of s
  pub place : active_at (gate_of now.medium) now.medium.bytes ≡ active_at (gate_of s.medium) s.medium.bytes
  pub room : room_of now ≡ room_of s

-- The first n bytes of the spare slot became the active image; the room is unchanged.
pub record CommitCompleted (s : SlotsState) (n : ℕ) (now : SlotsState) : Type 0 where
  pub calls : CallsEnd s (Commit (length (take n (spare_of s))) ∷ []) AllWorked now
  pub store : IsStore now
  pub image : image_of now ≡ take n (spare_of s)
  pub room : room_of now ≡ room_of s

-- A write of the commit of the first n bytes had this fault. The old image is still active, or the n bytes are the active image. The room
-- is unchanged.
pub record CommitBroken (fault : WriteFault) (s : SlotsState) (n : ℕ) (now : SlotsState) : Type 0 where
  pub calls : CallsEnd s (Commit (length (take n (spare_of s))) ∷ []) (BrokenBy fault) now
  pub store : IsStore now
  pub image : (image_of now ≡ image_of s) ⊎ (image_of now ≡ take n (spare_of s))
  pub room : room_of now ≡ room_of s
