-- State of a slot store, in the form that the contracts of its callers use.
use Rattle.std.specs.Prelude.{refl, ◌≡◌, ◌⊎◌, ℕ, ◌+◌, ◌-◌, ◌*◌, ◌^◌, ◌≤◌, Bool, not, ◌==◌, ◌&&◌, nat_le, List, [], ◌∷◌, ◌++◌, length, take}
use Rattle.dfu_suffix.specs.Register.{register}
use Rattle.dfu_slots.specs.declared.fault.WriteFault.{WriteFault}
use Rattle.dfu_slots.specs.Medium.{MediumState, Fuse, Write, CountRose, AllWrites, BrokenWrites, written}
use Rattle.dfu_slots.specs.Layout.{Slot, slot, OPEN, capacity, header_length}
use Rattle.dfu_slots.specs.Image.{gate_of, active_at, spare_at, spare}
use Rattle.dfu_slots.specs.Writes.{begin_writes, put_writes, put_rest, held_writes, commit_writes, format_writes}

-- State of a slot store: its medium, the bytes that are held back, and the number of bytes put since `begin`.
pub record SlotsState : Type 0 where
  pub medium : MediumState
  pub held : List ℕ
  pub put_end : ℕ

-- Store on the medium m that holds back `held` and whose puts end at `put_end`.
abbrev pub store_of : MediumState → List ℕ → ℕ → SlotsState
store_of m held put_end = record { medium = m; held = held; put_end = put_end }

-- Store on a medium after `open`: no bytes were put yet.
abbrev pub store_on : MediumState → SlotsState
store_on m = store_of m [] 0

-- Store that differs from s only in the fuse of its medium.
abbrev pub store_with_fuse : SlotsState → Fuse → SlotsState
store_with_fuse s fuse = record s { medium = record s.medium { fuse = fuse } }

-- Store after a power loss: the medium keeps its bytes and may have another fuse, and the bytes put are discarded.
abbrev pub store_restarted : SlotsState → Fuse → SlotsState
store_restarted s fuse = store_on (record s.medium { fuse = fuse })

-- Content of the active slot, if the medium has an active image.
abbrev pub active_slot : SlotsState → Slot
active_slot s = slot (gate_of s.medium) s.medium.bytes (active_at (gate_of s.medium) s.medium.bytes)

-- Content of the spare slot, if the medium has an active image.
abbrev pub spare_slot : SlotsState → Slot
spare_slot s = spare (gate_of s.medium) s.medium.bytes

-- Active image, if the medium has one.
unfoldable pub image_of : SlotsState → List ℕ
image_of s = take (header_length (active_slot s)) (active_slot s).data_bytes

-- Offset of the held bytes in the spare's data.
abbrev pub held_data_place : SlotsState → ℕ
held_data_place s = s.put_end - length s.held

-- Offset on the medium of byte `at` of the spare's data.
abbrev pub data_place : SlotsState → ℕ → ℕ
data_place s at = spare_at (gate_of s.medium) s.medium.bytes + 2 * gate_of s.medium + at

-- Data of the spare slot, with the held bytes written at their offset.
unfoldable pub spare_of : SlotsState → List ℕ
spare_of s = written (spare_slot s).data_bytes (held_data_place s) s.held

-- True if the spare's gate is closed: only then `put` and `commit` write.
unfoldable pub is_begun : SlotsState → Bool
is_begun s = not ((spare_slot s).gate == OPEN)

-- Largest number of bytes of an image: the capacity of the store's medium.
unfoldable pub room_of : SlotsState → ℕ
room_of s = capacity (gate_of s.medium) s.medium.bytes

-- True if the spare's data has as many bytes as the capacity, the capacity is at most 2^24, and the image is not longer than the capacity.
abbrev pub is_shaped : SlotsState → Bool
is_shaped s = (length (spare_of s) == room_of s) && (nat_le (room_of s) (2 ^ 24) && nat_le (length (image_of s)) (room_of s))

-- Calls that change a store. A `put` begins where the previous puts end.
pub data StoreCall : Type 0 where
  Begin : StoreCall
  Put : (at : ℕ) (bytes : List ℕ) → StoreCall
  Commit : (len : ℕ) → StoreCall

-- Writes of a call, in their order.
abbrev pub writes_of : SlotsState → StoreCall → List Write
writes_of s Begin = begin_writes s.medium.grain s.medium.bytes
writes_of s (Put at bytes) = put_writes s.medium.grain (data_place s (at - length s.held)) s.held bytes
writes_of s (Commit len) = held_writes s.medium.grain (data_place s (held_data_place s)) s.held ++ commit_writes
    s.medium.grain s.medium.bytes len (register (take len (spare_of s)))

-- Bytes that a store holds back after a call that returned Ok.
abbrev pub held_after_call : SlotsState → StoreCall → List ℕ
held_after_call s Begin = []
held_after_call s (Put at bytes) = put_rest s.medium.grain.unit s.held bytes
held_after_call s (Commit len) = []

-- Number of bytes put since `begin`, after a call that returned Ok.
abbrev pub put_end_after_call : StoreCall → ℕ
put_end_after_call Begin = 0
put_end_after_call (Put at bytes) = at + length bytes
put_end_after_call (Commit len) = 0

-- Writes of a `format` of a medium with an image, in their order.
abbrev pub format_series : MediumState → List ℕ → List Write
format_series m image = format_writes m.grain m.bytes image

-- A call worked: all its writes worked, and held and put_end have their values for Ok.
pub record CallWorked (old : SlotsState) (call : StoreCall) (now : SlotsState) : Type 0 where
  pub writes : AllWrites old.medium (writes_of old call) now.medium
  pub held_is : now.held ≡ held_after_call old call
  pub end_is : now.put_end ≡ put_end_after_call call

-- A call failed: it made its writes up to one that had this fault, no bytes are held back, and put_end is 0.
pub record CallFailed (fault : WriteFault) (old : SlotsState) (call : StoreCall) (now : SlotsState) : Type 0 where
  pub writes : BrokenWrites fault old.medium (writes_of old call) now.medium
  pub held_is : now.held ≡ []
  pub end_is : now.put_end ≡ 0

-- Ending of a call: all its writes worked, or one of them had a fault and no later write was made.
pub data Ending : Type 0 where
  AllWorked : Ending
  BrokenBy : WriteFault → Ending

-- A call has this ending: all its writes worked, or a fault interrupted them.
abbrev pub CallEnds : SlotsState → StoreCall → Ending → SlotsState → Type 0
CallEnds old call AllWorked now = CallWorked old call now
CallEnds old call (BrokenBy fault) now = CallFailed fault old call now

-- A call has this ending, and the count of failures did not fall. If a fault interrupted the call, the count rose or is at its maximum.
pub record CallEnding (s : SlotsState) (call : StoreCall) (ending : Ending) (now : SlotsState) : Type 0 where
  pub calls : CallEnds s call ending now
  pub count : s.medium.failures ≤ now.medium.failures
  pub rose : (fault : WriteFault) → ending ≡ BrokenBy fault → CountRose s.medium.failures now.medium.failures

-- A list of calls has this ending: all of them worked, or one was interrupted and no later call was made.
abbrev pub CallsEnd : SlotsState → List StoreCall → Ending → SlotsState → Type 0
CallsEnd old [] AllWorked now = now ≡ old
CallsEnd old [] (BrokenBy fault) now = ⊥
CallsEnd old (call ∷ calls) AllWorked now = (mid : SlotsState) × CallEnds old call AllWorked mid × CallsEnd mid calls AllWorked now
CallsEnd old (call ∷ calls) (BrokenBy fault) now = CallEnds old call (BrokenBy fault) now
    ⊎ ((mid : SlotsState) × CallEnds old call AllWorked mid × CallsEnd mid calls (BrokenBy fault) now)

-- Two stores show the same active image and have the same capacity, and is_begun is the same for both.
pub record LooksAlike (now old : SlotsState) : Type 0 where
  pub image : image_of now ≡ image_of old
  pub begun : is_begun now ≡ is_begun old
  pub room : room_of now ≡ room_of old

-- The image, the capacity and is_begun of a store don't depend on its fuse, its held bytes or its put_end.
pub fuse_changes_nothing_visible : (s : SlotsState) (fuse : Fuse) (held : List ℕ) (put_end : ℕ)
    → LooksAlike (store_of (record s.medium { fuse = fuse }) held put_end) s
unfolding image_of is_begun room_of
fuse_changes_nothing_visible s fuse held put_end = record { image = refl; begun = refl; room = refl }

-- The spare's data doesn't depend on the fuse.
pub spare_same_on_other_fuse : (s : SlotsState) (fuse : Fuse) → spare_of (store_with_fuse s fuse) ≡ spare_of s
unfolding spare_of
spare_same_on_other_fuse s fuse = refl
