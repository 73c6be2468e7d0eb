-- Results of `begin`, `put` and `commit`: the store that each leaves after Ok and after each error.
use Rattle.std.specs.Prelude.{◌≡◌, ◌⊎◌, ◌↔◌, ℕ, ◌+◌, ◌≤◌, ◌<◌, Bool, true, false, List, ◌++◌, length, take, Result, OnOk, OnErr, IsErrOf}
use Rattle.dfu_slots.specs.declared.fault.PutFault.{PutFault}
use Rattle.dfu_slots.specs.declared.fault.PutFault.TheVariants.{TooLarge, NotBegun}
use Rattle.dfu_slots.specs.Medium.{Fuse, CountRose, written}
use Rattle.dfu_slots.specs.Image.{Active}
use Rattle.dfu_slots.specs.StoreView.{SlotsState, store_on, store_with_fuse, spare_slot, image_of, spare_of, is_begun, room_of, is_shaped}
use Rattle.dfu_slots.specs.StoreView.{StoreCall, Begin, Put, Commit, CallEnding}
use Rattle.dfu_slots.specs.Store.{IsStore}
use Rattle.dfu_slots.specs.Changes.{CallIsBroken, ending_of, CallChanges}

-- True if the spare's gate is as the call requires: `put` and `commit` require a closed gate, and `begin` accepts an open one too.
abbrev pub is_gate_ready : SlotsState → StoreCall → Bool
is_gate_ready s Begin = true
is_gate_ready s (Put at bytes) = is_begun s
is_gate_ready s (Commit len) = is_begun s

-- Offset in the spare's data at which the bytes of a call end: a `put` of 3 bytes at 5 ends at 8.
abbrev pub reached_end : StoreCall → ℕ
reached_end Begin = 0
reached_end (Put at bytes) = at + length bytes
reached_end (Commit len) = len

-- A call is refused exactly for these reasons. They are checked in this order: NotBegun, and then TooLarge.
pub record CallIsRefused {T : Type 0} (s : SlotsState) (kind : StoreCall) (result : Result T PutFault) : Type 0 where
  -- NotBegun is returned exactly if the spare's gate is not as the call requires.
  pub not_begun : IsErrOf result NotBegun ↔ (is_gate_ready s kind ≡ false)
  -- TooLarge is returned exactly if the gate is as the call requires, and the bytes of the call end beyond the capacity.
  pub too_large : IsErrOf result TooLarge ↔ ((is_gate_ready s kind ≡ true) × (room_of s < reached_end kind))

-- Facts about the result of a call, which hold for each of `begin`, `put` and `commit`.
pub record StoreCallResult {T : Type 0} (old : SlotsState) (kind : StoreCall) (result : Result T PutFault) (now : SlotsState) : Type 0 where
  pub refuses : CallIsRefused old kind result
  -- A call that is not refused made all its writes, or the fault that it returns interrupted them.
  pub call : is_gate_ready old kind ≡ true → reached_end kind ≤ room_of old → CallEnding old kind (ending_of result) now
  -- The result determines which writes were made; a refused call changes nothing.
  pub writes : CallChanges old kind result now
  -- Failed and NotVerified are returned only if the medium's count of failures rose or is at its maximum.
  pub rose : CallIsBroken result → CountRose old.medium.failures now.medium.failures
  -- After Failed and NotVerified no bytes are held back, and put_end is 0.
  pub failed : CallIsBroken result → now ≡ store_on now.medium
  -- The call leaves a store for which IsStore holds, and image_of this store is the active image.
  pub store : IsStore now
  pub active : Active now.medium (image_of now)
  pub shape : is_shaped now ≡ true
  pub room : room_of now ≡ room_of old

-- Facts about the store after `begin`.
pub record StoreBeginResult {T : Type 0} (old : SlotsState) (result : Result T PutFault) (now : SlotsState) : Type 0 where
  pub common : StoreCallResult old Begin result now
  -- `begin` returns no error except Failed and NotVerified.
  pub fault : OnErr result (CallIsBroken result)
  -- The active image stays.
  pub image : image_of now ≡ image_of old
  -- After any result of `begin` no bytes are held back, and put_end is 0.
  pub fresh : now ≡ store_on now.medium
  pub end : now.put_end ≡ 0
  -- After Ok the spare's gate is closed, and spare_of is the spare's data on the medium before the call.
  pub shut : OnOk result (is_begun now ≡ true)
  pub spare : OnOk result (spare_of now ≡ (spare_slot old).data_bytes)

-- Facts about the store after a `put` of `bytes` at offset `at`.
pub record StorePutResult {T : Type 0} (old : SlotsState) (at : ℕ) (bytes : List ℕ) (result : Result T PutFault)
    (now : SlotsState) : Type 0 where
  pub common : StoreCallResult old (Put at bytes) result now
  -- The active image stays.
  pub image : image_of now ≡ image_of old
  -- After Ok the spare's data begins with the bytes put before, followed by `bytes`, and put_end is the offset at which `bytes` end.
  pub front : OnOk result (take (at + length bytes) (spare_of now) ≡ take at (spare_of old) ++ bytes)
  -- On a medium without sectors the rest of the spare's data doesn't change.
  pub spare : OnOk result (old.medium.grain.sector ≡ 0 → spare_of now ≡ written (spare_of old) at bytes)
  pub end : OnOk result (now.put_end ≡ at + length bytes)
  -- A successful `put` doesn't change the spare's gate.
  pub gate : OnOk result ((spare_slot now).gate ≡ (spare_slot old).gate)
  pub shut : OnOk result (is_begun now ≡ is_begun old)

-- Facts about the store after a `commit` of the first `len` bytes.
pub record StoreCommitResult {T : Type 0} (old : SlotsState) (len : ℕ) (result : Result T PutFault) (now : SlotsState) : Type 0 where
  pub common : StoreCallResult old (Commit len) result now
  -- After Ok the first `len` bytes of the spare's data are the active image.
  pub image : OnOk result (image_of now ≡ take len (spare_of old))
  -- After any error the active image is the old one or the new one.
  pub kept : OnErr result ((image_of now ≡ image_of old) ⊎ (image_of now ≡ take len (spare_of old)))
  -- After Ok no bytes are held back, and put_end is 0.
  pub done : OnOk result (now ≡ store_on now.medium)

-- After `arm`, `arm_lie` or `disarm` the store differs from the old one only in the fuse of its medium.
pub record FuseResult (old : SlotsState) (fuse : Fuse) (now : SlotsState) : Type 0 where
  pub medium : now ≡ store_with_fuse old fuse
  pub store : IsStore now
  -- The active image, the spare's data and gate, and the capacity stay, because they don't depend on the fuse.
  pub image : image_of now ≡ image_of old
  pub spare : spare_of now ≡ spare_of old
  pub begun : is_begun now ≡ is_begun old
  pub room : room_of now ≡ room_of old
  pub shape : is_shaped now ≡ true
