-- Lemmas about the call of the slot store that makes an image active.
use Rattle.std.proofs.Common.{◌≡◌, ◌⊎◌, ◌&&◌, inl, inr, true, IsTrue, ℕ, ◌+◌, ◌≤◌, ◌<◌, nat_le, nat_lt, List, [], ◌∷◌, length, take, refl, sym, subst, arith}
use Rattle.std.proofs.lemmas.Grind.{common_steps}
use Rattle.std.proofs.lemmas.List.{length-take-le}
use Rattle.dfu_slots.specs.declared.fault.WriteFault.{WriteFault}
use Rattle.dfu_slots.specs.StoreView.{SlotsState, image_of, spare_of, is_begun, room_of, is_shaped, Commit, Ending, AllWorked, BrokenBy, CallEnding, CallsEnd}
use Rattle.dfu_device.specs.Setting.{Setting}
use Rattle.dfu_device.specs.declared.device_state.DeviceState.{DeviceState}
use Rattle.dfu_device.specs.declared.device_state.DeviceState.TheVariants as device_state
use Rattle.dfu_device.specs.Parts.{view_of_parts, stage_of, is_put, is_filled, are_device_parts}
use Rattle.dfu_device.specs.Decision.{IsModeAfterCommit}
use Rattle.dfu_device.specs.Table.{commit_code}
use Rattle.dfu_device.specs.Rows.{Committed, FailedCommit}
use Rattle.dfu_device.proofs.Calls.{one_call_is_series}

-- A store is ready for a commit of n bytes: exactly n bytes were put into the closed spare slot, and n is at most the capacity.
pub record IsReadyToCommit (s : SlotsState) (n : ℕ) : Type 0 where
  pub begun : is_begun s ≡ true
  pub end : s.put_end ≡ n
  pub room : n ≤ room_of s
  pub spare : n ≤ length (spare_of s)

-- The store of a device satisfies is_shaped.
pub device_store_is_shaped : (m : DeviceState) (b : ℕ) (s : SlotsState) → IsTrue (are_device_parts m b s) → is_shaped s ≡ true
device_store_is_shaped m b s sound = grind (arith, common_steps)

-- If a store agrees with dfuMANIFEST-SYNC, the store is ready for a commit.
pub synced_store_is_ready_to_commit : (b n : ℕ) (s : SlotsState) → is_shaped s ≡ true →
    IsTrue (is_filled (device_state.ManifestSync n) b s) → IsReadyToCommit s n
synced_store_is_ready_to_commit b n s shape filled = record {
  begun = grind (arith, common_steps);
  end = grind (arith, common_steps);
  room = grind (arith, common_steps);
  spare = grind (arith, common_steps);
}

-- A commit of the accepted bytes and the list of this one call have the same ending.
commit_is_one_call : (s now : SlotsState) (n : ℕ) (ending : Ending) → n ≤ length (spare_of s) → CallEnding s (Commit n) ending now
    → CallsEnd s (Commit (length (take n (spare_of s))) ∷ []) ending now
commit_is_one_call s now n ending fits d =
    subst (λ (k : ℕ). CallsEnd s (Commit k ∷ []) ending now) (sym (length-take-le n (spare_of s) fits))
    (one_call_is_series s now (Commit n) ending d)

-- The stage of a mode after a commit doesn't depend on the spare slot.
stage_ignores_spare_slot : (m : DeviceState) → IsModeAfterCommit m → (xs ys : List ℕ)
    → stage_of m xs ys ≡ stage_of m [] []
stage_ignores_spare_slot m three xs ys = elim three [ inl e ↦ rw e refl | inr other ↦ elim other [ inl e ↦ rw e refl | inr e ↦ rw e refl ] ]

-- A mode after a commit requires only is_shaped of the store.
shape_suffices_for_empty_mode : (s : SlotsState) → is_shaped s ≡ true → IsTrue (is_shaped s && true)
shape_suffices_for_empty_mode s shape = grind (arith, common_steps)

-- A mode after a commit and any store that satisfies is_shaped are parts of a device.
pub empty_mode_is_device_part : (m : DeviceState) (b : ℕ) (s : SlotsState) → IsModeAfterCommit m
    → is_shaped s ≡ true → IsTrue (are_device_parts m b s)
empty_mode_is_device_part m b s three shape =
    let sound : IsTrue (is_shaped s && true) = shape_suffices_for_empty_mode s shape in
    elim three [
      | inl e ↦ subst (λ (k : DeviceState). IsTrue (are_device_parts k b s))
          (sym e) sound
      | inr other ↦ elim other [
        | inl e ↦ subst (λ (k : DeviceState). IsTrue (are_device_parts k b s)) (sym e) sound
        | inr e ↦ subst
            (λ (k : DeviceState). IsTrue (are_device_parts k b s)) (sym e) sound
      ]
    ]

-- If n bytes were put, at least one and not more than the capacity, the store agrees with a mode with n written bytes.
put_bytes_suffice_for_mode : (n : ℕ) (s : SlotsState) → 0 < n → n ≤ room_of s → is_shaped s ≡ true → is_put n s ≡ true
    → IsTrue (is_shaped s && (nat_lt 0 n && (nat_le n (room_of s) && is_put n s)))
put_bytes_suffice_for_mode n s some room shape put = grind (arith, common_steps)

-- After a block was put, the store and the mode with its bytes are parts of a device.
pub written_mode_is_device_part : (m : DeviceState) (b n number : ℕ) (s : SlotsState) → (m ≡ device_state.DownloadSyncWritten n number)
    ⊎ (m ≡ device_state.DownloadIdle n number) → 0 < n → n ≤ room_of s → is_shaped s ≡ true → is_put n s ≡ true
    → IsTrue (are_device_parts m b s)
written_mode_is_device_part m b n number s either some room shape put =
    let sound : IsTrue (is_shaped s && (nat_lt 0 n && (nat_le n (room_of s) && is_put n s))) =
    put_bytes_suffice_for_mode n s some room shape
    put in
    elim either [
      | inl e ↦ subst (λ (k : DeviceState). IsTrue (are_device_parts k b s)) (sym e) sound
      | inr e ↦ subst
          (λ (k : DeviceState). IsTrue (are_device_parts k b s)) (sym e) sound
    ]

-- An unwritten block of b bytes is not empty, and fits after the n bytes that are written.
pub record HasRoomForBlock (s : SlotsState) (n b : ℕ) : Type 0 where
  pub some : 0 < b
  pub room : n + b ≤ room_of s

-- A block that the device is about to write fits into the store.
pub block_room : (n b number : ℕ) (s : SlotsState) → IsTrue (is_filled (device_state.DownloadSync n number) b s) → HasRoomForBlock s n b
block_room n b number s filled = record { some = grind (arith, common_steps); room = grind (arith, common_steps) }

-- A commit that worked has the effects that the table requires: the accepted bytes are the image.
pub worked_commit_fits_table : (config : Setting) (s now : SlotsState) (next : DeviceState) (block : List ℕ) (n : ℕ) → IsReadyToCommit s n
    → CallEnding s (Commit n) AllWorked now → image_of now ≡ take n (spare_of s) → room_of now ≡ room_of s
    → IsModeAfterCommit next
    → Committed (take n (spare_of s)) config s (stage_of next [] []) (view_of_parts config now next block)
worked_commit_fits_table config s now next block n ready d image room three = record {
  config_is = refl;
  room = room;
  stage_is = stage_ignores_spare_slot next three (spare_of now) block;
  calls = commit_is_one_call s now n AllWorked ready.spare d;
  image = image;
}

-- A commit that failed has the effects that the table requires: the image is the old one or the accepted bytes.
pub commit_fault_fits_table : (fault : WriteFault) (config : Setting) (s now : SlotsState) (block : List ℕ) (n : ℕ) →
    IsReadyToCommit s n
    → CallEnding s (Commit n) (BrokenBy fault) now
    → (image_of now ≡ image_of s) ⊎ (image_of now ≡ take n (spare_of s)) → room_of now ≡ room_of s
    → FailedCommit fault (take n (spare_of s)) config s (view_of_parts config now (device_state.Error (commit_code fault)) block)
commit_fault_fits_table fault config s now block n ready d image room = record {
  config_is = refl;
  room = room;
  stage_is = refl;
  calls = commit_is_one_call s now n (BrokenBy fault) ready.spare d;
  image = image;
  failed = d.rose fault refl;
}
