-- The unseen state of a medium (its failures, fuse and tag) doesn't affect what a slot store contains.
use Rattle.std.proofs.Common.{◌≡◌, ◌==◌, ◌&&◌, ◌||◌, not, nat_le, nat_lt, ◌+◌, ◌^◌, ◌-◌, Bool, IsTrue, ℕ, List, [], length, take, Option, refl, sym, ◌∙◌, subst}
use Rattle.dfu_suffix.specs.Register.{register}
use Rattle.dfu_slots.specs.Layout.{generation, next_generation}
use Rattle.dfu_slots.specs.Medium.Fuse.{Unknown}
use Rattle.dfu_slots.specs.Image.{gate_of, spare_at}
use Rattle.dfu_slots.specs.StoreView.{SlotsState, active_slot, image_of, spare_of, is_begun, room_of, is_shaped}
use Rattle.dfu_slots.specs.Store.{IsStore}
use Rattle.dfu_device.specs.declared.device_state.DeviceState.{DeviceState}
use Rattle.dfu_device.specs.declared.device_state.DeviceState.TheVariants as device_state
use Rattle.dfu_device.specs.Parts.{is_filled, are_device_parts}
use Rattle.dfu_asks.specs.declared.pending_writes.SlotWrite.{SlotWrite}
use Rattle.dfu_asks.specs.declared.pending_writes.SlotWrite.TheVariants as slot_write
use Rattle.dfu_asks.specs.Mapped.{UnseenState}
use Rattle.dfu_asks.specs.Asks.{store_with_unseen, IsBlockJob, IsCommitJob, IsDueJobOfMode}

-- Unseen state of the medium that `mapped_medium` gives.
abbrev pub unseen_of_mapped : UnseenState
unseen_of_mapped = record { failures = 2 ^ 64 - 1; fuse = Unknown; tag = [] }

module _ (u : UnseenState) (s : SlotsState) where
  -- The active image doesn't depend on the unseen state.
  pub image_ignores_unseen : image_of (store_with_unseen u s) ≡ image_of s
  unfolding image_of
  image_ignores_unseen = refl

  -- The data of the spare slot doesn't depend on the unseen state.
  pub spare_ignores_unseen : spare_of (store_with_unseen u s) ≡ spare_of s
  unfolding spare_of
  spare_ignores_unseen = refl

  -- The room of a store doesn't depend on the unseen state.
  pub room_with_unseen : room_of (store_with_unseen u s) ≡ room_of s
  unfolding room_of
  room_with_unseen = refl

  -- The gate of the spare slot doesn't depend on the unseen state.
  begun_ignores_unseen : is_begun (store_with_unseen u s) ≡ is_begun s
  unfolding is_begun
  begun_ignores_unseen = refl

  -- The shape of a store doesn't depend on the unseen state.
  shape_ignores_unseen : is_shaped (store_with_unseen u s) ≡ is_shaped s
  shape_ignores_unseen = λ i. (length (spare_ignores_unseen i) == room_with_unseen i)
      && (nat_le (room_with_unseen i) (2 ^ 24) && nat_le (length (image_ignores_unseen i)) (room_with_unseen i))

  -- The bytes that a mode needs in a store don't depend on the unseen state.
  filled_with_unseen : (m : DeviceState) (n : ℕ) → is_filled m n (store_with_unseen u s) ≡ is_filled m n s
  filled_with_unseen (device_state.DownloadSync k number) n =
      λ i. nat_lt 0 n && (nat_le (k + n) (room_with_unseen i) && ((k == 0) || (begun_ignores_unseen i && (s.put_end == k))))
  filled_with_unseen (device_state.DownloadBusy k number passed) n =
      λ i. nat_lt 0 n && (nat_le (k + n) (room_with_unseen i) && ((k == 0) || (begun_ignores_unseen i && (s.put_end == k))))
  filled_with_unseen (device_state.DownloadSyncWritten k number) n =
      λ i. nat_lt 0 k && (nat_le k (room_with_unseen i) && (begun_ignores_unseen i && (s.put_end == k)))
  filled_with_unseen (device_state.DownloadIdle k number) n =
      λ i. nat_lt 0 k && (nat_le k (room_with_unseen i) && (begun_ignores_unseen i && (s.put_end == k)))
  filled_with_unseen (device_state.ManifestSync k) n = λ i. nat_lt 0 k && (nat_le k (room_with_unseen i) && (begun_ignores_unseen i &&
      (s.put_end == k)))
  filled_with_unseen (device_state.Manifest k passed) n = λ i. nat_lt 0 k && (nat_le k (room_with_unseen i) && (begun_ignores_unseen i &&
      (s.put_end == k)))
  filled_with_unseen m n = refl

  -- The check of a device's parts doesn't depend on the unseen state.
  parts_ignore_unseen : (m : DeviceState) (n : ℕ) → are_device_parts m n (store_with_unseen u s) ≡ are_device_parts m n s
  parts_ignore_unseen m n = λ i. shape_ignores_unseen i && filled_with_unseen m n i

  -- If the check of a device's parts succeeds, it also succeeds with any unseen state.
  pub parts_stay_with_unseen : (m : DeviceState) (n : ℕ) → IsTrue (are_device_parts m n s) →
      IsTrue (are_device_parts m n (store_with_unseen u s))
  parts_stay_with_unseen m n sound = subst (λ (b : Bool). IsTrue b) (sym (parts_ignore_unseen m n)) sound

  -- A valid slot store remains valid with any unseen state.
  pub store_stays_with_unseen : IsStore s → IsStore (store_with_unseen u s)
  store_stays_with_unseen store =
      let active = store.has_image.active in
      record {
        has_image = record {
          image = store.has_image.image;
          active = record {
            sized = record { even = active.sized.even; room = active.sized.room; bound = active.sized.bound; whole = active.sized.whole };
            at = active.at;
            spare = active.spare;
            places = active.places;
            newest = active.newest;
            header_is = active.header_is;
            image_is = active.image_is;
          };
        };
        puts = record { fits = store.puts.fits; part = store.puts.part; ahead = store.puts.ahead };
      }

  -- The job of a block doesn't depend on the unseen state.
  block_job_ignores_unseen : (n : ℕ) (j : SlotWrite) (end : ℕ) (held : List ℕ) → IsBlockJob n s j end held
      → IsBlockJob n (store_with_unseen u s) j end held
  block_job_ignores_unseen n j end held is = record {
    job_is = is.job_is
        ∙ (λ i. slot_write.Block (spare_at (gate_of s.medium) s.medium.bytes) ((n == 0) && not (sym begun_ignores_unseen i)));
    end_is = is.end_is;
    held_is = is.held_is;
  }

  -- The job of a commit doesn't depend on the unseen state.
  commit_job_ignores_unseen : (n : ℕ) (j : SlotWrite) (end : ℕ) (held : List ℕ) → IsCommitJob n s j end held
      → IsCommitJob n (store_with_unseen u s) j end held
  commit_job_ignores_unseen n j end held is = record {
    job_is = is.job_is
        ∙ (λ i. slot_write.Commit (spare_at (gate_of s.medium) s.medium.bytes) (next_generation (generation (active_slot s)))
        (register (take n (sym spare_ignores_unseen i))));
    end_is = is.end_is;
    held_is = is.held_is;
  }

  -- The due job doesn't depend on the unseen state.
  pub due_job_with_unseen : (m : DeviceState) (asked : Option ℕ) (len : ℕ) (j : SlotWrite) (end : ℕ) (held : List ℕ)
      → IsDueJobOfMode m asked len s j end held → IsDueJobOfMode m asked len (store_with_unseen u s) j end held
  due_job_with_unseen (device_state.DownloadSync n number) asked len j end held due = (due.0, block_job_ignores_unseen n j end held due.1)
  due_job_with_unseen (device_state.DownloadBusy n number passed) asked len j end held due = (
    due.0,
    block_job_ignores_unseen n j end held
        due.1,
  )
  due_job_with_unseen (device_state.ManifestSync n) asked len j end held due = (due.0, commit_job_ignores_unseen n j end held due.1)
  due_job_with_unseen (device_state.Manifest n passed) asked len j end held due = (due.0, commit_job_ignores_unseen n j end held due.1)
  due_job_with_unseen m asked len j end held due = absurd due
