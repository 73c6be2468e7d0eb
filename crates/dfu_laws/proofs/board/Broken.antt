-- If the writes of a pending row are broken off, the row fails. The proof uses the laws of dfu_asks about writes.
use Rattle.std.proofs.Common.{◌≡◌, ◌⊎◌, true, IsTrue, ℕ, ◌+◌, ◌≤◌, List, [], length, take, Option, refl, sym, ap, subst, arith}
use Rattle.dfu_slots.specs.declared.fault.WriteFault.{WriteFault}
use Rattle.dfu_slots.specs.Units.{Grain}
use Rattle.dfu_slots.specs.Medium.{MediumState, Write, CountRose, BrokenWrites}
use Rattle.dfu_slots.specs.StoreView.{SlotsState, store_on, spare_of, room_of, is_shaped, Commit, writes_of}
use Rattle.dfu_slots.specs.Store.{IsStore}
use Rattle.dfu_device.specs.declared.answer.Answer.{Answer}
use Rattle.dfu_device.specs.declared.device_state.DeviceState.{DeviceState}
use Rattle.dfu_device.specs.declared.device_state.DeviceState.TheVariants as device_state
use Rattle.dfu_device.specs.Setting.{Setting}
use Rattle.dfu_device.specs.Parts.{view_of_parts, is_put, are_device_parts}
use Rattle.dfu_device.specs.Rows.{FailedBlock, FailedCommit}
use Rattle.dfu_device.specs.Table.{write_code, commit_code}
use Rattle.dfu_asks.specs.declared.pending_writes.SlotWrite.{SlotWrite}
use Rattle.dfu_asks.specs.Mapped.{mapped_medium}
use Rattle.dfu_asks.specs.Series.{block_series, BlockBroken, CommitBroken}
use Rattle.dfu_asks.specs.Jobs.{job_writes}
use Rattle.dfu_asks.specs.Due.{DueRowFails}
use Rattle.dfu_asks.specs.Asks.{IsBlockJob, IsCommitJob, IsDueJobOfMode, failed_mode, IsRowEndAnswer}
use Rattle.dfu_asks.proofs.Working.{NextBlockFits, IsAll, unwritten_block_may_be_written, due_commit_commits_all_puts, block_job_is_series, commit_job_is_series}

-- Clause `block_broken` of the law `writes_are_the_calls`: a call whose block is broken off by a fault fails with that fault.
abbrev pub BrokenBlockFailsCall : Type 0
BrokenBlockFailsCall = (fault : WriteFault) (s : SlotsState) (n : ℕ) (block : List ℕ) (now : MediumState) → IsStore s → is_shaped s ≡ true
    → (n ≡ 0) ⊎ (is_put n s ≡ true) → n + length block ≤ room_of s → BrokenWrites fault s.medium (block_series s n block) now
    → BlockBroken fault s n block (store_on now)

-- Clause `commit_broken` of the law `writes_are_the_calls`: a commit whose writes are broken off by a fault fails with that fault.
abbrev pub BrokenCommitFailsCall : Type 0
BrokenCommitFailsCall = (fault : WriteFault) (s : SlotsState) (n : ℕ) (now : MediumState) → IsStore s → is_shaped s ≡ true → is_put n s
    ≡ true
    → n ≤ room_of s → BrokenWrites fault s.medium (writes_of s (Commit n)) now → CommitBroken fault s n (store_on now)

module _ (blocks : BrokenBlockFailsCall) (commits : BrokenCommitFailsCall) (c : Setting) (w : Grain) (b held : List ℕ) (end : ℕ) (j :
    SlotWrite)
    (s : SlotsState)
    (m flash : List ℕ) (medium : s.medium ≡ mapped_medium w m) (store : IsStore s) (fault : WriteFault) where
  -- Store on the flash after the failure.
  abbrev left : SlotsState
  left = store_on (mapped_medium w flash)

  -- The write unit and the sectors of the store are those of the flash.
  grain : s.medium.grain ≡ w
  grain = ap (λ (x : MediumState). x.grain) medium

  -- The failure count rose, or already had its largest value.
  rose : CountRose s.medium.failures left.medium.failures
  rose = omega (arith, ap (λ (x : MediumState). x.failures) medium)

  -- If the writes of a job are broken off on the flash, any equal list of writes is broken off on the medium of the store.
  broken : (ws : List Write) → BrokenWrites fault (mapped_medium w m) (job_writes j w end held b) (mapped_medium w flash)
      → job_writes j w end held b ≡ ws → BrokenWrites fault s.medium ws (mapped_medium w flash)
  broken ws all same = subst (λ (x : MediumState). BrokenWrites fault x ws (mapped_medium w flash)) (sym medium)
      (subst (λ (x : List Write). BrokenWrites fault (mapped_medium w m) x (mapped_medium w flash)) same all)

  broken_block_fails_row : (n : ℕ) → NextBlockFits s n (length b) → IsBlockJob n s j end held
      → BrokenWrites fault (mapped_medium w m) (job_writes j w end held b) (mapped_medium w flash)
      → FailedBlock fault (take n (spare_of s)) b c s (view_of_parts c left (device_state.Error (write_code fault)) b) × IsStore left
  broken_block_fails_row n next is all =
      let got = blocks fault s n b (mapped_medium w flash) store next.shape next.before next.room
      (broken (block_series s n b) all (block_job_is_series s n j w end held b grain is)) in (
        record { config_is = refl; room = got.room; stage_is = refl; calls = got.calls; image = got.image; failed = rose },
        got.store,
      )

  broken_commit_fails_row : (n : ℕ) → IsAll s n → IsCommitJob n s j end held
      → BrokenWrites fault (mapped_medium w m) (job_writes j w end held b) (mapped_medium w flash)
      → FailedCommit fault (take n (spare_of s)) c s (view_of_parts c left (device_state.Error (commit_code fault)) b) × IsStore left
  broken_commit_fails_row n whole is all =
      let got = commits fault s n (mapped_medium w flash) store whole.shape whole.put whole.room
      (broken (writes_of s (Commit n)) all (commit_job_is_series s n j w end held b grain whole.put is)) in (
        record { config_is = refl; room = got.room; stage_is = refl; calls = got.calls; image = got.image; failed = rose },
        got.store,
      )

  -- If a write of the pending row has a fault, the row fails with that fault, and the store stays well-formed.
  pub fails : (d : DeviceState) (asked : Option ℕ) (len : ℕ) → IsTrue (are_device_parts d (length b) s) →
      IsDueJobOfMode d asked len s j end held
      → BrokenWrites fault (mapped_medium w m) (job_writes j w end held b) (mapped_medium w flash) → (a : Answer) (out : List ℕ)
      → IsRowEndAnswer c (failed_mode fault d) asked a out
      → DueRowFails fault len (view_of_parts c s d b) a out (view_of_parts c left (failed_mode fault d) b) × IsStore left
  fails (device_state.DownloadSync n number) asked len sound due all a out says =
      let got = broken_block_fails_row n (unwritten_block_may_be_written n (length b) s sound) due.1 all in
      (((subst (λ (x : Option ℕ). IsRowEndAnswer c (device_state.Error (write_code fault)) x a out) due.0 says).1 0 [] [] tt, got.0), got.1)
  fails (device_state.DownloadBusy n number passed) asked len sound due all a out says =
      let got = broken_block_fails_row n (unwritten_block_may_be_written n (length b) s sound) due.1 all in
      (((subst (λ (x : Option ℕ). IsRowEndAnswer c (device_state.Error (write_code fault)) x a out) due.0 says).1 0 [] [] tt, got.0), got.1)
  fails (device_state.ManifestSync n) asked len sound due all a out says =
      let got = broken_commit_fails_row n (due_commit_commits_all_puts n s sound) due.1 all in (
        ((subst (λ (x : Option ℕ). IsRowEndAnswer c (device_state.Error (commit_code fault)) x a out) due.0 says).1 0 [] [] tt, got.0),
        got.1,
      )
  fails (device_state.Manifest n passed) asked len sound due all a out says =
      let got = broken_commit_fails_row n (due_commit_commits_all_puts n s sound) due.1 all in (
        ((subst (λ (x : Option ℕ). IsRowEndAnswer c (device_state.Error (commit_code fault)) x a out) due.0 says).1 0 [] [] tt, got.0),
        got.1,
      )
  fails d asked len sound due all a out says = absurd due
