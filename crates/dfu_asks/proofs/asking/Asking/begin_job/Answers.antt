use Rattle.std.proofs.Common.{◌≡◌, ◌==◌, ◌&&◌, true, IsTrue, ℕ, List, length, take, Option, refl, sym, subst}
use Rattle.std.proofs.lemmas.Bool.{and_parts, eqb-true}
use Rattle.dfu_slots.specs.StoreView.{SlotsState, is_begun}
use Rattle.dfu_device.specs.declared.device_state.DeviceState.{DeviceState}
use Rattle.dfu_device.specs.declared.device_state.DeviceState.TheVariants as device_state
use Rattle.dfu_device.specs.Parts.{stage_of, are_device_parts}
use Rattle.dfu_asks.specs.declared.pending_writes.SlotWrite.{SlotWrite}
use Rattle.dfu_asks.specs.Lent.{lent}
use Rattle.dfu_asks.specs.Due.{IsDueStage}
use Rattle.dfu_asks.specs.Asks.{flash_store, IsCommitJob, IsJobOfMode}
use Rattle.dfu_asks.proofs.Working.{unwritten_block_may_be_written, due_commit_commits_all_puts}
use Rattle.dfu_asks.proofs.asking.Asking.begin_job.Goals as goal

pub returns-in-DownloadSync-clause-due : goal.returns-in-DownloadSync-clause-due
returns-in-DownloadSync-clause-due c = λ block xs ys asked len is due.
    let l = lent c.args.self.now block c.args.held.now in
    let s = flash_store l c.args.medium.now.bytes.now in
    let n = c.in-DownloadSync.written in
    let sound = subst (λ (m : DeviceState). IsTrue (are_device_parts m (length l.block) s)) c.in-DownloadSync.is is.sound in
    subst (λ (m : DeviceState). IsJobOfMode m s c.block_job.result.0 c.block_job.result.2 (take c.block_job.result.1 c.args.held.now))
    (sym c.in-DownloadSync.is)
    (c.block_job.ensures.job block c.args.held.now is (unwritten_block_may_be_written n (length l.block) s sound).before)

pub returns-in-DownloadBusy-clause-due : goal.returns-in-DownloadBusy-clause-due
returns-in-DownloadBusy-clause-due c = λ block xs ys asked len is due.
    let l = lent c.args.self.now block c.args.held.now in
    let s = flash_store l c.args.medium.now.bytes.now in
    let n = c.in-DownloadBusy.written in
    let job = c.block_job-in-DownloadBusy in
    let sound = subst (λ (m : DeviceState). IsTrue (are_device_parts m (length l.block) s)) c.in-DownloadBusy.is is.sound in
    subst (λ (m : DeviceState). IsJobOfMode m s job.result.0 job.result.2 (take job.result.1 c.args.held.now))
    (sym c.in-DownloadBusy.is) (job.ensures.job block c.args.held.now is (unwritten_block_may_be_written n (length l.block) s sound).before)

-- If n bytes were put into the slot, the job that commits all of them is the job that commits n bytes.
all_puts_job_commits_n_bytes : (n : ℕ) (s : SlotsState) (j : SlotWrite) (held : List ℕ) → is_begun s && (s.put_end == n) ≡ true
    → IsCommitJob s.put_end s j s.put_end held → IsCommitJob n s j s.put_end held
all_puts_job_commits_n_bytes n s j held put is =
    subst (λ (k : ℕ). IsCommitJob k s j s.put_end held) (eqb-true _ _ (and_parts (is_begun s) (s.put_end == n) put).1) is

due_commit_job : (m : DeviceState) (b : ℕ) (xs ys : List ℕ) (asked : Option ℕ) (len : ℕ) (s : SlotsState) (j : SlotWrite) (held : List ℕ)
    → ((written number : ℕ) → m ≡ device_state.DownloadSync written number → ⊥)
    → ((written number passed : ℕ) → m ≡ device_state.DownloadBusy written number passed → ⊥)
    → IsTrue (are_device_parts m b s) → IsDueStage (stage_of m xs ys) asked len → IsCommitJob s.put_end s j s.put_end held
    → IsJobOfMode m s j s.put_end held
due_commit_job (device_state.DownloadSync n number) b xs ys asked len s j held sync busy sound due is = absurd (sync n number refl)
due_commit_job (device_state.DownloadBusy n number passed) b xs ys asked len s j held sync busy sound due is = absurd (busy n number passed
    refl)
due_commit_job (device_state.ManifestSync n) b xs ys asked len s j held sync busy sound due is =
    all_puts_job_commits_n_bytes n s j held (due_commit_commits_all_puts n s sound).put is
due_commit_job (device_state.Manifest n passed) b xs ys asked len s j held sync busy sound due is =
    all_puts_job_commits_n_bytes n s j held (due_commit_commits_all_puts n s sound).put is
due_commit_job m b xs ys asked len s j held sync busy sound due is = absurd due

pub returns-in_default : goal.returns-in_default
returns-in_default c = record {
  due = λ block xs ys asked len is due.
      let l = lent c.args.self.now block c.args.held.now in
      due_commit_job l.mode (length l.block) xs ys asked len (flash_store l c.args.medium.now.bytes.now) c.commit_job.result l.held
      c.in_default.not-DownloadSync c.in_default.not-DownloadBusy is.sound due (c.commit_job.ensures block is);
  at_most_256 = c.args.self.now.few;
}
