-- Result of a row after its writes succeeded or had a fault.
use Rattle.std.proofs.Common.{◌≡◌, ◌⊎◌, inl, inr, ◌==◌, ◌&&◌, ◌||◌, not, nat_lt, nat_le, Bool, true, false, IsTrue, if◌then◌else◌, ℕ, ◌+◌, ◌-◌, ◌^◌, ◌≤◌, ◌<◌, List, [], ◌++◌, length, take, Option, refl, sym, ◌∙◌, ap, subst, arith}
use Rattle.std.proofs.lemmas.Grind.{common_steps}
use Rattle.std.proofs.lemmas.Bool.{cases_eq, ne_eqb, and_parts, eqb-true, false≢true}
use Rattle.dfu_suffix.specs.Register.{register}
use Rattle.dfu_slots.specs.declared.fault.WriteFault.{WriteFault}
use Rattle.dfu_slots.specs.Units.{Grain}
use Rattle.dfu_slots.specs.Medium.{MediumState, Write, CountRose, AllWrites, BrokenWrites}
use Rattle.dfu_slots.specs.Layout.{OPEN, next_generation, generation}
use Rattle.dfu_slots.specs.Image.{gate_of, spare_at, active_at}
use Rattle.dfu_slots.specs.Writes.{put_writes, put_rest, held_writes, open_writes}
use Rattle.dfu_slots.specs.StoreView.{SlotsState, store_of, store_on, data_place, spare_slot, active_slot, spare_of, is_begun, room_of, is_shaped, Begin, Put, Commit, writes_of}
use Rattle.dfu_slots.specs.Store.{IsStore}
use Rattle.dfu_slots.proofs.VisibleStores.{store_has_shape, room_is_capacity}
use Rattle.dfu_device.specs.declared.answer.Answer.{Answer}
use Rattle.dfu_device.specs.declared.answer.Answer.TheVariants as answer
use Rattle.dfu_device.specs.declared.device_state.DeviceState.{DeviceState}
use Rattle.dfu_device.specs.declared.device_state.DeviceState.TheVariants as device_state
use Rattle.dfu_device.specs.Setting.{Setting}
use Rattle.dfu_device.specs.Stage.{Stage, InDownloadIdle, InDownloadSyncWritten, InManifestSyncComplete, InManifestWaitReset, InDfuIdle}
use Rattle.dfu_device.specs.Parts.{view_of_parts, stage_of, is_put, are_device_parts}
use Rattle.dfu_device.specs.Rows.{WroteBlock, FailedBlock, Committed, FailedCommit}
use Rattle.dfu_device.specs.Table.{write_code, commit_code}
use Rattle.dfu_device.proofs.Commits.{written_mode_is_device_part}
use Rattle.dfu_asks.specs.declared.pending_writes.SlotWrite.{SlotWrite}
use Rattle.dfu_asks.specs.declared.pending_writes.SlotWrite.TheVariants as slot_write
use Rattle.dfu_asks.specs.Series.{block_series, block_store, BlockWritten, BlockBroken, CommitCompleted, CommitBroken}
use Rattle.dfu_asks.specs.Jobs.{held_bytes_place, job_writes}
use Rattle.dfu_asks.specs.Due.{DueRowWorks, DueRowFails}
use Rattle.dfu_asks.specs.Asks.{IsBlockJob, IsCommitJob, IsDueJobOfMode, capped_sum, is_block, done_mode, failed_mode, IsRowEndAnswer}
use Rattle.dfu_asks.proofs.Rows.{made_series_writes_block, fault_breaks_off_block, commit_series_completes, fault_breaks_off_commit}
use Rattle.dfu_device.specs.Decision.{HasTimeInputs}

-- A block of b bytes may be written after n bytes: it isn't empty, the n bytes and the block fit in the room, and n is 0 or exactly n bytes
-- were put into the slot.
pub record NextBlockFits (s : SlotsState) (n b : ℕ) : Type 0 where
  pub shape : is_shaped s ≡ true
  pub some : 0 < b
  pub room : n + b ≤ room_of s
  pub before : (n ≡ 0) ⊎ (is_put n s ≡ true)

first_or_put_before : (n : ℕ) (p : Bool) → ((n == 0) || p) ≡ true → (n ≡ 0) ⊎ (p ≡ true)
first_or_put_before n true e = inr refl
first_or_put_before n false e = inl (eqb-true _ _ (grind (arith, common_steps, e)))

-- If a device with n written bytes and an unwritten block of b bytes is valid, the block may be written after these n bytes.
pub unwritten_block_may_be_written : (n b : ℕ) (s : SlotsState) → IsTrue
    (is_shaped s && (nat_lt 0 b && (nat_le (n + b) (room_of s) && ((n == 0) || is_put n s))))
    → NextBlockFits s n b
unwritten_block_may_be_written n b s sound = record {
  shape = grind (arith, common_steps);
  some = grind (arith, common_steps);
  room = grind (arith, common_steps);
  before = first_or_put_before n (is_put n s) (grind (arith, common_steps));
}

-- Exactly n bytes were put into the slot, and they fit in the room, so a commit of n bytes commits all of them.
pub record IsAll (s : SlotsState) (n : ℕ) : Type 0 where
  pub shape : is_shaped s ≡ true
  pub room : n ≤ room_of s
  pub put : is_put n s ≡ true

-- If a device with a due commit of n bytes is valid, these n bytes are all bytes that were put into the slot.
pub due_commit_commits_all_puts : (n : ℕ) (s : SlotsState) → IsTrue (is_shaped s && (nat_lt 0 n && (nat_le n (room_of s) && is_put n s)))
    → IsAll s n
due_commit_commits_all_puts n s sound =
    record { shape = grind (arith, common_steps); room = grind (arith, common_steps); put = grind (arith, common_steps) }

-- The gate of the spare slot is open exactly if the store is not begun.
not_begun_is_open_gate : (s : SlotsState) → not (is_begun s) ≡ ((spare_slot s).gate == OPEN)
unfolding is_begun
not_begun_is_open_gate s = not_not ((spare_slot s).gate == OPEN)
  where
    not_not : (b : Bool) → not (not b) ≡ b
    not_not true = refl
    not_not false = refl

-- The writes of a block job are those that `block_series` lists.
pub block_job_is_series : (s : SlotsState) (n : ℕ) (j : SlotWrite) (u : Grain) (end : ℕ) (held block : List ℕ) → s.medium.grain ≡ u
    → IsBlockJob n s j end held → job_writes j u end held block ≡ block_series s n block
block_job_is_series s n j u end held block unit is =
    let g = gate_of s.medium in
    let spare = spare_at g s.medium.bytes in
    (λ i. job_writes (is.job_is i) (sym unit i) (is.end_is i) (is.held_is i) block)
    ∙ (elim (cases_eq n 0) [
      | inl none ↦
          let e : (n == 0) ≡ true = ap (λ (k : ℕ). k == 0) none in
          first e none
      | inr some ↦ further (ne_eqb n 0 some)
    ])
  where
    close_writes_by_tests : Bool → Bool → List Write
    close_writes_by_tests first close = job_writes (slot_write.Block (spare_at (gate_of s.medium) s.medium.bytes) (first && close))
        s.medium.grain n
        (if first then [] else s.held) block

    chosen : Bool → List Write
    chosen first = if first then writes_of s Begin ++ put_writes s.medium.grain (data_place s 0) [] block else writes_of s (Put n block)

    first : (n == 0) ≡ true → n ≡ 0 → close_writes_by_tests (n == 0) (not (is_begun s)) ≡ chosen (n == 0)
    first e none =
        (λ i. close_writes_by_tests (e i) (not_begun_is_open_gate s i))
        ∙ (λ i. writes_of s Begin
        ++ put_writes s.medium.grain (held_bytes_place s.medium.grain (spare_at (gate_of s.medium) s.medium.bytes) (none i) []) [] block)
        ∙ (λ i. chosen (sym e i))

    further : (n == 0) ≡ false → close_writes_by_tests (n == 0) (not (is_begun s)) ≡ chosen (n == 0)
    further e = (λ i. close_writes_by_tests (e i) (not (is_begun s))) ∙ (λ i. chosen (sym e i))

-- The writes of a commit job are those of the slot store's `Commit`.
pub commit_job_is_series : (s : SlotsState) (n : ℕ) (j : SlotWrite) (u : Grain) (end : ℕ) (held block : List ℕ) → s.medium.grain ≡ u
    → is_put n s ≡ true → IsCommitJob n s j end held → job_writes j u end held block ≡ writes_of s (Commit n)
commit_job_is_series s n j u end held block unit put is =
    let here : s.put_end ≡ n = eqb-true _ _ (and_parts (is_begun s) (s.put_end == n) put).1 in
    (λ i. job_writes (is.job_is i) (sym unit i) (is.end_is i) (is.held_is i) block)
    ∙ (λ i. held_writes s.medium.grain (data_place s (sym here i - length s.held)) s.held
    ++ open_writes s.medium.grain (spare_at (gate_of s.medium) s.medium.bytes) (next_generation (generation (active_slot s))) n
    (register (take n (spare_of s))))

-- Bytes held back after a row in this mode: the last ones, which don't fill a unit, or none after a commit.
abbrev pub held_after_row : Grain → DeviceState → List ℕ → List ℕ → List ℕ
held_after_row w m held b = if is_block m then put_rest w.unit held b else []

-- Number of bytes put into the spare slot after a row in this mode, including the row's block; 0 after a commit.
abbrev pub put_end_after_row : DeviceState → ℕ → List ℕ → ℕ
put_end_after_row m end b = if is_block m then capped_sum end (length b) else 0

-- A row has ended: its result `Comes` and the invariant `Stays` hold, and the store is valid and has the bytes that the mode needs.
pub record RowEnds (c : Setting) (s : SlotsState) (m : DeviceState) (b : List ℕ) (Stays Comes : Type 0) : Type 0 where
  pub comes : Comes
  pub store : IsStore s
  pub sound : IsTrue (are_device_parts m (length b) s)
  pub stays : Stays

-- The row of this mode leaves the active slot at its offset, unless it commits.
abbrev pub Stays : DeviceState → SlotsState → SlotsState → Type 0
Stays m s now = is_block m ≡ true → active_at (gate_of now.medium) now.medium.bytes ≡ active_at (gate_of s.medium) s.medium.bytes

-- Every valid slot store satisfies the check of a mode that needs no bytes.
pub idle_store_is_sound : (s : SlotsState) → IsStore s → IsTrue (is_shaped s && true)
idle_store_is_sound s store = both (is_shaped s) (store_has_shape store)
  where
    both : (p : Bool) → p ≡ true → IsTrue (p && true)
    both p e = grind (arith, common_steps)

module _ (c : Setting) (w : Grain) (b held : List ℕ) (end : ℕ) (j : SlotWrite) (len : ℕ) (s : SlotsState) (now : MediumState)
    (unit_is : s.medium.grain ≡ w) (store : IsStore s) where
  shape : is_shaped s ≡ true
  shape = store_has_shape store

  length_in_room_is_small : (n : ℕ) → n ≤ room_of s → n ≤ 2 ^ 24
  length_in_room_is_small n le = omega (arith, le, room_is_capacity s, store.has_image.active.sized.bound)

  -- Slot store on the medium after the row, with no bytes put or held back.
  abbrev store_without_puts : SlotsState
  store_without_puts = store_on now

  abbrev left : SlotsState
  left = store_of now (put_rest w.unit held b) (capped_sum end (length b))

  -- If all writes of a block job succeeded, `BlockWritten` holds, and n bytes and the block are put into the spare slot.
  worked_job_writes_block : (n : ℕ) → NextBlockFits s n (length b) → IsBlockJob n s j end held
      → AllWrites s.medium (job_writes j w end held b) now
      → (capped_sum end (length b) ≡ n + length b) × BlockWritten s n b left
  worked_job_writes_block n next job all =
      let cap : capped_sum end (length b) ≡ n + length b = omega (arith, job.end_is, length_in_room_is_small (n + length b) next.room) in
      let is : block_store s n b now ≡ left =
      (λ i. store_of now (put_rest (unit_is i).unit (sym job.held_is i) b) (sym cap i)) in (
        cap,
        subst (λ (x : SlotsState). BlockWritten s n b x) is
            (made_series_writes_block s store shape n b next.before next.room now
            (subst (λ (ws : List Write). AllWrites s.medium ws now) (block_job_is_series s n j w end held b unit_is job) all)),
      )

  -- If a write of a block job had a fault, `BlockBroken` holds.
  broken_job_breaks_block : (fault : WriteFault) (n : ℕ) → NextBlockFits s n (length b) → IsBlockJob n s j end held
      → BrokenWrites fault s.medium (job_writes j w end held b) now → BlockBroken fault s n b store_without_puts
  broken_job_breaks_block fault n next job all =
      fault_breaks_off_block s store shape n b next.before next.room now fault
      (subst (λ (ws : List Write). BrokenWrites fault s.medium ws now) (block_job_is_series s n j w end held b unit_is job) all)

  -- If all writes of a commit job succeeded, `CommitCompleted` holds.
  worked_job_completes_commit : (n : ℕ) → IsAll s n → IsCommitJob n s j end held
      → AllWrites s.medium (job_writes j w end held b) now → CommitCompleted s n store_without_puts
  worked_job_completes_commit n whole job all =
      commit_series_completes s store shape n whole.put whole.room now
      (subst (λ (ws : List Write). AllWrites s.medium ws now) (commit_job_is_series s n j w end held b unit_is whole.put job) all)

  -- If a write of a commit job had a fault, `CommitBroken` holds.
  broken_job_breaks_commit : (fault : WriteFault) (n : ℕ) → IsAll s n → IsCommitJob n s j end held
      → BrokenWrites fault s.medium (job_writes j w end held b) now → CommitBroken fault s n store_without_puts
  broken_job_breaks_commit fault n whole job all =
      fault_breaks_off_commit s store shape n whole.put whole.room now fault
      (subst (λ (ws : List Write). BrokenWrites fault s.medium ws now) (commit_job_is_series s n j w end held b unit_is whole.put job) all)

  -- The row of a written block ends in dfuDNLOAD-SYNC or dfuDNLOAD-IDLE, with the block added to the written bytes.
  block_ends_in_mode : (d to : DeviceState) (n number : ℕ) (stage : List ℕ → Stage) (Says : Type 0)
      → (to ≡ device_state.DownloadSyncWritten (capped_sum n (length b)) number)
      ⊎ (to ≡ device_state.DownloadIdle (capped_sum n (length b)) number)
      → ((spare : List ℕ) → stage_of to spare b ≡ stage (take (capped_sum n (length b)) spare)) → NextBlockFits s n (length b)
      → IsBlockJob n s j end held → AllWrites s.medium (job_writes j w end held b) now → Says
      → RowEnds c left to b (Stays d s left)
      (Says × WroteBlock (take n (spare_of s)) b c s (stage (take n (spare_of s) ++ b)) (view_of_parts c left to b))
  block_ends_in_mode d to n number stage Says either stage_is next job all says =
      let got = worked_job_writes_block n next job all in
      let cap : capped_sum n (length b) ≡ n + length b = omega (arith, got.0, job.end_is) in
      record {
        comes = (
          says,
          record {
            config_is = refl;
            room = got.1.room;
            stage_is = stage_is (spare_of left) ∙ ap stage (ap (λ (k : ℕ). take k (spare_of left)) cap ∙ got.1.spare);
            calls = got.1.calls;
            image = got.1.image;
          },
        );
        store = got.1.store;
        sound =
            written_mode_is_device_part to (length b) (capped_sum n (length b)) number left either (omega (arith, cap, next.some))
            (omega (arith, cap, next.room, got.1.room)) (store_has_shape {s = left} got.1.store)
            (subst (λ (k : ℕ). is_put k left ≡ true) (sym cap) got.1.put);
        stays = λ e. got.1.place;
      }

  commit_ends_in_mode : (d to : DeviceState) (n : ℕ) (stage : Stage) (Says : Type 0) → is_block d ≡ false
      → stage_of to (spare_of store_without_puts) b ≡ stage
      → (IsStore store_without_puts → IsTrue (are_device_parts to (length b) store_without_puts))
      → CommitCompleted s n store_without_puts → Says
      → RowEnds c store_without_puts to b (Stays d s store_without_puts)
      (Says × Committed (take n (spare_of s)) c s stage (view_of_parts c store_without_puts to b))
  commit_ends_in_mode d to n stage Says commits stage_is sound got says = record {
    comes = (says, record { config_is = refl; room = got.room; stage_is = stage_is; calls = got.calls; image = got.image });
    store = got.store;
    sound = sound got.store;
    stays = λ e. absurd (false≢true (sym commits ∙ e));
  }

  -- The due row ends as a successful row if all its writes succeeded.
  pub due_row_works : (d : DeviceState) (asked : Option ℕ) → IsTrue (are_device_parts d (length b) s) →
      IsDueJobOfMode d asked len s j end held
      → AllWrites s.medium (job_writes j w end held b) now → (a : Answer) (out : List ℕ)
      → IsRowEndAnswer c (done_mode c d (length b)) asked a out
      → RowEnds c (store_of now (held_after_row w d held b) (put_end_after_row d end b)) (done_mode c d (length b)) b
      (Stays d s (store_of now (held_after_row w d held b) (put_end_after_row d end b)))
      (DueRowWorks len (view_of_parts c s d b) a out
      (view_of_parts c (store_of now (held_after_row w d held b) (put_end_after_row d end b)) (done_mode c d (length b)) b))
  due_row_works (device_state.DownloadSync n number) asked sound due all a out says =
      block_ends_in_mode (device_state.DownloadSync n number) (device_state.DownloadIdle (capped_sum n (length b)) number) n number
      (λ taken. InDownloadIdle taken number) _ (inr refl) (λ spare. refl) (unwritten_block_may_be_written n (length b) s sound) due.1 all
      ((subst (λ (x : Option ℕ). IsRowEndAnswer c (device_state.DownloadIdle (capped_sum n (length b)) number) x a out) due.0 says).1 0 []
      [] tt)
  due_row_works (device_state.DownloadBusy n number passed) asked sound due all a out says =
      block_ends_in_mode (device_state.DownloadBusy n number passed) (device_state.DownloadSyncWritten (capped_sum n (length b)) number) n
      number
      (λ taken. InDownloadSyncWritten taken number) _ (inl refl) (λ spare. refl)
      (unwritten_block_may_be_written n (length b) s sound) due.1 all
      ((subst (λ (x : Option ℕ). IsRowEndAnswer c (device_state.DownloadSyncWritten (capped_sum n (length b)) number) x a out) due.0
      says).1 0 [] [] tt)
  due_row_works (device_state.ManifestSync n) asked sound due all a out says =
      commit_ends_in_mode (device_state.ManifestSync n) device_state.DfuIdle n InDfuIdle _ refl refl (idle_store_is_sound
      store_without_puts)
      (worked_job_completes_commit n (due_commit_commits_all_puts n s sound) due.1 all)
      ((subst (λ (x : Option ℕ). IsRowEndAnswer c device_state.DfuIdle x a out) due.0 says).1 0 [] [] tt)
  due_row_works (device_state.Manifest n passed) asked sound due all a out says =
      tolerant c.functional.tolerant (worked_job_completes_commit n (due_commit_commits_all_puts n s sound) due.1 all)
      (let said = subst (λ (x : Option ℕ). IsRowEndAnswer c (done_mode c (device_state.Manifest n passed) (length b)) x a out) due.0 says in
      said.1 0 [] [] (no_time c.functional.tolerant said.0))
    where
      mode_after_manifest : Bool → DeviceState
      mode_after_manifest t = if t then device_state.ManifestSyncComplete else device_state.ManifestWaitReset

      no_time : (t : Bool) (k : ℕ) → HasTimeInputs (mode_after_manifest t) k [] []
      no_time true k = tt
      no_time false k = tt

      stage_after_manifest : Bool → Stage
      stage_after_manifest t = if t then InManifestSyncComplete else InManifestWaitReset

      tolerant : (t : Bool) → CommitCompleted s n store_without_puts → (a ≡ answer.Ack) × (out ≡ [])
          → RowEnds c store_without_puts (mode_after_manifest t) b (Stays (device_state.Manifest n passed) s store_without_puts)
          (((a ≡ answer.Ack) × (out ≡ []))
          × Committed (take n (spare_of s)) c s (stage_after_manifest t) (view_of_parts c store_without_puts (mode_after_manifest t) b))
      tolerant true got says =
          commit_ends_in_mode (device_state.Manifest n passed) device_state.ManifestSyncComplete n InManifestSyncComplete _ refl refl
          (idle_store_is_sound store_without_puts) got says
      tolerant false got says =
          commit_ends_in_mode (device_state.Manifest n passed) device_state.ManifestWaitReset n InManifestWaitReset _ refl refl
          (idle_store_is_sound store_without_puts) got says
  due_row_works d asked sound due all a out says = absurd due

  -- After a fault in a write of a block, the row ends in dfuERROR with the code of the fault.
  block_fault_ends_in_error : (fault : WriteFault) (d : DeviceState) (n : ℕ) (Says : Type 0) → CountRose s.medium.failures now.failures →
      Says
      → BlockBroken fault s n b store_without_puts
      → RowEnds c store_without_puts (device_state.Error (write_code fault)) b (Stays d s store_without_puts)
      (Says × FailedBlock fault (take n (spare_of s)) b c s (view_of_parts c store_without_puts (device_state.Error (write_code fault)) b))
  block_fault_ends_in_error fault d n Says rose says got = record {
    comes = (says, record { config_is = refl; room = got.room; stage_is = refl; calls = got.calls; image = got.image; failed = rose });
    store = got.store;
    sound = idle_store_is_sound store_without_puts got.store;
    stays = λ e. got.place;
  }

  -- After a fault in a write of a commit, the row ends in dfuERROR with the code of the fault.
  commit_fault_ends_in_error : (fault : WriteFault) (d : DeviceState) (n : ℕ) (Says : Type 0) → CountRose s.medium.failures now.failures
      → is_block d ≡ false
      → Says
      → CommitBroken fault s n store_without_puts
      → RowEnds c store_without_puts (device_state.Error (commit_code fault)) b (Stays d s store_without_puts)
      (Says × FailedCommit fault (take n (spare_of s)) c s (view_of_parts c store_without_puts (device_state.Error (commit_code fault)) b))
  commit_fault_ends_in_error fault d n Says rose commits says got = record {
    comes = (says, record { config_is = refl; room = got.room; stage_is = refl; calls = got.calls; image = got.image; failed = rose });
    store = got.store;
    sound = idle_store_is_sound store_without_puts got.store;
    stays = λ e. absurd (false≢true (sym commits ∙ e));
  }

  -- The due row ends as a failed row if one of its writes had a fault.
  pub due_row_fails : (fault : WriteFault) (d : DeviceState) (asked : Option ℕ) → CountRose s.medium.failures now.failures
      → IsTrue (are_device_parts d (length b) s) → IsDueJobOfMode d asked len s j end held
      → BrokenWrites fault s.medium (job_writes j w end held b) now → (a : Answer) (out : List ℕ)
      → IsRowEndAnswer c (failed_mode fault d) asked a out
      → RowEnds c store_without_puts (failed_mode fault d) b (Stays d s store_without_puts)
      (DueRowFails fault len (view_of_parts c s d b) a out (view_of_parts c store_without_puts (failed_mode fault d) b))
  due_row_fails fault (device_state.DownloadSync n number) asked rose sound due all a out says =
      block_fault_ends_in_error fault (device_state.DownloadSync n number) n _ rose
      ((subst (λ (x : Option ℕ). IsRowEndAnswer c (device_state.Error (write_code fault)) x a out) due.0 says).1 0 [] [] tt)
      (broken_job_breaks_block fault n (unwritten_block_may_be_written n (length b) s sound) due.1 all)
  due_row_fails fault (device_state.DownloadBusy n number passed) asked rose sound due all a out says =
      block_fault_ends_in_error fault (device_state.DownloadBusy n number passed) n _ rose
      ((subst (λ (x : Option ℕ). IsRowEndAnswer c (device_state.Error (write_code fault)) x a out) due.0 says).1 0 [] [] tt)
      (broken_job_breaks_block fault n (unwritten_block_may_be_written n (length b) s sound) due.1 all)
  due_row_fails fault (device_state.ManifestSync n) asked rose sound due all a out says =
      commit_fault_ends_in_error fault (device_state.ManifestSync n) n _ rose refl
      ((subst (λ (x : Option ℕ). IsRowEndAnswer c (device_state.Error (commit_code fault)) x a out) due.0 says).1 0 [] [] tt)
      (broken_job_breaks_commit fault n (due_commit_commits_all_puts n s sound) due.1 all)
  due_row_fails fault (device_state.Manifest n passed) asked rose sound due all a out says =
      commit_fault_ends_in_error fault (device_state.Manifest n passed) n _ rose refl
      ((subst (λ (x : Option ℕ). IsRowEndAnswer c (device_state.Error (commit_code fault)) x a out) due.0 says).1 0 [] [] tt)
      (broken_job_breaks_commit fault n (due_commit_commits_all_puts n s sound) due.1 all)
  due_row_fails fault d asked rose sound due all a out says = absurd due
