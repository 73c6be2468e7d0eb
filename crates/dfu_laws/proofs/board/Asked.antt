-- A board requests a bounded number of writes, because each report leaves one fewer piece of its write steps.
use Rattle.std.specs.Prelude.{◌≡◌, ◌==◌, nat_lt, nat_le, not, ◌&&◌, ℕ, ◌+◌, ◌%◌, ◌≤◌, ◌<◌, Bool, true, false, IsTrue, List, [], length, take, Option, if◌then◌else◌}
use Rattle.std.proofs.Common.{sym, ap, ◌∙◌, subst, arith}
use Rattle.std.proofs.Math.Nat.{mod-lt}
use Rattle.std.proofs.lemmas.Grind.{common_steps}
use Rattle.std.proofs.lemmas.Bool.{eqb-true, and_parts}
use Rattle.std.proofs.lemmas.List.{length-take}
use Rattle.dfu_slots.specs.declared.layout.Unit.{Unit as WriteUnit}
use Rattle.dfu_slots.specs.Units.{Grain, unit_size}
use Rattle.dfu_slots.specs.Medium.{MediumState}
use Rattle.dfu_slots.specs.Image.{gate_of, spare_at}
use Rattle.dfu_slots.specs.StoreView.{SlotsState, spare_of, is_begun, is_shaped, room_of}
use Rattle.dfu_slots.specs.Store.{IsStore}
use Rattle.dfu_device.specs.declared.device_state.DeviceState.{DeviceState}
use Rattle.dfu_device.specs.declared.device_state.DeviceState.TheVariants as device_state
use Rattle.dfu_device.specs.Stage.{Stage, InDownloadSync, InDownloadBusy, InManifestSync, InManifest}
use Rattle.dfu_device.specs.Parts.{stage_of, are_device_parts}
use Rattle.dfu_device.specs.DeviceView.{DeviceView}
use Rattle.dfu_device.specs.Rows.{Cause}
use Rattle.dfu_asks.specs.declared.pending_writes.SlotWrite.{SlotWrite}
use Rattle.dfu_asks.specs.Steps.{Step}
use Rattle.dfu_asks.specs.Jobs.{job_steps}
use Rattle.dfu_asks.specs.Series.{held_before_block}
use Rattle.dfu_asks.specs.Asks.{grain_in, steps_in, IsBlockJob, IsCommitJob, IsDueJobOfMode}
use Rattle.dfu_laws.specs.board.Board.{Board, lent_on}
use Rattle.dfu_laws.specs.board.Counts.{operation_bound}
use Rattle.dfu_laws.specs.board.Refines.{IsBoardAtWork}
use Rattle.dfu_laws.proofs.board.Counting.{piece_count}
use Rattle.dfu_laws.proofs.board.Bounds.{unit_has_a_byte, block_pieces_bound, commit_pieces_bound}

-- Write steps of this job in a stage with a pending row; none in any other stage.
abbrev due_steps_of_stage : SlotsState → Stage → SlotWrite → List Step
due_steps_of_stage s (InDownloadSync before block number) j = job_steps j s.medium.grain (length before) (held_before_block s (length
    before)) block
due_steps_of_stage s (InDownloadBusy before block number passed) j =
    job_steps j s.medium.grain (length before) (held_before_block s (length before)) block
due_steps_of_stage s (InManifestSync taken) j = job_steps j s.medium.grain (length taken) s.held []
due_steps_of_stage s (InManifest taken passed) j = job_steps j s.medium.grain (length taken) s.held []
due_steps_of_stage s stage j = []

-- Write steps of this job in the stage of a device.
abbrev pub device_due_steps : DeviceView → SlotWrite → List Step
device_due_steps d j = due_steps_of_stage d.slots d.stage j

module _ (s : SlotsState) where
  shaped_spare_has_room_size : is_shaped s ≡ true → length (spare_of s) ≡ room_of s
  shaped_spare_has_room_size shape = eqb-true _ _ (and_parts (length (spare_of s) == room_of s) _ shape).0

  block_fits : (n b : ℕ) (p : Bool) → IsTrue (is_shaped s && (nat_lt 0 b && (nat_le (n + b) (room_of s) && p))) → n ≤ length (spare_of s)
  block_fits n b p sound =
      let shape : is_shaped s ≡ true = grind (arith, common_steps) in
      let room : n + b ≤ room_of s = grind (arith, common_steps) in
      omega (arith, shaped_spare_has_room_size shape, room)

  commit_fits_spare : (n : ℕ) (p : Bool) → IsTrue (is_shaped s && (nat_lt 0 n && (nat_le n (room_of s) && p))) → n ≤ length (spare_of s)
  commit_fits_spare n p sound =
      let shape : is_shaped s ≡ true = grind (arith, common_steps) in
      let room : n ≤ room_of s = grind (arith, common_steps) in
      omega (arith, shaped_spare_has_room_size shape, room)

  -- If a spare slot has at least n bytes, its first n bytes have the length n.
  taken_bytes_have_length : (n : ℕ) → n ≤ length (spare_of s) → length (take n (spare_of s)) ≡ n
  taken_bytes_have_length n fits = omega (arith, length-take n (spare_of s), fits)

  block_job_steps_same : (n : ℕ) (j : SlotWrite) (w : Grain) (end : ℕ) (held block : List ℕ) → s.medium.grain ≡ w → n ≤ length (spare_of s)
      → IsBlockJob n s j end held → let k = length (take n (spare_of s)) in
      job_steps j w end held block ≡ job_steps j s.medium.grain k (held_before_block s k) block
  block_job_steps_same n j w end held block grain fits is =
      (λ i. job_steps j (sym grain i) (is.end_is i) (is.held_is i) block)
      ∙ ap (λ (k : ℕ). job_steps j s.medium.grain k (held_before_block s k) block) (sym (taken_bytes_have_length n fits))

  commit_job_steps_same : (n : ℕ) (j : SlotWrite) (w : Grain) (end : ℕ) (held block : List ℕ) → s.medium.grain ≡ w → n ≤ length (spare_of s)
      → IsCommitJob n s j end held → job_steps j w end held block ≡ job_steps j s.medium.grain (length (take n (spare_of s))) s.held []
  commit_job_steps_same n j w end held block grain fits is =
      (λ i. job_steps j (sym grain i) (is.end_is i) (is.held_is i) block)
      ∙ (λ i. job_steps (is.job_is i) s.medium.grain n s.held block) ∙ (λ i. job_steps (sym is.job_is i) s.medium.grain n s.held [])
      ∙ ap (λ (k : ℕ). job_steps j s.medium.grain k s.held []) (sym (taken_bytes_have_length n fits))

  -- The write steps of the pending job are those that `due_steps_of_stage` gives for its stage.
  due_job_steps_same : (m : DeviceState) (asked : Option ℕ) (len : ℕ) (j : SlotWrite) (w : Grain) (end : ℕ) (held block : List ℕ)
      → s.medium.grain ≡ w → IsTrue (are_device_parts m (length block) s) → IsDueJobOfMode m asked len s j end held
      → job_steps j w end held block ≡ due_steps_of_stage s (stage_of m (spare_of s) block) j
  due_job_steps_same (device_state.DownloadSync n number) asked len j w end held block grain sound due =
      block_job_steps_same n j w end held block grain (block_fits n (length block) _ sound) due.1
  due_job_steps_same (device_state.DownloadBusy n number passed) asked len j w end held block grain sound due =
      block_job_steps_same n j w end held block grain (block_fits n (length block) _ sound) due.1
  due_job_steps_same (device_state.ManifestSync n) asked len j w end held block grain sound due =
      commit_job_steps_same n j w end held block grain (commit_fits_spare n _ sound) due.1
  due_job_steps_same (device_state.Manifest n passed) asked len j w end held block grain sound due =
      commit_job_steps_same n j w end held block grain (commit_fits_spare n _ sound) due.1
  due_job_steps_same m asked len j w end held block grain sound due = elim due [ ]

-- The write steps of a board's pending writes are those that `device_due_steps` gives for the device that the board represents.
pub work_steps_are_device_steps : (b : Board) (cause : Cause) (d : DeviceView) (k : IsBoardAtWork b cause d)
    → steps_in (lent_on b) k.asks.work ≡ device_due_steps d k.asks.work.job
work_steps_are_device_steps b cause d k =
    let a = lent_on b in
    let w = k.asks.work in
    let on = k.asks.working in
    due_job_steps_same k.s a.mode w.asked k.len w.job (grain_in a) a.put_end a.held a.block (ap (λ (m : MediumState). m.grain) on.medium)
    on.sound
    on.due
    ∙ ap (λ (x : DeviceView). device_due_steps x w.job) k.device

module _ (s : SlotsState) (store : IsStore s) (u : WriteUnit) (sector : ℕ) (grain : s.medium.grain ≡ record { unit = u; sector = sector })
  where
    -- The write steps of a job have at most `operation_bound` pieces.
    abbrev JobPiecesBounded : SlotWrite → ℕ → (held block : List ℕ) → Type 0
    JobPiecesBounded j end held block =
        piece_count (job_steps j (record { unit = u; sector = sector }) end held block) ≤ operation_bound j (length block) sector

    held_bytes_below_unit : length s.held < unit_size u
    held_bytes_below_unit = subst (λ (g : Grain). length s.held < unit_size g.unit) grain
        (subst (λ (x : ℕ). x < unit_size s.medium.grain.unit) (sym store.puts.part) (mod-lt s.put_end (unit_has_a_byte
        s.medium.grain.unit)))

    -- If the flash has sectors, each sector has at least 256 bytes.
    wide : 0 < sector → 256 ≤ sector
    wide some =
        let whole = subst (λ (g : Grain). g.sector % 256 ≡ 0) grain store.has_image.active.sized.whole.pages in
        omega (arith, some, whole)

    tail_bytes_below_unit : (n : ℕ) → length (held_before_block s n) < unit_size u
    tail_bytes_below_unit n = by_test (n == 0)
      where
        by_test : (b : Bool) → length (if b then [] else s.held) < unit_size u
        by_test true = omega (arith, held_bytes_below_unit)
        by_test false = held_bytes_below_unit

    block_job_pieces_bounded : (n : ℕ) (j : SlotWrite) (end : ℕ) (held block : List ℕ) → IsBlockJob n s j end held
        → JobPiecesBounded j end held block
    block_job_pieces_bounded n j end held block is =
        let close = (n == 0) && not (is_begun s) in
        let none : close ≡ true → length held ≡ 0 = λ e.
        ap (λ (l : List ℕ). length l) is.held_is
        ∙ ap (λ (b : Bool). length (if b then [] else s.held)) (and_parts (n == 0) (not (is_begun s)) e).0 in
        subst (λ (x : SlotWrite). JobPiecesBounded x end held block)
        (sym is.job_is)
        (block_pieces_bound u sector (spare_at (gate_of s.medium) s.medium.bytes) close end held block
        (subst (λ (l : List ℕ). length l < unit_size u) (sym is.held_is) (tail_bytes_below_unit n)) none wide)

    commit_job_pieces_bounded : (n : ℕ) (j : SlotWrite) (end : ℕ) (held block : List ℕ) → IsCommitJob n s j end held
        → JobPiecesBounded j end held block
    commit_job_pieces_bounded n j end held block is =
        subst (λ (x : SlotWrite). JobPiecesBounded x end held block)
        (sym is.job_is)
        (commit_pieces_bound u sector _ _ _ end held block (subst (λ (l : List ℕ). length l < unit_size u) (sym is.held_is)
        held_bytes_below_unit) wide)

    due_job_pieces_bounded : (m : DeviceState) (asked : Option ℕ) (len : ℕ) (j : SlotWrite) (end : ℕ) (held block : List ℕ)
        → IsDueJobOfMode m asked len s j end held → JobPiecesBounded j end held block
    due_job_pieces_bounded (device_state.DownloadSync n number) asked len j end held block due = block_job_pieces_bounded n j end held
        block due.1
    due_job_pieces_bounded (device_state.DownloadBusy n number passed) asked len j end held block due = block_job_pieces_bounded n j end
        held block due.1
    due_job_pieces_bounded (device_state.ManifestSync n) asked len j end held block due = commit_job_pieces_bounded n j end held block due.1
    due_job_pieces_bounded (device_state.Manifest n passed) asked len j end held block due = commit_job_pieces_bounded n j end held block
        due.1
    due_job_pieces_bounded m asked len j end held block due = elim due [ ]

-- The write steps of a board with pending writes have at most `operation_bound` pieces.
pub work_pieces_bounded : (b : Board) (cause : Cause) (d : DeviceView) (k : IsBoardAtWork b cause d)
    → piece_count (device_due_steps d k.asks.work.job) ≤ operation_bound k.asks.work.job (length (lent_on b).block) b.asking.sector.size
work_pieces_bounded b cause d k =
    let a = lent_on b in
    let w = k.asks.work in
    let on = k.asks.working in
    subst (λ (ss : List Step). piece_count ss ≤ operation_bound w.job (length a.block) b.asking.sector.size) (work_steps_are_device_steps b
    cause d k)
    (due_job_pieces_bounded k.s on.store a.unit b.asking.sector.size (ap (λ (m : MediumState). m.grain) on.medium) a.mode w.asked k.len
    w.job a.put_end
    a.held a.block on.due)
