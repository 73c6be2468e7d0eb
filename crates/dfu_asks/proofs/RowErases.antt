-- Each erase of a row erases a whole sector.
use Rattle.std.proofs.Common.{◌≡◌, ◌≢◌, inl, inr, ◌==◌, ◌&&◌, not, Bool, true, false, if◌then◌else◌, ℕ, zero, suc, ◌+◌, ◌-◌, ◌%◌, min, List, [], ◌∷◌, ◌++◌, length, take, drop, replicate, Option, refl, sym, ◌∙◌, ap, subst, arith}
use Rattle.std.proofs.lemmas.Bool.{eqb-true, eqb-false, false≢true}
use Rattle.std.proofs.lemmas.List.{length-replicate}
use Rattle.dfu_slots.specs.Units.{Grain, gate_size, gate_room, whole_part, filled_units}
use Rattle.dfu_slots.specs.Layout.{OPEN, gate_unit, header_unit}
use Rattle.dfu_slots.specs.Image.{gate_of, spare_at}
use Rattle.dfu_slots.specs.Writes.{erase_write, sector_erases, head_write_size}
use Rattle.dfu_slots.specs.StoreView.{SlotsState, is_begun}
use Rattle.dfu_slots.specs.Store.{IsStore}
use Rattle.dfu_slots.proofs.Sectors.{IsSectorEdge}
use Rattle.dfu_device.specs.declared.device_state.DeviceState.{DeviceState}
use Rattle.dfu_device.specs.declared.device_state.DeviceState.TheVariants as device_state
use Rattle.dfu_asks.specs.declared.pending_writes.SlotWrite.{SlotWrite}
use Rattle.dfu_asks.specs.declared.pending_writes.SlotWrite.TheVariants as slot_write
use Rattle.dfu_asks.specs.Lent.{LentDevice}
use Rattle.dfu_slots.specs.Medium.{MediumState}
use Rattle.dfu_asks.specs.Steps.{Step, steps_of_writes, program_step, write_anew_steps, write_some_steps, put_steps, open_steps, close_step}
use Rattle.dfu_asks.specs.Carried.{IsStepPiece, EndsAtPiece, ErasesSectorOrPrograms}
use Rattle.dfu_asks.specs.Jobs.{held_bytes_place, job_steps}
use Rattle.dfu_asks.specs.Asks.{grain_in, steps_in, IsBlockJob, IsCommitJob, IsDueJobOfMode}
use Rattle.dfu_asks.specs.Calls.{WritesPending}
use Rattle.dfu_asks.proofs.Inside.{spare_place_is_edge}

-- Each step of a list erases a whole sector or programs bytes.
abbrev pub StepsEraseSectors : ℕ → List Step → Type 0
StepsEraseSectors sector [] = Unit {0}
StepsEraseSectors sector (s ∷ ss) = ErasesSectorOrPrograms sector s × StepsEraseSectors sector ss

-- If each step of two lists erases a whole sector or programs bytes, so does each step of the joined list.
pub steps_erase_sectors_append : (sector : ℕ) (xs ys : List Step) → StepsEraseSectors sector xs → StepsEraseSectors sector ys →
    StepsEraseSectors sector (xs ++ ys)
steps_erase_sectors_append sector [] ys a b = b
steps_erase_sectors_append sector (x ∷ xs) ys a b = (a.0, steps_erase_sectors_append sector xs ys a.1 b)

sector_erases_erase_sectors : (sector at n : ℕ) → StepsEraseSectors sector (steps_of_writes true (sector_erases sector at n))
sector_erases_erase_sectors sector at zero = tt
sector_erases_erase_sectors sector at (suc n) = by_test (at % sector == 0) refl (sector_erases_erase_sectors sector (at + 1) n)
  where
    by_test : (b : Bool) → (at % sector == 0) ≡ b → StepsEraseSectors sector (steps_of_writes true (sector_erases sector (at + 1) n))
        → StepsEraseSectors sector (steps_of_writes true ((if b then erase_write sector at ∷ [] else [])
        ++ sector_erases sector (at + 1) n))
    by_test true is more = (λ e. (length-replicate {A = ℕ} sector 255, eqb-true _ _ is), more)
    by_test false is more = more

-- Each step of a write, including its erases, erases a whole sector or programs bytes.
pub write_anew_erases_sectors : (sector at : ℕ) (bytes : List ℕ) → StepsEraseSectors sector (write_anew_steps sector at bytes)
write_anew_erases_sectors sector at bytes = by_test (sector == 0)
  where
    by_test : (b : Bool) → StepsEraseSectors sector (steps_of_writes true
        (if b then [] else sector_erases sector at (length bytes)) ++ program_step at bytes ∷ [])
    by_test true = (λ e. absurd (false≢true e), tt)
    by_test false =
        steps_erase_sectors_append sector (steps_of_writes true (sector_erases sector at (length bytes))) (program_step at bytes ∷ [])
        (sector_erases_erase_sectors sector at (length bytes))
        (λ e. absurd (false≢true e), tt)

-- Each step of `write_some` erases a whole sector or programs bytes.
pub write_some_erases_sectors : (sector at : ℕ) (bytes : List ℕ) → StepsEraseSectors sector (write_some_steps sector at bytes)
write_some_erases_sectors sector at bytes = by_test (length bytes == 0)
  where
    by_test : (b : Bool) → StepsEraseSectors sector (if b then [] else write_anew_steps sector at bytes)
    by_test true = tt
    by_test false = write_anew_erases_sectors sector at bytes

-- The step that closes a gate erases a whole sector or programs bytes, if the slot begins at a sector edge.
pub close_step_erases_sector : (w : Grain) (at : ℕ) → IsSectorEdge w.sector at → ErasesSectorOrPrograms w.sector (close_step w at)
close_step_erases_sector w at edge = by_test (w.sector == 0) refl
  where
    by_test : (b : Bool) → (w.sector == 0) ≡ b → ErasesSectorOrPrograms w.sector (record {
      erases = if b then false else true;
      write = record { at = at; bytes = if b then gate_unit (gate_size w.unit) 0 else replicate w.sector 255 };
    })
    by_test true is = λ e. absurd (false≢true e)
    by_test false is = λ e.
        (length-replicate {A = ℕ} w.sector 255, let some : w.sector ≢ 0 = eqb-false _ _ is in edge (omega (arith, some)))

put_steps_erase_sectors : (w : Grain) (at : ℕ) (held block : List ℕ) → StepsEraseSectors w.sector (put_steps w at held block)
put_steps_erase_sectors w at held block =
    let all = held ++ block in
    let head = head_write_size w.unit held block in
    let back = drop head (take (whole_part w.unit (length all)) all) in
    steps_erase_sectors_append w.sector (write_some_steps w.sector at (take head all)) (write_some_steps w.sector (at + head) back)
    (write_some_erases_sectors w.sector at (take head all)) (write_some_erases_sectors w.sector (at + head) back)

block_steps_erase_sectors : (w : Grain) (spare end : ℕ) (close : Bool) (held b : List ℕ) → IsSectorEdge w.sector spare
    → StepsEraseSectors w.sector (job_steps (slot_write.Block spare close) w end held b)
block_steps_erase_sectors w spare end true held b edge = (
  close_step_erases_sector w spare edge,
  put_steps_erase_sectors w
      (held_bytes_place w spare end held) held b,
)
block_steps_erase_sectors w spare end false held b edge = put_steps_erase_sectors w (held_bytes_place w spare end held) held b

commit_steps_erase_sectors : (w : Grain) (spare gen crc end : ℕ) (held b : List ℕ)
    → StepsEraseSectors w.sector (job_steps (slot_write.Commit spare gen crc) w end held b)
commit_steps_erase_sectors w spare gen crc end held b =
    let header = header_unit (gate_size w.unit) gen end crc in
    let gate = gate_unit (gate_size w.unit) OPEN in
    steps_erase_sectors_append w.sector (write_some_steps w.sector (held_bytes_place w spare end held) (filled_units w.unit held))
    (open_steps w spare gen end crc)
    (write_some_erases_sectors w.sector (held_bytes_place w spare end held) (filled_units w.unit held))
    (steps_erase_sectors_append w.sector (write_anew_steps w.sector (spare + gate_room w) header) (write_anew_steps w.sector spare gate)
    (write_anew_erases_sectors w.sector (spare + gate_room w) header) (write_anew_erases_sectors w.sector spare gate))

-- If the bytes written so far end at a piece boundary, the next piece erases a whole sector or programs bytes.
pub next_piece_erases_sector : (sector : ℕ) (ss : List Step) (n : ℕ) (p : Step) → StepsEraseSectors sector ss → EndsAtPiece ss n →
    IsStepPiece ss n p →
    ErasesSectorOrPrograms sector p
next_piece_erases_sector sector [] n p all reached none = absurd none
next_piece_erases_sector sector (s ∷ ss) n p all (inl front) (inl part) = λ e.
    let sector_erases : s.erases ≡ true = sym part.kind ∙ e in
    let none : n ≡ 0 = front.2 sector_erases in
    let is = all.0 sector_erases in
    let size : length p.write.bytes ≡ length s.write.bytes - n =
    part.size ∙ ap (λ (b : Bool). if b then length s.write.bytes - n else min 256 (length s.write.bytes - n)) sector_erases in
    let place : p.write.at ≡ s.write.at = omega (arith, part.place, none) in
    (omega (arith, size, none, is.0), ap (λ (k : ℕ). k % sector) place ∙ is.1)
next_piece_erases_sector sector (s ∷ ss) n p all (inl front) (inr (past, piece)) = absurd (omega (arith, front.0, past))
next_piece_erases_sector sector (s ∷ ss) n p all (inr (past, reached)) (inl part) = absurd (omega (arith, past, part.some, part.within))
next_piece_erases_sector sector (s ∷ ss) n p all (inr (past, reached)) (inr (later, piece)) =
    next_piece_erases_sector sector ss (n - length s.write.bytes) p all.1 reached piece

module _ (s : SlotsState) (store : IsStore s) (w : Grain) (grain : s.medium.grain ≡ w) (b held : List ℕ) (end : ℕ) (j : SlotWrite) where
  block_job_erases_sectors : (n : ℕ) → IsBlockJob n s j end held → StepsEraseSectors w.sector (job_steps j w end held b)
  block_job_erases_sectors n is = subst (λ (x : SlotWrite). StepsEraseSectors w.sector (job_steps x w end held b)) (sym is.job_is)
      (block_steps_erase_sectors w (spare_at (gate_of s.medium) s.medium.bytes) end ((n == 0) && not (is_begun s)) held b
      (spare_place_is_edge s store w grain))

  commit_job_erases_sectors : (n : ℕ) → IsCommitJob n s j end held → StepsEraseSectors w.sector (job_steps j w end held b)
  commit_job_erases_sectors n is = subst (λ (x : SlotWrite). StepsEraseSectors w.sector (job_steps x w end held b)) (sym is.job_is)
      (commit_steps_erase_sectors w _ _ _ end held b)

  -- Each step of the due row erases a whole sector or programs bytes.
  due_steps_erase_sectors : (m : DeviceState) (asked : Option ℕ) (len : ℕ) → IsDueJobOfMode m asked len s j end held
      → StepsEraseSectors w.sector (job_steps j w end held b)
  due_steps_erase_sectors (device_state.DownloadSync n number) asked len due = block_job_erases_sectors n due.1
  due_steps_erase_sectors (device_state.DownloadBusy n number passed) asked len due = block_job_erases_sectors n due.1
  due_steps_erase_sectors (device_state.ManifestSync n) asked len due = commit_job_erases_sectors n due.1
  due_steps_erase_sectors (device_state.Manifest n passed) asked len due = commit_job_erases_sectors n due.1
  due_steps_erase_sectors m asked len due = absurd due

-- The piece that a device requests erases a whole sector or programs bytes.
pub asked_piece_erases_sector : (a : LentDevice) (len : ℕ) (s : SlotsState) (was flash : List ℕ) (k : WritesPending a len s was flash) (p :
    Step)
    → IsStepPiece (steps_in a k.work) k.work.done p → ErasesSectorOrPrograms a.sector.size p
asked_piece_erases_sector a len s was flash k p piece =
    next_piece_erases_sector a.sector.size (steps_in a k.work) k.work.done p
    (due_steps_erase_sectors s k.working.store (grain_in a) (ap (λ (x : MediumState). x.grain) k.working.medium)
    a.block a.held a.put_end k.work.job
    a.mode k.work.asked len k.working.due) k.reached piece
