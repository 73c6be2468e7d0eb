-- A row is complete if the kept fields of the device are those that the row left.
use Rattle.std.proofs.Common.{◌≡◌, inl, inr, refl, ℕ, ◌≤◌, IsTrue, List, length, Option, None, sym, ap, subst, arith}
use Rattle.dfu_slots.specs.declared.fault.WriteFault.{WriteFault}
use Rattle.dfu_slots.specs.Medium.{MediumState, Write, AllWrites, BrokenWrites}
use Rattle.dfu_slots.specs.StoreView.{SlotsState, store_of, store_on}
use Rattle.dfu_slots.specs.Store.{IsStore}
use Rattle.dfu_device.specs.declared.answer.Answer.{Answer}
use Rattle.dfu_device.specs.declared.device_state.DeviceState.{DeviceState}
use Rattle.dfu_device.specs.DeviceView.{DeviceView}
use Rattle.dfu_device.specs.Setting.{Setting}
use Rattle.dfu_device.specs.Parts.{view_of_parts, are_device_parts}
use Rattle.dfu_asks.specs.declared.pending_writes.PendingWrites.{PendingWrites}
use Rattle.dfu_asks.specs.Lent.{LentDevice}
use Rattle.dfu_asks.specs.Mapped.{mapped_medium, UnseenState, mapped_medium_with}
use Rattle.dfu_asks.specs.Carried.{total, bytes_after_writes}
use Rattle.dfu_asks.specs.Due.{DueRowWorks, DueRowFails}
use Rattle.dfu_asks.specs.Asks.{grain_in, flash_store, device_in, store_with_unseen, device_with, device_of, IsWorkingForRow, writes_in, IsKeptAfterWrites, IsKeptAfterFault, NoteAfterRow, IsRowEndAnswer, AnswerInBuffer, done_mode, failed_mode}
use Rattle.dfu_asks.specs.Calls.{CallCompleted}
use Rattle.dfu_asks.proofs.SeriesBytes.{carried_series_is_all_writes}
use Rattle.dfu_asks.proofs.Empty.{empty_job_has_no_writes}
use Rattle.dfu_asks.proofs.UnseenState.{store_stays_with_unseen, parts_stay_with_unseen, due_job_with_unseen}
use Rattle.dfu_asks.specs.Noted.{IsNoteOfMedium}
use Rattle.dfu_asks.proofs.Working.{RowEnds, Stays, held_after_row, put_end_after_row, due_row_works, due_row_fails}
use Rattle.dfu_asks.proofs.NotesAfterRow.{notes_after_row}

-- A call is complete if the kept fields are the store and the mode that its row left.
row_ends_in_kept_parts : (a now : LentDevice) (asked : Option ℕ) (flash : List ℕ) (x : Answer) (count : ℕ) (out out' : List ℕ) (S :
    SlotsState)
    (M : DeviceState)
    (Stay : Type 0) (Row : Answer → List ℕ → Type 0)
    → flash_store now flash ≡ S → now.mode ≡ M → now.block ≡ a.block → now.work ≡ None
    → AnswerInBuffer (λ y sent. IsRowEndAnswer a.config now.mode asked y sent) x count out out'
    → (IsStore S → Stay → IsNoteOfMedium now.noted (mapped_medium (grain_in now) flash))
    → ((sent : List ℕ) → IsRowEndAnswer a.config M asked x sent → RowEnds a.config S M a.block Stay (Row x sent))
    → CallCompleted flash x count out out' now Row
row_ends_in_kept_parts a now asked flash x count out out' S M Stay Row store mode block work gives noted comes =
    let e = comes gives.sent (subst (λ (m : DeviceState). IsRowEndAnswer a.config m asked x gives.sent) mode gives.says) in
    record {
      gave = record {
        sent = gives.sent;
        count_is = gives.count_is;
        out_is = gives.out_is;
        row = e.comes;
      };
      work = work;
      is = record {
        store = subst IsStore (sym store) e.store;
        sound = subst (λ (m : DeviceState). IsTrue (are_device_parts m (length now.block) (flash_store now flash))) (sym mode)
            (subst (λ (l : List ℕ). IsTrue (are_device_parts M (length l) (flash_store now flash))) (sym block)
            (subst (λ (s : SlotsState). IsTrue (are_device_parts M (length a.block) s)) (sym store) e.sound));
        noted = noted e.store e.stays;
      };
    }

-- A row ends in the same way on two equal devices.
row_ends_same_on_equal_devices : (c : Setting) (s : SlotsState) (m : DeviceState) (b : List ℕ) (Stays : Type 0) (Row : DeviceView →
    Type 0) (d d' : DeviceView)
    → d ≡ d' → RowEnds c s m b Stays (Row d) → RowEnds c s m b Stays (Row d')
row_ends_same_on_equal_devices c s m b Stays Row d d' same e =
    record { comes = subst Row same e.comes; store = e.store; sound = e.sound; stays = e.stays }

module _ (a now : LentDevice) (w : PendingWrites) (len : ℕ) (s : SlotsState) (was flash : List ℕ) (working : IsWorkingForRow a w len s was)
    (notes : NoteAfterRow a.mode flash a now) (x : Answer) (count : ℕ) (out out' : List ℕ) where
  -- The store writes its medium with the device's unit and sector.
  store_has_device_grain : s.medium.grain ≡ grain_in a
  store_has_device_grain = ap (λ (m : MediumState). m.grain) working.medium

  -- Slot store after all writes, on a medium with these bytes and this unseen state.
  abbrev store_left_with_unseen : UnseenState → SlotsState
  store_left_with_unseen u = store_of (mapped_medium_with u (grain_in a) flash) (held_after_row (grain_in a) a.mode a.held a.block)
      (put_end_after_row a.mode a.put_end a.block)

  -- Slot store after all writes, on a mapped medium with these bytes.
  abbrev left : SlotsState
  left = store_of (mapped_medium (grain_in a) flash) (held_after_row (grain_in a) a.mode a.held a.block) (put_end_after_row a.mode
      a.put_end a.block)

  -- The fields kept after all writes form the device that the row left, for any unseen state of the medium.
  kept_parts_are_row_device : IsKeptAfterWrites a now → (u : UnseenState)
      → view_of_parts a.config (store_left_with_unseen u) (done_mode a.config a.mode (length a.block)) a.block
      ≡ device_with u now flash
  kept_parts_are_row_device fin u = λ i. view_of_parts (sym fin.config i)
      (store_of (mapped_medium_with u (record { unit = sym fin.unit i; sector = (sym fin.sector i).size }) flash) (sym fin.held i) (sym
      fin.end i))
      (sym fin.mode i) (sym fin.block i)

  -- After the due row, the fields that `IsKeptAfterWrites` lists are those of the device on the flash.
  kept_parts_are_flash_device : IsKeptAfterWrites a now → view_of_parts a.config left (done_mode a.config a.mode (length a.block)) a.block
      ≡ device_in now flash
  kept_parts_are_flash_device fin = λ i. view_of_parts (sym fin.config i)
      (store_of (mapped_medium (record { unit = sym fin.unit i; sector = (sym fin.sector i).size }) flash) (sym fin.held i) (sym fin.end i))
      (sym fin.mode i) (sym fin.block i)

  -- A call whose writes all succeeded is complete with `Row`, if the end of the row satisfies `Row`.
  row_ends_after_writes : (Row : Answer → List ℕ → Type 0) → AllWrites (mapped_medium (grain_in a) was) (writes_in a w)
      (mapped_medium (grain_in a) flash)
      → IsKeptAfterWrites a now → AnswerInBuffer (λ y sent. IsRowEndAnswer a.config now.mode w.asked y sent) x count out out'
      → ((sent : List ℕ) → IsRowEndAnswer a.config (done_mode a.config a.mode (length a.block)) w.asked x sent
      → RowEnds a.config left (done_mode a.config a.mode (length a.block)) a.block (Stays a.mode s left) (Row x sent))
      → CallCompleted flash x count out out' now Row
  row_ends_after_writes Row all fin gives comes =
      row_ends_in_kept_parts a now w.asked flash x count out out' left (done_mode a.config a.mode (length a.block)) (Stays a.mode s left)
      Row
      (λ i. store_of (mapped_medium (record { unit = fin.unit i; sector = (fin.sector i).size }) flash) (fin.held i) (fin.end i))
      fin.mode fin.block fin.work gives
      (λ store stays. notes_after_row a now w len s was flash working notes fin.unit fin.sector (inl all) left refl store.has_image stays)
      comes

  -- The due row succeeded if all its writes did.
  due_row_worked : AllWrites (mapped_medium (grain_in a) was) (writes_in a w) (mapped_medium (grain_in a) flash) → (sent : List ℕ)
      → IsRowEndAnswer a.config (done_mode a.config a.mode (length a.block)) w.asked x sent
      → RowEnds a.config left (done_mode a.config a.mode (length a.block)) a.block (Stays a.mode s left)
      (DueRowWorks len (device_of a s) x sent (view_of_parts a.config left (done_mode a.config a.mode (length a.block)) a.block))
  due_row_worked all sent says =
      due_row_works a.config (grain_in a) a.block a.held a.put_end w.job len s (mapped_medium (grain_in a) flash) store_has_device_grain
      working.store
      a.mode w.asked working.sound working.due
      (subst (λ (m : MediumState). AllWrites m (writes_in a w) (mapped_medium (grain_in a) flash)) (sym working.medium) all) x sent says

  -- If all writes of the due row succeeded, the call is complete with the result of this row.
  pub worked_writes_end_row : AllWrites (mapped_medium (grain_in a) was) (writes_in a w) (mapped_medium (grain_in a) flash) →
      IsKeptAfterWrites a now
      → AnswerInBuffer (λ y sent. IsRowEndAnswer a.config now.mode w.asked y sent) x count out out'
      → CallCompleted flash x count out out' now (λ y sent. DueRowWorks len (device_of a s) y sent (device_in now flash))
  worked_writes_end_row all fin gives =
      row_ends_after_writes (λ y sent. DueRowWorks len (device_of a s) y sent (device_in now flash)) all fin gives
      (λ sent says. row_ends_same_on_equal_devices a.config left (done_mode a.config a.mode (length a.block)) a.block (Stays a.mode s left)
      (λ d. DueRowWorks len (device_of a s) x sent d) _ _ (kept_parts_are_flash_device fin) (due_row_worked all sent says))

  -- If a write of the due row had a fault, the call is complete with the result of the failed row.
  pub broken_writes_end_row : (fault : WriteFault) → BrokenWrites fault (mapped_medium (grain_in a) was) (writes_in a w)
      (mapped_medium (grain_in a) flash)
      → IsKeptAfterFault fault a now → AnswerInBuffer (λ y sent. IsRowEndAnswer a.config now.mode w.asked y sent) x count out out'
      → CallCompleted flash x count out out' now (λ y sent. DueRowFails fault len (device_of a s) y sent (device_in now flash))
  broken_writes_end_row fault broken off gives =
      let rest = store_on (mapped_medium (grain_in a) flash) in
      row_ends_in_kept_parts a now w.asked flash x count out out' rest (failed_mode fault a.mode) (Stays a.mode s rest)
      (λ y sent. DueRowFails fault len (device_of a s) y sent (device_in now flash))
      (λ i. store_of (mapped_medium (record { unit = off.unit i; sector = (off.sector i).size }) flash) (off.held i) (off.end i))
      off.mode off.block off.work gives
      (λ store stays. notes_after_row a now w len s was flash working notes off.unit off.sector (inr (fault, broken)) rest refl
      store.has_image
      stays)
      (λ sent says. row_ends_same_on_equal_devices a.config rest (failed_mode fault a.mode) a.block (Stays a.mode s rest)
      (λ d. DueRowFails fault len (device_of a s) x sent d) _ _
      (λ i. view_of_parts (sym off.config i)
      (store_of (mapped_medium (record { unit = sym off.unit i; sector = (sym off.sector i).size }) flash) (sym off.held i) (sym off.end i))
      (sym off.mode i) (sym off.block i))
      (due_row_fails a.config (grain_in a) a.block a.held a.put_end w.job len s (mapped_medium (grain_in a) flash) store_has_device_grain
      working.store
      fault a.mode w.asked (omega (arith, ap (λ (m : MediumState). m.failures) working.medium)) working.sound working.due
      (subst (λ (m : MediumState). BrokenWrites fault m (writes_in a w) (mapped_medium (grain_in a) flash)) (sym working.medium) broken)
      x sent says))

  -- If all bytes of the due row's writes are on the flash, the call is complete with the result of this row.
  pub carried_writes_end_row : flash ≡ bytes_after_writes was (writes_in a w) w.done → total (writes_in a w) ≤ w.done →
      IsKeptAfterWrites a now
      → AnswerInBuffer (λ y sent. IsRowEndAnswer a.config now.mode w.asked y sent) x count out out'
      → CallCompleted flash x count out out' now (λ y sent. DueRowWorks len (device_of a s) y sent (device_in now flash))
  carried_writes_end_row is le fin gives = worked_writes_end_row
      (subst (λ (l : List ℕ). AllWrites (mapped_medium (grain_in a) was) (writes_in a w) (mapped_medium (grain_in a) l)) (sym is)
      (carried_series_is_all_writes (grain_in a) (writes_in a w) was w.done le)) fin gives

-- A due row without writes is complete at once, on every medium with these bytes.
module _ (a now : LentDevice) (w : PendingWrites) (len : ℕ) (s : SlotsState) (flash : List ℕ) (working : IsWorkingForRow a w len s flash)
    (notes : NoteAfterRow a.mode flash a now) (x : Answer) (count : ℕ) (out out' : List ℕ) (nothing : total (writes_in a w) ≤ 0) where
  -- Pending writes without bytes leave the medium unchanged.
  empty_work_writes_nothing : (m : MediumState) → AllWrites m (writes_in a w) m
  empty_work_writes_nothing m = subst (λ (ws : List Write). AllWrites m ws m) (sym (empty_job_has_no_writes w.job (grain_in a) a.put_end
      a.held a.block nothing)) refl

  -- A due row without writes succeeds for any unseen state of the medium.
  due_row_worked_with_unseen : (u : UnseenState) (sent : List ℕ) →
      IsRowEndAnswer a.config (done_mode a.config a.mode (length a.block)) w.asked x sent
      → DueRowWorks len (device_of a (store_with_unseen u s)) x sent
      (view_of_parts a.config (store_left_with_unseen a now w len s flash flash working notes x count out out' u)
      (done_mode a.config a.mode (length a.block)) a.block)
  due_row_worked_with_unseen u sent says =
      let there : (store_with_unseen u s).medium ≡ mapped_medium_with u (grain_in a) flash =
      ap (λ (m : MediumState). mapped_medium_with u m.grain m.bytes) working.medium in
      (due_row_works a.config (grain_in a) a.block a.held a.put_end w.job len (store_with_unseen u s) (mapped_medium_with u (grain_in a)
      flash)
      (ap (λ (m : MediumState). m.grain) working.medium) (store_stays_with_unseen u s working.store)
      a.mode w.asked (parts_stay_with_unseen u s a.mode (length a.block) working.sound)
      (due_job_with_unseen u s a.mode w.asked len w.job a.put_end a.held working.due)
      (subst (λ (m : MediumState). AllWrites m (writes_in a w) (mapped_medium_with u (grain_in a) flash)) (sym there)
      (empty_work_writes_nothing (mapped_medium_with u (grain_in a) flash))) x sent says).comes

  -- A call whose due row has no writes is complete with that row, for any unseen state of the medium.
  pub empty_work_ends_row : IsKeptAfterWrites a now → AnswerInBuffer (λ y sent. IsRowEndAnswer a.config now.mode w.asked y sent) x count
      out out'
      → CallCompleted flash x count out out' now
      (λ y sent. (u : UnseenState) → DueRowWorks len (device_of a (store_with_unseen u s)) y sent (device_with u now flash))
  empty_work_ends_row fin gives =
      row_ends_after_writes a now w len s flash flash working notes x count out out'
      (λ y sent. (u : UnseenState) → DueRowWorks len (device_of a (store_with_unseen u s)) y sent (device_with u now flash))
      (empty_work_writes_nothing (mapped_medium (grain_in a) flash)) fin gives
      (λ sent says.
      let e = due_row_worked a now w len s flash flash working notes x count out out' (empty_work_writes_nothing (mapped_medium (grain_in
      a) flash)) sent says in
      record {
        comes = λ u. subst (λ (d : DeviceView). DueRowWorks len (device_of a (store_with_unseen u s)) x sent d)
            (kept_parts_are_row_device a now w len s flash flash working notes x count out out' fin u) (due_row_worked_with_unseen u sent
            says);
        store = e.store;
        sound = e.sound;
        stays = e.stays;
      })
