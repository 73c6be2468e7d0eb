-- Results of the calls of a device that requests its flash writes from the caller.
use Rattle.std.proofs.Common.{◌≡◌, inl, inr, ◌&&◌, Bool, true, false, not, IsTrue, ℕ, ◌+◌, ◌≤◌, ◌<◌, List, ◌++◌, length, drop, slice_range, Option, Some, None, is_some, refl, sym, ◌∙◌, ap, subst, arith}
use Rattle.std.proofs.lemmas.Grind.{common_steps}
use Rattle.dfu_slots.specs.declared.layout.Unit.{Unit as WriteUnit}
use Rattle.dfu_slots.specs.declared.fault.WriteFault.{WriteFault}
use Rattle.dfu_slots.specs.declared.fault.WriteFault.TheVariants.{NotVerified}
use Rattle.dfu_slots.specs.Medium.{MediumState, Write, Torn, FailedWrite}
use Rattle.dfu_slots.specs.StoreView.{SlotsState, store_of, is_shaped}
use Rattle.dfu_slots.specs.Store.{IsStore}
use Rattle.dfu_slots.proofs.Written.{write_worked}
use Rattle.dfu_slots.proofs.VisibleStores.{store_has_shape}
use Rattle.dfu_device.specs.declared.answer.Answer.{Answer}
use Rattle.dfu_device.specs.declared.device_state.DeviceState.{DeviceState}
use Rattle.dfu_device.specs.declared.device_state.DeviceState.TheVariants as device_state
use Rattle.dfu_device.specs.Setting.{Setting}
use Rattle.dfu_device.specs.DeviceView.{DeviceView, profile}
use Rattle.dfu_device.specs.Table.{Plan}
use Rattle.dfu_device.specs.Rows.{Done}
use Rattle.dfu_device.specs.Parts.{view_of_parts, stage_of, are_device_parts, is_filled}
use Rattle.dfu_asks.specs.declared.pending_writes.SlotWrite.{SlotWrite}
use Rattle.dfu_asks.specs.declared.pending_writes.PendingWrites.{PendingWrites}
use Rattle.dfu_asks.specs.Lent.{LentDevice}
use Rattle.dfu_asks.specs.declared.reply.Reply.{Reply}
use Rattle.dfu_asks.specs.declared.reply.Reply.TheVariants as reply
use Rattle.dfu_asks.specs.declared.sector.Sector.{Sector}
use Rattle.dfu_asks.specs.Mapped.{mapped_medium, UnseenState}
use Rattle.dfu_asks.specs.Steps.{Step, step_writes}
use Rattle.dfu_asks.specs.Carried.{total, bytes_after_writes, IsStepPiece}
use Rattle.dfu_asks.specs.Cuts.{IsNextPiece}
use Rattle.dfu_asks.specs.Due.{due_plan, DueRow, IsDueStage, IsStorelessPlan, IsStorelessOrDue, DueRowWorks, DueRowFails}
use Rattle.dfu_asks.specs.declared.noted.Noted.{Noted}
use Rattle.dfu_asks.specs.Noted.{IsNoteOfMedium}
use Rattle.dfu_asks.specs.Asks.{grain_in, flash_store, device_in, store_with_unseen, device_with, device_of, IsDevice, IsDueJobOfMode, IsJobOfMode, IsWorkingForRow, writes_in, steps_in, IsKeptAfterFault, NoteAfterRow, IsRowEndAnswer, AnswerInBuffer, SameButModeAndBlock}
use Rattle.dfu_asks.specs.Calls.{CallCompleted, WritesPending, DueOutcome, outcome_asks, outcome_answered, IsRowOnEveryMedium, PlansAreStorelessOrDue, DeviceCalled, call_answered, call_asks}
use Rattle.dfu_asks.specs.Refused.{ReportAccepted}
use Rattle.dfu_asks.proofs.Steps.{job_steps_are_writes}
use Rattle.dfu_asks.proofs.Bits.{IsPartOfWrites, piece_is_part_of_writes}
use Rattle.dfu_asks.proofs.Pieces.{next_piece_is_unique, piece_ends_within_series, next_piece_has_bytes}
use Rattle.dfu_asks.proofs.SeriesBytes.{written_piece_carries_series, torn_piece_breaks_series}
use Rattle.dfu_asks.proofs.Inside.{work_writes_within_flash}
use Rattle.dfu_asks.proofs.Ended.{broken_writes_end_row}
use Rattle.dfu_asks.proofs.WritingRows.{due_plan_is_due_row, worked_plan_is_carried_out}
use Rattle.dfu_asks.proofs.UnseenState.{unseen_of_mapped}

-- Pending writes are None if `is_some` returns false for them.
pub no_work_if_is_some_is_false : (w : Option PendingWrites) → is_some w ≡ false → w ≡ None
no_work_if_is_some_is_false (Some w) e = cc
no_work_if_is_some_is_false None e = refl

-- If two pending writes are equal when wrapped in `Some`, they are equal.
pub kept_work_is_unique : (x y : PendingWrites) → Some x ≡ Some y → x ≡ y
kept_work_is_unique x y e = cc

pub true_test_holds : (b : Bool) → b ≡ true → IsTrue b
true_test_holds b e = grind (arith, common_steps)

pub not_true_if_false : (b : Bool) → b ≡ false → ¬ IsTrue b
not_true_if_false b e t = grind (arith, common_steps)

pub negation_true_if_false : (b : Bool) → b ≡ false → IsTrue (not b)
negation_true_if_false b e = grind (arith, common_steps)

-- Two media with the same bytes are equal if they have equal units and equal sectors.
pub equal_grains_make_equal_media : {u u' : WriteUnit} {s s' : Sector} (flash : List ℕ) → u' ≡ u → s' ≡ s
    → mapped_medium (record { unit = u'; sector = s'.size }) flash ≡ mapped_medium (record { unit = u; sector = s.size }) flash
equal_grains_make_equal_media flash unit sector = λ i. mapped_medium (record { unit = unit i; sector = (sector i).size }) flash

-- A call that changes only the mode and the block of a device leaves its slot store unchanged.
pub store_unchanged_by_mode_change : (a mid : LentDevice) (flash : List ℕ) → SameButModeAndBlock a mid
    → flash_store mid flash ≡ flash_store a flash
store_unchanged_by_mode_change a mid flash r =
    λ i. store_of (mapped_medium (record { unit = r.unit i; sector = (r.sector i).size }) flash) (r.held i)
    (r.end i)

-- If the stage of a mode has a due row, the job of that mode is the job of this row.
mode_job_is_due : (m : DeviceState) (xs ys : List ℕ) (asked : Option ℕ) (len : ℕ) (s : SlotsState) (j : SlotWrite) (end : ℕ) (held : List
    ℕ)
    → IsDueStage (stage_of m xs ys) asked len → IsJobOfMode m s j end held → IsDueJobOfMode m asked len s j end held
mode_job_is_due (device_state.DownloadSync n number) xs ys asked len s j end held due is = (due, is)
mode_job_is_due (device_state.DownloadBusy n number passed) xs ys asked len s j end held due is = (due, is)
mode_job_is_due (device_state.ManifestSync n) xs ys asked len s j end held due is = (due, is)
mode_job_is_due (device_state.Manifest n passed) xs ys asked len s j end held due is = (due, is)
mode_job_is_due m xs ys asked len s j end held due is = absurd due

-- A device that begins the job of its due row has the pending writes of that row.
pub device_with_job_works_for_row : (a : LentDevice) (m : DeviceState) (b : List ℕ) (s : SlotsState) (flash xs ys : List ℕ) (j : SlotWrite)
    (asked : Option ℕ) (len : ℕ)
    → a.mode ≡ m → a.block ≡ b → s.medium ≡ mapped_medium (grain_in a) flash → IsStore s → IsTrue (are_device_parts m (length b) s)
    → IsNoteOfMedium a.noted s.medium → IsDueStage (stage_of m xs ys) asked len → IsJobOfMode m s j a.put_end a.held
    → IsWorkingForRow a (record { job = j; asked = asked; done = 0 }) len s flash
device_with_job_works_for_row a m b s flash xs ys j asked len mode_is block medium store sound noted due is = record {
  medium = medium;
  store = store;
  sound = subst (λ (x : DeviceState). IsTrue (are_device_parts x (length a.block) s)) (sym mode_is)
      (subst (λ (l : List ℕ). IsTrue (are_device_parts m (length l) s)) (sym block) sound);
  due = subst (λ (x : DeviceState). IsDueJobOfMode x asked len s j a.put_end a.held) (sym mode_is)
      (mode_job_is_due m xs ys asked len s j a.put_end a.held due is);
  noted = noted;
}

-- For every medium with these bytes, `Row` implies `Row'`.
abbrev pub RowImpliesRow : LentDevice → List ℕ → (Row Row' : DeviceView → Answer → List ℕ → DeviceView → Type 0) → Type 0
RowImpliesRow a flash Row Row' = (u : UnseenState) (x : Answer) (sent : List ℕ) (d : DeviceView) → Row (device_with u a flash) x sent d
    → Row' (device_with u a flash) x sent d

-- If a call has an outcome of `Row`, and `Row` implies `Row'`, the call has an outcome of `Row'`.
pub call_answered_by_implied_row : (a : LentDevice) (flash out : List ℕ) (Row Row' : DeviceView → Answer → List ℕ → DeviceView → Type 0)
    (now : LentDevice)
    (out' : List ℕ) (r : Reply) → RowImpliesRow a flash Row Row' → DeviceCalled a flash out Row now out' r
    → DeviceCalled a flash out Row' now out' r
call_answered_by_implied_row a flash out Row Row' now out' _ follows (call_answered x count e) = call_answered x count (record {
  gave = record {
    sent = e.gave.sent;
    count_is = e.gave.count_is;
    out_is = e.gave.out_is;
    row = λ u. follows u x e.gave.sent (device_with u now flash) (e.gave.row u);
  };
  work = e.work;
  is = e.is;
})
call_answered_by_implied_row a flash out Row Row' now out' _ follows (call_asks len asks same due out_is) =
    call_asks len asks same (λ u. record {
      works = λ x sent d w. follows u x sent d ((due u).works x sent d w);
      fails = λ fault x sent d w. follows u x sent d ((due u).fails fault x sent d w);
    }) out_is

-- A call that begins the due row requests the first write. If the row needs no writes, the call returns the answer of the row instead.
pub due_row_begins : (a : LentDevice) (flash out : List ℕ) (len : ℕ) (now : LentDevice) (out' : List ℕ) (r : Reply)
    → DueOutcome (device_in a flash) len (flash_store a flash) flash flash out now out' r
    → ((x : Answer) (count : ℕ) → r ≡ reply.Answered x count
    → CallCompleted flash x count out out' now (IsRowOnEveryMedium a flash (DueRowWorks len) now))
    → DeviceCalled a flash out (DueRow len) now out' r
due_row_begins a flash out len now out' _ (outcome_asks asks same out_is) ended =
    call_asks len asks same (λ u. let d = device_with u a flash in due_plan_is_due_row (due_plan (profile d) d.stage) len d refl) out_is
due_row_begins a flash out len now out' _ (outcome_answered x count came) ended =
    let e = ended x count refl in
    call_answered x count (record {
      gave = record {
        sent = e.gave.sent;
        count_is = e.gave.count_is;
        out_is = e.gave.out_is;
        row = λ u.
            let d = device_with u a flash in
            worked_plan_is_carried_out (due_plan (profile d) d.stage) len d x e.gave.sent (device_with u now flash) (e.gave.row u);
      };
      work = e.work;
      is = e.is;
    })

writing_plan_is_due_plan : (p : Plan) (d : DeviceView) (asked : Option ℕ) (len : ℕ) → ¬ IsStorelessPlan p →
    IsStorelessOrDue p (profile d) d.stage asked len
    → (p ≡ due_plan (profile d) d.stage) × IsDueStage d.stage asked len
writing_plan_is_due_plan p d asked len other (inl sure) = absurd (other sure)
writing_plan_is_due_plan p d asked len other (inr due) = due

-- If the plan of a call writes, it is the plan of the due row. So an outcome of the due row is an outcome of the call.
pub call_begins_due_row : (a : LentDevice) (flash out : List ℕ) (p : DeviceView → Plan) (asked : Option ℕ) (len : ℕ) (now : LentDevice)
    (out' : List ℕ) (r : Reply) → ((d : DeviceView) → ¬ IsStorelessPlan (p d)) → PlansAreStorelessOrDue p a flash asked len
    → (IsDueStage (device_in a flash).stage asked len → DeviceCalled a flash out (DueRow len) now out' r)
    → DeviceCalled a flash out (λ d x sent d'. Done (p d) len d x sent d') now out' r
call_begins_due_row a flash out p asked len now out' r other due called =
    let one = device_in a flash in
    call_answered_by_implied_row a flash out (DueRow len) (λ d x sent d'. Done (p d) len d x sent d') now out' r
    (λ u x sent d'.
    let d = device_with u a flash in
    subst (λ (q : Plan). Done q len d x sent d') (sym (writing_plan_is_due_plan (p d) d asked len (other d) (due u)).0))
    (called (writing_plan_is_due_plan (p one) one asked len (other one) (due unseen_of_mapped)).1)

-- At the end of a row, devices with equal settings give the same answer.
pub answer_same_in_equal_setting : (c d : Setting) (m : DeviceState) (asked : Option ℕ) (x : Answer) (count : ℕ) (out out' : List ℕ) → d ≡ c
    → AnswerInBuffer (λ y sent. IsRowEndAnswer d m asked y sent) x count out out' →
    AnswerInBuffer (λ y sent. IsRowEndAnswer c m asked y sent) x count out out'
answer_same_in_equal_setting c d m asked x count out out' same gives =
    subst (λ (k : Setting). AnswerInBuffer (λ y sent. IsRowEndAnswer k m asked y sent) x count out out') same gives

-- The conjunction of two true Bools is true.
conjunction_is_true : (p q : Bool) → p ≡ true → IsTrue q → IsTrue (p && q)
conjunction_is_true p q e t = grind (arith, common_steps)

module _ (a now : LentDevice) (flash : List ℕ) (rest : SameButModeAndBlock a now) (is : IsDevice a flash)
    (filled : IsTrue (is_filled now.mode (length now.block) (flash_store a flash))) where
  kept_parts_have_same_store : flash_store now flash ≡ flash_store a flash
  kept_parts_have_same_store = store_unchanged_by_mode_change a now flash rest

  -- A valid device remains valid if a call changes only its mode and its block, and the slot store holds the bytes that the new mode needs.
  pub kept_parts_are_device : IsDevice now flash
  kept_parts_are_device = record {
    store = subst IsStore (sym kept_parts_have_same_store) is.store;
    sound = subst (λ (s : SlotsState). IsTrue (are_device_parts now.mode (length now.block) s)) (sym kept_parts_have_same_store)
        (conjunction_is_true (is_shaped (flash_store a flash)) (is_filled now.mode (length now.block) (flash_store a flash))
        (store_has_shape
        is.store) filled);
    noted = notes_kept_for_flash;
  }
    where
      notes_kept_for_flash : IsNoteOfMedium now.noted (mapped_medium (grain_in now) flash)
      notes_kept_for_flash = subst (λ (m : MediumState). IsNoteOfMedium now.noted m) (sym (ap (λ (s : SlotsState). s.medium)
          kept_parts_have_same_store))
          (subst (λ (n : Noted). IsNoteOfMedium n (mapped_medium (grain_in a) flash)) (sym rest.noted) is.noted)

  -- After a call that changes only the mode and the block, the view of the device consists of the kept fields.
  device_has_kept_parts : (u : UnseenState) → device_with u now flash ≡ view_of_parts a.config
      (store_with_unseen u (flash_store a flash)) now.mode now.block
  device_has_kept_parts u = λ i. view_of_parts (rest.config i) (store_with_unseen u (kept_parts_have_same_store i)) now.mode now.block

  -- If no write is pending, a call that changes only the mode and the block is complete with its answer.
  pub call_with_kept_parts_is_complete : a.work ≡ None → (x : Answer) (count : ℕ) (out out' sent : List ℕ)
      (Row : DeviceView → Answer → List ℕ → DeviceView → Type 0) → count ≡ length sent → out' ≡ sent ++ drop count out
      → ((u : UnseenState) → Row (device_with u a flash) x sent
      (view_of_parts a.config (store_with_unseen u (flash_store a flash)) now.mode now.block))
      → CallCompleted flash x count out out' now (IsRowOnEveryMedium a flash Row now)
  call_with_kept_parts_is_complete none x count out out' sent Row count_is out_is row = record {
    gave = record {
      sent = sent;
      count_is = count_is;
      out_is = out_is;
      row = λ u. subst (λ (y : DeviceView). Row (device_with u a flash) x sent y) (sym (device_has_kept_parts u)) (row u);
    };
    work = rest.work ∙ none;
    is = kept_parts_are_device;
  }

-- If no write is pending, a call that sets the mode and the block is complete with its answer, and changes nothing else.
pub call_setting_mode_is_complete : (a : LentDevice) (m : DeviceState) (block flash : List ℕ) → IsDevice a flash
    → IsTrue (is_filled m (length block) (flash_store a flash)) → a.work ≡ None → (x : Answer) (count : ℕ) (out out' sent : List ℕ)
    (Row : DeviceView → Answer → List ℕ → DeviceView → Type 0) → count ≡ length sent → out' ≡ sent ++ drop count out
    → ((u : UnseenState) → Row (device_with u a flash) x sent (view_of_parts a.config (store_with_unseen u (flash_store a flash)) m block))
    → DeviceCalled a flash out Row (record a { mode = m; block = block }) out' (reply.Answered x count)
call_setting_mode_is_complete a m block flash is filled none x count out out' sent Row count_is out_is row =
    call_answered x count
    (call_with_kept_parts_is_complete a (record a { mode = m; block = block }) flash
    (record { config = refl; unit = refl; sector = refl; held = refl; end = refl; noted = refl; work = refl }) is filled none x count out
    out' sent Row count_is out_is row)

-- Equal pending writes have the same pieces.
pub piece_of_equal_work : (a : LentDevice) (x w : PendingWrites) (p : Step) → x ≡ w → IsStepPiece (steps_in a x) x.done p
    → IsStepPiece (steps_in a w) w.done p
piece_of_equal_work a x w p same piece = subst (λ (y : PendingWrites). IsStepPiece (steps_in a y) y.done p) same piece

-- Equal pending writes have the same next piece.
pub asked_piece_is_unique : (a : LentDevice) (w x : PendingWrites) (p q : Step) → x ≡ w → IsStepPiece (steps_in a x) x.done p
    → IsStepPiece (steps_in a w) w.done q → p ≡ q
asked_piece_is_unique a w x p q same first second = next_piece_is_unique (steps_in a w) w.done p q (piece_of_equal_work a x w p same first)
    second

-- The requested piece has as many bytes as the next piece that a search finds.
pub asked_piece_has_next_size : (a : LentDevice) (w x : PendingWrites) (p : Step) (flash : List ℕ) (n : ℕ) (there : Bool) → x ≡ w
    → IsStepPiece (steps_in a x) x.done p → IsNextPiece (steps_in a w) w.done flash n there → length p.write.bytes ≡ n
asked_piece_has_next_size a w x p flash n there same piece next =
    ap (λ (y : Step). length y.write.bytes) (asked_piece_is_unique a w x p next.piece same piece next.is) ∙ next.size

-- The steps of the pending writes contain exactly those writes.
pub work_steps_have_work_writes : (a : LentDevice) (w : PendingWrites) → step_writes (steps_in a w) ≡ writes_in a w
work_steps_have_work_writes a w = job_steps_are_writes w.job (grain_in a) a.put_end a.held a.block

-- Each piece of the pending writes is a part of one of these writes.
pub piece_is_part_of_work : (a : LentDevice) (w : PendingWrites) (p : Step) → IsStepPiece (steps_in a w) w.done p →
    IsPartOfWrites (writes_in a w) w.done p.write
piece_is_part_of_work a w p piece = subst (λ (ws : List Write). IsPartOfWrites ws w.done p.write) (work_steps_have_work_writes a w)
    (piece_is_part_of_writes (steps_in a w) w.done p piece)

-- If pending writes have a next piece, some of their bytes are not written yet.
pub work_with_piece_has_bytes_left : (a : LentDevice) (w : PendingWrites) (p : Step) → IsStepPiece (steps_in a w) w.done p →
    w.done < total (writes_in a w)
work_with_piece_has_bytes_left a w p piece = omega (
  arith,
  piece_ends_within_series (steps_in a w) w.done p piece,
  next_piece_has_bytes (steps_in a w) w.done p piece,
  ap total (work_steps_have_work_writes a w),
)

-- If all bytes of the steps are written, all bytes of the pending writes are written.
pub no_bytes_left : (a : LentDevice) (w : PendingWrites) → total (step_writes (steps_in a w)) ≤ w.done → total (writes_in a w) ≤ w.done
no_bytes_left a w le = omega (arith, ap total (work_steps_have_work_writes a w), le)

-- The report of a piece is accepted if a piece is pending and the buffer has room for a 6-byte status.
pub report_of_piece_is_accepted : (a : LentDevice) (w : PendingWrites) (p : Step) (room : ℕ) → 6 ≤ room → a.work ≡ Some w
    → IsStepPiece (steps_in a w) w.done p
    → ReportAccepted a room
report_of_piece_is_accepted a w p room fits is piece =
    record { fits = fits; work = w; is_left = record { work_is = is; left = work_with_piece_has_bytes_left a w p piece } }

module _ (a : LentDevice) (len : ℕ) (s : SlotsState) (was before : List ℕ) (asks : WritesPending a len s was before) (p : Step)
    (piece : IsStepPiece (steps_in a asks.work) asks.work.done p) (flash : List ℕ) (torn : Torn before p.write.at p.write.bytes flash) where
  -- While a piece is written, the flash differs from the medium after the earlier pieces only in the range of that piece.
  piece_tears_flash : Torn (bytes_after_writes was (writes_in a asks.work) asks.work.done) p.write.at p.write.bytes flash
  piece_tears_flash = subst (λ (l : List ℕ). Torn l p.write.at p.write.bytes flash) asks.flash_is torn

  -- The fault of a piece breaks off its row, whichever bytes the piece left in its range.
  pub failed_piece_ends_row : (fault : WriteFault) (now : LentDevice) (asked : Option ℕ) (x : Answer) (count : ℕ) (out out' : List ℕ)
      → asks.work.asked ≡ asked → IsKeptAfterFault fault a now → NoteAfterRow a.mode flash a now
      → AnswerInBuffer (λ y sent. IsRowEndAnswer a.config now.mode asked y sent) x count out out'
      → CallCompleted flash x count out out' now (λ y sent. DueRowFails fault len (device_of a s) y sent (device_in now flash))
  failed_piece_ends_row fault now asked x count out out' same off notes gives =
      broken_writes_end_row a now asks.work len s was flash asks.working notes x count out out' fault
      (torn_piece_breaks_series (grain_in a) fault (writes_in a asks.work) was flash asks.work.done p.write
      (work_writes_within_flash a asks.work len s was asks.working)
      (piece_is_part_of_work a asks.work p piece) piece_tears_flash) off
      (subst (λ (y : Option ℕ). AnswerInBuffer (λ z sent. IsRowEndAnswer a.config now.mode y z sent) x count out out') (sym same) gives)

  -- If the flash contains the bytes of the piece, the series has advanced by this piece.
  pub stored_piece_advances_series : p.write.at + length p.write.bytes ≤ length flash
      → slice_range flash p.write.at (p.write.at + length p.write.bytes) ≡ p.write.bytes
      → flash ≡ bytes_after_writes was (writes_in a asks.work) (asks.work.done + length p.write.bytes)
  stored_piece_advances_series fits stands =
      let old = bytes_after_writes was (writes_in a asks.work) asks.work.done in
      let lied : FailedWrite NotVerified (mapped_medium (grain_in a) old) p.write.at p.write.bytes (mapped_medium (grain_in a) flash) =
      record { bytes = piece_tears_flash; failures = omega arith; fuse = refl; grain = refl; tag = refl } in
      (write_worked {old = mapped_medium (grain_in a) old} {at = p.write.at} {new = p.write.bytes} {now = mapped_medium (grain_in a) flash}
      (omega (arith, fits, piece_tears_flash.size)) (inr lied) stands).bytes
      ∙ sym (written_piece_carries_series (writes_in a asks.work) was asks.work.done p.write (work_writes_within_flash a asks.work len s
      was asks.working)
      (piece_is_part_of_work a asks.work p piece))
