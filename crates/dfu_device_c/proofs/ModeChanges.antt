-- Lemmas about records in which only the mode changed: each represents the same device in another mode.
use Rattle.std.proofs.Common.{◌≡◌, IsTrue, Option, Some, None, ℕ, List, [], length, refl, sym, ap, ◌∙◌, subst, arith}
use Rattle.dfu_device.specs.declared.answer.Answer.{Answer}
use Rattle.dfu_device.specs.declared.device_state.DeviceState.{DeviceState}
use Rattle.dfu_device.specs.Parts.{is_filled}
use Rattle.dfu_device.specs.Rows.{Cause, Row}
use Rattle.dfu_asks.specs.declared.asking.Asking.{Asking}
use Rattle.dfu_asks.specs.declared.pending_writes.PendingWrites.{PendingWrites}
use Rattle.dfu_asks.specs.declared.pending_writes.SlotWrite.{SlotWrite}
use Rattle.dfu_asks.specs.declared.pending_writes.SlotWrite.TheVariants as slot_write
use Rattle.dfu_asks.specs.Lent.{LentDevice}
use Rattle.dfu_asks.specs.Asks.{flash_store, device_in, IsDevice}
use Rattle.dfu_asks.proofs.Refuses.{filled_mode_may_be_entered}
use Rattle.dfu_core.specs.declared.config.DfuConfig.{DfuConfig}
use Rattle.dfu_core.specs.declared.record.DfuRecord.{DfuRecord}
use Rattle.dfu_core.specs.Config.{config_setting}
use Rattle.dfu_core.specs.Mode.{HasMode}
use Rattle.dfu_core.specs.RecordMeaning.{IsFlagNumber, HasJobNumbers, HasWorkNumbers, IsRecordOf, with_memory}
use Rattle.dfu_core.specs.Refuse.{RecordTakesRow}

-- If `work` of a record is 0, its device has no pending writes.
pub zero_work_has_no_writes : (r : DfuRecord) (w : Option PendingWrites) → r.work ≡ 0 → HasWorkNumbers r w → w ≡ None
zero_work_has_no_writes r None is has = refl
zero_work_has_no_writes r (Some w) is has = absurd (no_job_has_number_zero r w.job is has.0)
  where
    no_job_has_number_zero : (r : DfuRecord) (j : SlotWrite) → r.work ≡ 0 → HasJobNumbers r j → ⊥
    no_job_has_number_zero r (slot_write.Block spare close) is has = omega (arith, is, has.0)
    no_job_has_number_zero r (slot_write.Commit spare generation register) is has = omega (arith, is, has.0)

module _ (c : DfuConfig) (r r' : DfuRecord) (m m' : DeviceState) (the_mode : (x : DeviceState) → HasMode r x → m ≡ x) (idle : r.work ≡ 0)
    (moved : HasMode r' m') (rest : r' ≡ record r {
      version = r'.version;
      mode = r'.mode;
      first = r'.first;
      second = r'.second;
      number = r'.number;
    }) where
  -- If no writes are pending, changing only the version, the mode and its values keeps the work of a record.
  moved_record_keeps_work : (a : Asking) → IsRecordOf c r a → HasWorkNumbers r' a.work
  moved_record_keeps_work a kept =
      subst (λ (w : Option PendingWrites). HasWorkNumbers r' w) (sym (zero_work_has_no_writes r a.work idle kept.work))
      (ap (λ (x : DfuRecord). x.work) rest ∙ idle)

  -- If no writes are pending, and only the version, the mode and its values of a record change, the record represents the same device in
  -- the new mode.
  pub moved_record_is_device : (a : Asking) → IsRecordOf c r a → IsRecordOf c r' (record a { mode = m' })
  moved_record_is_device a kept = record {
    set_up = kept.set_up;
    mode = moved;
    block = kept.block ∙ sym (ap (λ (x : DfuRecord). x.length) rest);
    held = kept.held ∙ sym (ap (λ (x : DfuRecord). x.held_length) rest);
    end = kept.end ∙ sym (ap (λ (x : DfuRecord). x.put_end) rest);
    noted = record {
      second = subst (λ (n : ℕ). IsFlagNumber a.noted.second n) (sym (ap (λ (x : DfuRecord). x.slot) rest)) kept.noted.second;
      header = kept.noted.header ∙ sym (ap (λ (x : DfuRecord). x.header) rest);
    };
    work = moved_record_keeps_work a kept;
  }

  -- For each flash the row of the cause leads a device in the record's mode to the new mode, with this answer, and the slot store agrees
  -- with the new mode.
  abbrev RowLeadsToMode : Cause → Answer → Type 0
  RowLeadsToMode cause x = (l : LentDevice) (flash : List ℕ) → l.config ≡ config_setting c → m ≡ l.mode → IsDevice l flash
      → IsTrue (is_filled m' (length l.block) (flash_store l flash))
      × Row (device_in l flash) cause x [] (device_in (record l { mode = m' }) flash)

  -- If RowLeadsToMode holds for a cause and an answer, RecordTakesRow holds for the record with the new mode.
  pub record_takes_cause_row : (cause : Cause) (x : Answer) → RowLeadsToMode cause x → RecordTakesRow c r cause x r'
  record_takes_cause_row cause x leads a kept = (
    record a { mode = m' },
    moved_record_is_device a kept,
    zero_work_has_no_writes r a.work idle kept.work,
    refl,
    λ block flash device.
        let l : LentDevice = with_memory block a in
        let led = leads l flash kept.set_up.config_is (the_mode a.mode kept.mode) device in (
          filled_mode_may_be_entered l m' flash device led.0,
          led.1,
        ),
  )
