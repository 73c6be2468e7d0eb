-- Results about a record hold for the device that the record represents.
use Rattle.std.proofs.Common.{◌≡◌, ◌⊎◌, inl, inr, min, Bool, true, false, ℕ, ℤ, pos, List, sym, ◌∙◌, refl, subst, length, arith}
use Rattle.dfu_slots.specs.declared.layout.Unit.{Unit as WriteUnit}
use Rattle.dfu_slots.specs.StoreView.{spare_of}
use Rattle.dfu_device.specs.declared.device_state.DeviceState.{DeviceState}
use Rattle.dfu_device.specs.DeviceView.{DeviceView}
use Rattle.dfu_device.specs.Setting.{Setting}
use Rattle.dfu_asks.specs.declared.asking.Asking.{Asking}
use Rattle.dfu_asks.specs.declared.sector.Sector.{Sector}
use Rattle.dfu_asks.specs.Asks.{grain_in, flash_store, device_in, IsDevice}
use Rattle.dfu_asks.specs.InMode.{IsDeviceIn}
use Rattle.dfu_asks.specs.Lent.{LentDevice}
use Rattle.dfu_asks.specs.Mapped.{grain_of}
use Rattle.dfu_asks.specs.Times.{due_of, ChangesOnceDue}
use Rattle.dfu_asks.proofs.DueTimes.{each_mode_changes_when_due}
use Rattle.dfu_core.specs.declared.config.DfuConfig.{DfuConfig}
use Rattle.dfu_core.specs.declared.record.DfuRecord.{DfuRecord}
use Rattle.dfu_core.specs.Due.{LONGEST_DUE, DueResult}
use Rattle.dfu_core.specs.RecordMeaning.{IsRecordOf, AreConfigParts, with_memory, block_in_memory}
use Rattle.dfu_core.specs.Mode.{HasMode}
use Rattle.dfu_core.specs.Numbers.{yes_no_number}
use Rattle.std.proofs.lemmas.List.{length-take}
use Rattle.dfu_device.specs.Decision.{HasTimeInputs}
use Rattle.dfu_device.proofs.PlanRows.{parts_have_time_inputs}

-- The number of a Bool is 0 or 1.
pub yes_no_number_is_0_or_1 : (said : Bool) (n : ℤ) → n ≡ yes_no_number said → (n ≡ pos 0) ⊎ (n ≡ pos 1)
yes_no_number_is_0_or_1 true n is = inr is
yes_no_number_is_0_or_1 false n is = inl is

module _ (c : DfuConfig) (r : DfuRecord) {config : Setting} {unit : WriteUnit} {sector : Sector} (m : DeviceState)
    (set_up : AreConfigParts c config unit sector) (the_mode : (x : DeviceState) → HasMode r x → m ≡ x) (block flash : List ℕ) (a : Asking)
    (kept : IsRecordOf c r a) where
  -- The record's device has these settings and this mode.
  pub record_device_is_in_mode : IsDevice (with_memory block a) flash → IsDeviceIn config m (with_memory block a) flash
  record_device_is_in_mode device = record {
    config_is = kept.set_up.config_is ∙ sym set_up.config_is;
    mode_is = sym (the_mode a.mode kept.mode);
    device = device;
  }

  -- The record's device writes its flash in this unit and these sectors.
  pub record_device_has_grain : grain_in (with_memory block a) ≡ grain_of unit sector
  record_device_has_grain = λ i. record {
    unit = (kept.set_up.unit_is ∙ sym set_up.unit_is) i;
    sector = (kept.set_up.sector_is ∙ sym set_up.sector_is) i;
  }

-- If the result is the due time of the record's mode, limited to LONGEST_DUE, the state of the record's device changes after that time.
pub record_changes_when_due : (c : DfuConfig) (r : DfuRecord) {config : Setting} {unit : WriteUnit} {sector : Sector} (m : DeviceState)
    (result : ℤ)
    → AreConfigParts c config unit sector → ((x : DeviceState) → HasMode r x → m ≡ x)
    → result ≡ pos (min LONGEST_DUE (due_of config m r.length))
    → DueResult c r result
record_changes_when_due c r {config = config} m result set_up the_mode says = record {
  due = due_of config m r.length;
  number_is = says;
  told = λ memory flash a kept on ms d' went.
      let l : LentDevice = with_memory memory a in
      let d : DeviceView = device_in l flash in
      let s = flash_store l flash in
      let in_mode : IsDeviceIn config m l flash = record_device_is_in_mode c r m set_up the_mode memory flash a kept on.is in
      let whole : length l.block ≡ a.block_len = omega (arith, length-take a.block_len (block_in_memory a memory), on.fits.block) in
      subst (λ (k : ℕ). ChangesOnceDue k ms d d') (λ i. due_of (in_mode.config_is i) (in_mode.mode_is i) (kept.block i))
      (each_mode_changes_when_due ms d d' l.mode a.block_len (spare_of s) l.block
      (subst (λ (n : ℕ). HasTimeInputs l.mode n (spare_of s) l.block) whole (parts_have_time_inputs l.mode l.block s on.is.sound)) refl
      went);
}
