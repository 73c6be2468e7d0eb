-- Lemmas about the record of a device directly after power-on.
use Rattle.std.proofs.Common.{◌≡◌, ◌⊎◌, inl, inr, Bool, ℕ, ℤ, List, [], pos, None, refl, sym, ap, ◌∙◌, subst, arith}
use Rattle.dfu_slots.specs.StoreView.{store_on}
use Rattle.dfu_slots.specs.Store.{IsStore}
use Rattle.dfu_slots.specs.Image.{HasImage}
use Rattle.dfu_slots.proofs.VisibleStores.{medium_makes_fresh_store}
use Rattle.dfu_device.specs.declared.device_state.DeviceState.{DeviceState}
use Rattle.dfu_device.specs.declared.device_state.DeviceState.TheVariants as device_state
use Rattle.dfu_device.specs.Setting.{Setting}
use Rattle.dfu_device.specs.DeviceView.{DeviceView}
use Rattle.dfu_device.specs.Parts.{stage_of}
use Rattle.dfu_slots.specs.declared.layout.Unit.{Unit as WriteUnit}
use Rattle.dfu_asks.specs.declared.sector.Sector.{Sector}
use Rattle.dfu_asks.specs.declared.asking.Asking.{Asking}
use Rattle.dfu_asks.specs.declared.noted.Noted.{Noted}
use Rattle.dfu_asks.specs.Noted.{IsNoteOfMedium}
use Rattle.dfu_asks.specs.Mapped.{grain_of, mapped_medium}
use Rattle.dfu_asks.proofs.Working.{idle_store_is_sound}
use Rattle.dfu_core.specs.declared.config.DfuConfig.{DfuConfig}
use Rattle.dfu_core.specs.declared.record.DfuRecord.{DfuRecord}
use Rattle.dfu_core.specs.Config.{IsConfig}
use Rattle.dfu_core.specs.Mode.{blank_record}
use Rattle.dfu_core.specs.RecordMeaning.{HasNoteNumbers, AreConfigParts}
use Rattle.dfu_core.specs.Power.{PowerOutcome, RefusesPower}
use Rattle.dfu_core.specs.Board.{CoreRestart, core_board}
use Rattle.dfu_core.specs.Happens.{start_mode, CoreEventOutcome, IsCorePoweredOn}

-- Device at power-on that a new record represents.
abbrev device_at_power_on : Setting → WriteUnit → Sector → DeviceState → Noted → Asking
device_at_power_on config unit sector m noted = record {
  config = config;
  unit = unit;
  sector = sector;
  mode = m;
  block_len = 0;
  held_len = 0;
  put_end = 0;
  noted = noted;
  work = None;
  short = omega arith;
  few = omega arith;
}

-- The blank record with the noted slot and header represents a device directly after power-on in appIDLE.
pub blank_record_powers_on : (c : DfuConfig) (flash : List ℕ) (config : Setting) (unit : WriteUnit) (sector : Sector) (noted : Noted)
    (r' : DfuRecord)
    → IsConfig c → AreConfigParts c config unit sector → IsNoteOfMedium noted (mapped_medium (grain_of unit sector) flash)
    → HasImage (mapped_medium (grain_of unit sector) flash) → HasNoteNumbers r' noted
    → r' ≡ record blank_record { mode = 0; slot = r'.slot; header = r'.header } → PowerOutcome c device_state.AppIdle flash (pos 0) r'
blank_record_powers_on c flash config unit sector noted r' allowed set_up is_noted image notes rest =
    let m = mapped_medium (grain_of unit sector) flash in
    let store : IsStore (store_on m) = (medium_makes_fresh_store image refl refl).store in
    record {
      number_is = refl;
      config = allowed;
      after = device_at_power_on config unit sector device_state.AppIdle noted;
      is = record {
        set_up = set_up;
        mode = record { version_is = ap (λ (x : DfuRecord). x.version) rest; numbers = ap (λ (x : DfuRecord). x.mode) rest };
        block = sym (ap (λ (x : DfuRecord). x.length) rest);
        held = sym (ap (λ (x : DfuRecord). x.held_length) rest);
        end = sym (ap (λ (x : DfuRecord). x.put_end) rest);
        noted = notes;
        work = ap (λ (x : DfuRecord). x.work) rest;
      };
      mode_is = refl;
      work = refl;
      device = λ block. record { store = store; sound = idle_store_is_sound (store_on m) store; noted = is_noted };
      shows = λ block i. record {
        config = set_up.config_is i;
        slots = store_on (mapped_medium (record { unit = set_up.unit_is i; sector = set_up.sector_is i }) flash);
        stage = stage_of device_state.AppIdle [] [];
      };
      rest = rest ∙ ap (λ (n : ℕ). record blank_record { mode = n; slot = r'.slot; header = r'.header })
          (sym (ap (λ (x : DfuRecord). x.mode) rest));
    }

-- If the mode number in the record of a device after power-on is set to 2, the record represents the device in dfuIDLE.
pub powered_record_begins_in_dfu_idle : (c : DfuConfig) (flash : List ℕ) (r : DfuRecord) →
    PowerOutcome c device_state.AppIdle flash (pos 0) r
    → PowerOutcome c device_state.DfuIdle flash (pos 0) (record r { mode = 2 })
powered_record_begins_in_dfu_idle c flash r got = record {
  number_is = refl;
  config = got.config;
  after = record got.after { mode = device_state.DfuIdle };
  is = record {
    set_up = got.is.set_up;
    mode = record { version_is = got.is.mode.version_is; numbers = refl };
    block = got.is.block;
    held = got.is.held;
    end = got.is.end;
    noted = record { second = got.is.noted.second; header = got.is.noted.header };
    work = got.is.work;
  };
  mode_is = refl;
  work = got.work;
  device = λ block. record {
    store = (got.device block).store;
    sound = idle_store_is_sound _ (got.device block).store;
    noted = (got.device block).noted;
  };
  shows = λ block. ap (λ (d : DeviceView). record d { stage = stage_of device_state.DfuIdle [] [] }) (got.shows block);
  rest = ap (λ (x : DfuRecord). record x { mode = 2 }) got.rest;
}

-- If a power-on returns 0, it was not refused.
zero_means_power_on : (c : DfuConfig) (m : DeviceState) (flash : List ℕ) (n : ℤ) (r r' : DfuRecord) → n ≡ pos 0
    → PowerOutcome c m flash n r' ⊎ (RefusesPower c flash n × (r' ≡ r)) → PowerOutcome c m flash (pos 0) r'
zero_means_power_on c m flash n r r' zero (inl served) = subst (λ (x : ℤ). PowerOutcome c m flash x r') zero served
zero_means_power_on c m flash n r r' zero (inr (inl (is, bad), same)) = absurd (cc)
zero_means_power_on c m flash n r r' zero (inr (inr (is, config, none), same)) = absurd (cc)

-- A call powers a device on, or is refused, and returns n. If n is 0, the call is a step of a board in C, and the board was just powered
-- on.
pub record IsCoreRestartCall (c : DfuConfig) (in_dfu_mode : Bool) (flash : List ℕ) (n : ℤ) (r r' : DfuRecord) : Type
    0 where
  pub outcome : PowerOutcome c (start_mode in_dfu_mode) flash n r' ⊎ (RefusesPower c flash n × (r' ≡ r))
  pub step : n ≡ pos 0 → (kept : DfuRecord) (before block : List ℕ)
      → CoreEventOutcome (core_board c kept before flash) (CoreRestart in_dfu_mode) n [] (core_board c r' block flash)
  pub on : n ≡ pos 0 → (block : List ℕ) → IsCorePoweredOn (core_board c r' block flash)

-- A call that returns the number of a power-on or of its refusal satisfies IsCoreRestartCall.
pub power_number_is_restart_call : (c : DfuConfig) (in_dfu_mode : Bool) (flash : List ℕ) (n m : ℤ) (r r' : DfuRecord)
    → n ≡ m
    → PowerOutcome c (start_mode in_dfu_mode) flash m r' ⊎ (RefusesPower c flash m × (r' ≡ r)) →
    IsCoreRestartCall c in_dfu_mode flash n r r'
power_number_is_restart_call c in_dfu_mode flash n m r r' same outcome =
    let powered : n ≡ pos 0 → PowerOutcome c (start_mode in_dfu_mode) flash (pos 0) r' =
    λ zero. zero_means_power_on c (start_mode in_dfu_mode) flash m r r' (sym same ∙ zero) outcome in
    record {
      outcome = subst (λ (x : ℤ). PowerOutcome c (start_mode in_dfu_mode) flash x r' ⊎ (RefusesPower c flash x
          × (r' ≡ r))) (sym same) outcome;
      step = λ zero kept before block. (
        record { config = refl; flash = refl },
        subst (λ (x : ℤ). PowerOutcome c (start_mode in_dfu_mode) flash x r') (sym zero) (powered
            zero),
      );
      on = λ zero block. record { begins = in_dfu_mode; powers = powered zero };
    }
