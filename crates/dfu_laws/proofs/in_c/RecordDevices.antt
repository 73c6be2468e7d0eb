-- A record represents at most one device.
use Rattle.std.specs.Prelude.{◌≡◌, ◌==◌, ◌%◌, ◌^◌, ◌≤◌, ℕ, Bool, true, false, Option, Some, None, if◌then◌else◌}
use Rattle.std.proofs.Common.{refl, sym, ap, ◌∙◌, arith}
use Rattle.std.specs.Coded.{le_prop}
use Rattle.std.proofs.Math.Path.{to_path_p}
use Rattle.std.proofs.Math.Nat.{ℕ_set}
use Rattle.dfu_wire.specs.declared.codes.Code.{Code}
use Rattle.dfu_wire.specs.declared.codes.Code.TheVariants as code
use Rattle.dfu_wire.specs.Code.{code_byte}
use Rattle.dfu_device.specs.declared.device_state.DeviceState.{DeviceState}
use Rattle.dfu_device.specs.declared.device_state.DeviceState.TheVariants as device_state
use Rattle.dfu_asks.specs.declared.pending_writes.SlotWrite.{SlotWrite}
use Rattle.dfu_asks.specs.declared.pending_writes.SlotWrite.TheVariants as slot_write
use Rattle.dfu_asks.specs.declared.pending_writes.PendingWrites.{PendingWrites}
use Rattle.dfu_asks.specs.declared.sector.Sector.{Sector}
use Rattle.dfu_asks.specs.declared.asking.Asking.{Asking}
use Rattle.dfu_asks.specs.Lent.{SameConfig}
use Rattle.dfu_core.specs.declared.config.DfuConfig.{DfuConfig}
use Rattle.dfu_core.specs.declared.record.DfuRecord.{DfuRecord}
use Rattle.dfu_core.specs.Mode.{HasModeNumbers, HasMode}
use Rattle.dfu_core.specs.RecordMeaning.{IsFlagNumber, HasJobNumbers, IsPendingLengthNumber, HasWorkNumbers, IsRecordOf}

-- Status code of a number, which is the code's bStatus.
code_of_number : ℕ → Code
code_of_number n = if n == 0 then code.Ok else if n == 1 then code.Target else if n == 2 then code.File else if n == 3 then code.Write
    else if n == 4 then code.Erase else if n == 5 then code.CheckErased else if n == 6 then code.Prog else if n == 7 then code.Verify
    else if n == 8 then code.Address else if n == 9 then code.NotDone else if n == 10 then code.Firmware else if n == 11 then code.Vendor
    else if n == 12 then code.Usbr else if n == 13 then code.Por else if n == 14 then code.Unknown else code.StalledPkt

code_of_its_byte : (x : Code) → code_of_number (code_byte x) ≡ x
unfolding code_of_number
code_of_its_byte code.Ok = refl
code_of_its_byte x = refl

-- Mode that the numbers of a record encode.
mode_of_numbers : (n first second number : ℕ) → DeviceState
mode_of_numbers n first second number =
    if n == 0 then device_state.AppIdle
    else if n == 1 then device_state.AppDetach first second
    else if n == 2 then device_state.DfuIdle
    else if n == 3 then device_state.DownloadSync first number
    else if n == 4 then device_state.DownloadSyncWritten first number
    else if n == 5 then device_state.DownloadBusy first number second
    else if n == 6 then device_state.DownloadIdle first number
    else if n == 7 then device_state.ManifestSync first
    else if n == 8 then device_state.ManifestSyncComplete
    else if n == 9 then device_state.Manifest first second
    else if n == 10 then device_state.ManifestWaitReset
    else if n == 11 then device_state.UploadIdle first number
    else device_state.Error (code_of_number number)

mode_of_its_numbers : (r : DfuRecord) (m : DeviceState) → HasModeNumbers r m → m ≡ mode_of_numbers r.mode r.first r.second r.number
unfolding mode_of_numbers
mode_of_its_numbers r device_state.AppIdle h = λ i. mode_of_numbers (sym h i) r.first r.second r.number
mode_of_its_numbers r (device_state.AppDetach timer passed) h = λ i. mode_of_numbers (sym h.0 i) (h.1 i) (h.2 i) r.number
mode_of_its_numbers r device_state.DfuIdle h = λ i. mode_of_numbers (sym h i) r.first r.second r.number
mode_of_its_numbers r (device_state.DownloadSync written number) h = λ i. mode_of_numbers (sym h.0 i) (h.1 i) r.second (h.2 i)
mode_of_its_numbers r (device_state.DownloadSyncWritten written number) h = λ i. mode_of_numbers (sym h.0 i) (h.1 i) r.second (h.2 i)
mode_of_its_numbers r (device_state.DownloadBusy written number passed) h = λ i. mode_of_numbers (sym h.0 i) (h.1 i) (h.3 i) (h.2 i)
mode_of_its_numbers r (device_state.DownloadIdle written number) h = λ i. mode_of_numbers (sym h.0 i) (h.1 i) r.second (h.2 i)
mode_of_its_numbers r (device_state.ManifestSync written) h = λ i. mode_of_numbers (sym h.0 i) (h.1 i) r.second r.number
mode_of_its_numbers r device_state.ManifestSyncComplete h = λ i. mode_of_numbers (sym h i) r.first r.second r.number
mode_of_its_numbers r (device_state.Manifest written passed) h = λ i. mode_of_numbers (sym h.0 i) (h.1 i) (h.2 i) r.number
mode_of_its_numbers r device_state.ManifestWaitReset h = λ i. mode_of_numbers (sym h i) r.first r.second r.number
mode_of_its_numbers r (device_state.UploadIdle place number) h = λ i. mode_of_numbers (sym h.0 i) (h.1 i) r.second (h.2 i)
mode_of_its_numbers r (device_state.Error x) h =
    ap (λ (y : Code). device_state.Error y) (sym (code_of_its_byte x)) ∙ (λ i. mode_of_numbers (sym h.0 i) r.first r.second (h.1 i))

-- A record has at most one mode.
pub record_has_one_mode : (r : DfuRecord) (m m' : DeviceState) → HasMode r m → HasMode r m' → m ≡ m'
record_has_one_mode r m m' h k = mode_of_its_numbers r m h.numbers ∙ sym (mode_of_its_numbers r m' k.numbers)

flag_of_its_number : (b : Bool) (n : ℕ) → IsFlagNumber b n → b ≡ (n == 1)
flag_of_its_number true n h = λ i. sym h i == 1
flag_of_its_number false n h = λ i. sym h i == 1

number_is_one_flag : (b c : Bool) (n : ℕ) → IsFlagNumber b n → IsFlagNumber c n → b ≡ c
number_is_one_flag b c n x y = flag_of_its_number b n x ∙ sym (flag_of_its_number c n y)

number_is_one_asked_length : (n : ℕ) (x y : Option ℕ) → IsPendingLengthNumber n x → IsPendingLengthNumber n y → x ≡ y
number_is_one_asked_length n None None h k = refl
number_is_one_asked_length n None (Some y) h k = absurd (omega (arith, h, k.0))
number_is_one_asked_length n (Some x) None h k = absurd (omega (arith, h.0, k))
number_is_one_asked_length n (Some x) (Some y) h k = let same : x ≡ y = omega (arith, h.0, k.0) in ap (λ (z : ℕ). Some z) same

record_has_one_job : (r : DfuRecord) (x y : SlotWrite) → HasJobNumbers r x → HasJobNumbers r y → x ≡ y
record_has_one_job r (slot_write.Block spare close) (slot_write.Block spare' close') h k =
    λ i. slot_write.Block ((h.1 ∙ sym k.1) i) (number_is_one_flag close close' r.close h.2 k.2 i)
record_has_one_job r (slot_write.Block spare close) (slot_write.Commit spare' generation register) h k = absurd (omega (arith, h.0, k.0))
record_has_one_job r (slot_write.Commit spare generation register) (slot_write.Block spare' close') h k = absurd (omega (arith, h.0, k.0))
record_has_one_job r (slot_write.Commit spare generation register) (slot_write.Commit spare' generation' register') h k =
    λ i. slot_write.Commit ((h.1 ∙ sym k.1) i) ((h.2 ∙ sym k.2) i) ((h.3 ∙ sym k.3) i)

-- The number of a pending job is not 0.
job_number_is_not_zero : (r : DfuRecord) (j : SlotWrite) → HasJobNumbers r j → r.work ≡ 0 → ⊥
job_number_is_not_zero r (slot_write.Block spare close) h is = omega (arith, is, h.0)
job_number_is_not_zero r (slot_write.Commit spare generation register) h is = omega (arith, is, h.0)

pub record_has_one_work : (r : DfuRecord) (x y : Option PendingWrites) → HasWorkNumbers r x → HasWorkNumbers r y → x ≡ y
record_has_one_work r None None h k = refl
record_has_one_work r None (Some w) h k = absurd (job_number_is_not_zero r w.job k.0 h)
record_has_one_work r (Some w) None h k = absurd (job_number_is_not_zero r w.job h.0 k)
record_has_one_work r (Some w) (Some v) h k = λ i. Some (record {
  job = record_has_one_job r w.job v.job h.0 k.0 i;
  asked = number_is_one_asked_length r.asked w.asked v.asked h.1 k.1 i;
  done = (h.2 ∙ sym k.2) i;
})

-- If the work number of a record is 0, the device has no pending writes.
pub work_number_0_is_no_work : (r : DfuRecord) (x : Option PendingWrites) → HasWorkNumbers r x → r.work ≡ 0 → x ≡ None
work_number_0_is_no_work r x h is = record_has_one_work r x None h is

-- Two sectors of the same size are equal.
pub sector_of_size_is_one : (s t : Sector) → s.size ≡ t.size → s ≡ t
sector_of_size_is_one s t is = λ i. record {
  size = is i;
  pages = to_path_p (λ k. is k % 256 ≡ 0) (ℕ_set (t.size % 256) 0 (coe 0 1 (k. is k % 256 ≡ 0) s.pages) t.pages) i;
  most = to_path_p (λ k. is k ≤ 2 ^ 18) (le_prop (coe 0 1 (k. is k ≤ 2 ^ 18) s.most) t.most) i;
}

-- If two records belong to the same configuration in C, their devices have equal settings, write units and sectors.
pub same_config_same_setup : (c : DfuConfig) (r r' : DfuRecord) (a a' : Asking) → IsRecordOf c r a → IsRecordOf c r' a' → SameConfig a a'
same_config_same_setup c r r' a a' h k = record {
  config = k.set_up.config_is ∙ sym h.set_up.config_is;
  unit = k.set_up.unit_is ∙ sym h.set_up.unit_is;
  sector = sector_of_size_is_one a'.sector a.sector (k.set_up.sector_is ∙ sym h.set_up.sector_is);
}

-- If one record represents two devices, the two devices are equal.
pub record_is_one_device : (c : DfuConfig) (r : DfuRecord) (a a' : Asking) → IsRecordOf c r a → IsRecordOf c r a' → a ≡ a'
record_is_one_device c r a a' h k =
    let same = same_config_same_setup c r r a' a k h in
    let blocks : a.block_len ≡ a'.block_len = h.block ∙ sym k.block in
    let holds : a.held_len ≡ a'.held_len = h.held ∙ sym k.held in
    λ i. record {
      config = same.config i;
      unit = same.unit i;
      sector = same.sector i;
      mode = record_has_one_mode r a.mode a'.mode h.mode k.mode i;
      block_len = blocks i;
      held_len = holds i;
      put_end = (h.end ∙ sym k.end) i;
      noted = record {
        second = number_is_one_flag a.noted.second a'.noted.second r.slot h.noted.second k.noted.second i;
        header = (h.noted.header ∙ sym k.noted.header) i;
      };
      work = record_has_one_work r a.work a'.work h.work k.work i;
      short = to_path_p (λ k. blocks k ≤ 4096) (le_prop (coe 0 1 (k. blocks k ≤ 4096) a.short) a'.short) i;
      few = to_path_p (λ k. holds k ≤ 256) (le_prop (coe 0 1 (k. holds k ≤ 256) a.few) a'.few) i;
    }
