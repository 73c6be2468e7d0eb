-- Lemmas about the memory of a block, split at the transfer size into a front and a held tail, and about calls on both parts.
use Rattle.std.specs.Prelude.{Result, Ok, IfOk, OnOk}
use Rattle.std.proofs.Common.{◌≡◌, ◌≤◌, ℕ, ℤ, List, ◌++◌, length, take, drop, inr, sym, ◌∙◌, ap, subst, arith}
use Rattle.std.proofs.lemmas.List.{length-append, take-append-drop}
use Rattle.std.proofs.lemmas.Result.{IfOk-at_ok}
use Rattle.std.proofs.Math.Seq.{take-append_seam, drop-append_seam}
use Rattle.dfu_slots.specs.Units.{unit_size}
use Rattle.dfu_device.specs.Setting.{Setting}
use Rattle.dfu_asks.specs.declared.asking.Asking.{Asking}
use Rattle.dfu_asks.specs.declared.sector.Sector.{Sector}
use Rattle.dfu_asks.specs.Lent.{LentDevice, lent, HasRoom, SameConfig}
use Rattle.dfu_asks.specs.Refused.{RoomForBlocks, IsDeviceOn, IsRefusedCall as IsRefusedFor}
use Rattle.dfu_asks.specs.declared.reply.Refusal.{Refusal as Why}
use Rattle.dfu_core.specs.declared.config.DfuConfig.{DfuConfig}
use Rattle.dfu_core.specs.declared.record.DfuRecord.{DfuRecord}
use Rattle.dfu_core.specs.declared.numbers.CoreRefusal.{CoreRefusal}
use Rattle.dfu_core.specs.Config.{transfer_of, block_memory_size, IsConfig}
use Rattle.dfu_core.specs.RecordMeaning.{IsRecordOf, AreConfigParts, block_in_memory, held_memory, with_memory}
use Rattle.dfu_core.specs.Calls.{RecordAfterCall, CoreRefuses, IsIntactBlock, IsCallRefused}
use Rattle.dfu_core.specs.Numbers.{core_refusal_of, refusal_number}
use Rattle.dfu_device_c.proofs.CallRefusals.{asks_refusal_is_cause}

-- `front` and `held` are the two parts of the block's memory.
pub record IsSplit (a : Asking) (memory front held : List ℕ) : Type 0 where
  pub front_is : block_in_memory a memory ≡ front
  pub held_is : held_memory a memory ≡ held

memory_of_two_parts_is_split : (a : Asking) (memory front held : List ℕ) → memory ≡ front ++ held → length front
    ≡ a.config.functional.transfer
    → IsSplit a memory front held
memory_of_two_parts_is_split a memory front held is size = record {
  front_is = (λ i. take (sym size i) (is i)) ∙ take-append_seam front held;
  held_is = (λ i. drop (sym size i) (is i)) ∙ drop-append_seam front held;
}

-- If `front` is the first n bytes of a memory and `held` the rest, both together are the memory.
pub memory_is_front_and_rest : (n : ℕ) (memory front held : List ℕ) → front ≡ take n memory → held ≡ drop n memory → memory ≡ front ++ held
memory_is_front_and_rest n memory front held is is' = sym ((λ i. is i ++ is' i) ∙ take-append-drop n memory)

module _ {a : Asking} {memory front held : List ℕ} (s : IsSplit a memory front held) where
  -- A device with the whole memory is the same as the device with the two parts.
  pub parts_make_same_device : with_memory memory a ≡ lent a front held
  parts_make_same_device = λ i. lent a (s.front_is i) (s.held_is i)

  -- If the memory is as the last call left it, so are the two parts.
  pub whole : (flash : List ℕ) → IsIntactBlock memory flash a → IsDeviceOn a front held flash
  whole flash is = subst (λ (h : List ℕ). IsDeviceOn a front h flash) s.held_is
      (subst (λ (f : List ℕ). IsDeviceOn a f (held_memory a memory) flash) s.front_is is)

  -- If the two parts are as the last call left them, so is the memory.
  pub intact : (flash : List ℕ) → IsDeviceOn a front held flash → IsIntactBlock memory flash a
  intact flash is = subst (λ (f : List ℕ). IsDeviceOn a f (held_memory a memory) flash) (sym s.front_is)
      (subst (λ (h : List ℕ). IsDeviceOn a front h flash) (sym s.held_is) is)

  -- If a call with the two parts is refused, the call with the whole memory is refused for the same reason.
  refused_on_whole_memory : (e : Why) (flash : List ℕ) (need room : ℕ) → IsRefusedFor e a front held flash need room
      → IsRefusedFor e a (block_in_memory a memory) (held_memory a memory) flash need room
  refused_on_whole_memory e flash need room is = subst (λ (f : List ℕ). IsRefusedFor e a f (held_memory a memory) flash need room) (sym
      s.front_is)
      (subst (λ (h : List ℕ). IsRefusedFor e a front h flash need room) (sym s.held_is) is)

-- If a relation holds between the devices with the two parts, before and after a call, it holds between the devices with the whole memory.
pub call_same_on_parts : {a a' : Asking} {memory front held memory' front' held' : List ℕ} (Does : LentDevice → LentDevice → Type 0)
    → IsSplit a memory front held → IsSplit a' memory' front' held' → Does (lent a front held) (lent a' front' held')
    → Does (with_memory memory a) (with_memory memory' a')
call_same_on_parts {a} {a'} {memory} {front} {held} {memory'} Does s s' is =
    subst (λ (l : LentDevice). Does l (with_memory memory' a')) (sym (parts_make_same_device s))
    (subst (λ (l : LentDevice). Does (lent a front held) l) (sym (parts_make_same_device s')) is)

-- The record represents the device a, the configuration is allowed, and the memory of the block is large enough and was split at the
-- transfer size.
pub record IsDeviceOfSplitMemory (k : DfuConfig) (r : DfuRecord) (a : Asking) (memory front held : List ℕ) : Type 0 where
  pub kept : IsRecordOf k r a
  pub config : IsConfig k
  pub room : block_memory_size k ≤ length memory
  pub parts : memory ≡ front ++ held
  pub size : length front ≡ transfer_of k

-- If `found` returned a device, the record represents that device, and its memory is split.
pub found_device_has_split_memory : (k : DfuConfig) (r : DfuRecord) (a : Asking) (memory front held : List ℕ) (said : Result Asking
    CoreRefusal) → said ≡ Ok a
    → IfOk said (λ x. IsRecordOf k r x) → OnOk said (IsConfig k) → OnOk said (block_memory_size k ≤ length memory)
    → memory ≡ front ++ held → length front ≡ transfer_of k → IsDeviceOfSplitMemory k r a memory front held
found_device_has_split_memory k r a memory front held said is kept config room parts size = record {
  kept = IfOk-at_ok _ is kept;
  config = IfOk-at_ok _ is config;
  room = IfOk-at_ok _ is room;
  parts = parts;
  size = size;
}

module _ {k : DfuConfig} {r : DfuRecord} {a : Asking} {memory front held : List ℕ} (p : IsDeviceOfSplitMemory k r a memory front held) where
  -- The held tail is large enough for a unit.
  pub has_room : HasRoom a.unit held
  has_room = omega (
    arith,
    p.room,
    p.size,
    ap (λ (l : List ℕ). length l) p.parts,
    length-append front held,
    ap unit_size p.kept.set_up.unit_is,
  )

  -- The memory of the device is split into its two parts.
  pub device_memory_is_split : IsSplit a memory front held
  device_memory_is_split = memory_of_two_parts_is_split a memory front held p.parts (p.size
      ∙ sym (ap (λ (s : Setting). s.functional.transfer) p.kept.set_up.config_is))

  -- After a call that keeps the device's settings and the length of the front, the memory is still split.
  pub memory_is_split_after_call : {a' : Asking} (memory' front' held' : List ℕ) → SameConfig a a' → memory' ≡ front' ++ held'
      → length front' ≡ length front
      → IsSplit a' memory' front' held'
  memory_is_split_after_call {a'} memory' front' held' same parts long = memory_of_two_parts_is_split a' memory' front' held' parts
      (long ∙ p.size ∙ sym (ap (λ (s : Setting). s.functional.transfer) (same.config ∙ p.kept.set_up.config_is)))

  -- If the front keeps its length and is large enough for the device's blocks, so is the transfer size.
  pub front_fits_transfer_size : {a' : Asking} (front' : List ℕ) → length front' ≡ length front → RoomForBlocks a' (length front')
      → RoomForBlocks a' (transfer_of k)
  front_fits_transfer_size {a'} front' long fits = subst (λ (n : ℕ). RoomForBlocks a' n) (long ∙ p.size) fits

  -- If neither part changed, the memory didn't change.
  pub unchanged : (front' held' : List ℕ) → front' ≡ front → held' ≡ held → front' ++ held' ≡ memory
  unchanged front' held' same same' = (λ i. same i ++ same' i) ∙ sym p.parts

  -- With another held tail, the front of the memory is unchanged.
  pub front_is_same_with_other_tail : (held' : List ℕ) → take (transfer_of k) (front ++ held') ≡ take (transfer_of k) memory
  front_is_same_with_other_tail held' =
      (λ i. take (sym p.size i) (front ++ held')) ∙ take-append_seam front held' ∙ sym (take-append_seam front held)
      ∙ (λ i. take (p.size i) (sym p.parts i))

  -- If the record after a call represents the device after the call, the call satisfies RecordAfterCall.
  pub goes : {r' : DfuRecord} {a' : Asking} {memory' : List ℕ} {Does : Asking → Asking → Type 0} → SameConfig a a'
      → (AreConfigParts k a'.config a'.unit a'.sector → IsRecordOf k r' a')
      → (RoomForBlocks a (transfer_of k) → RoomForBlocks a' (transfer_of k))
      → Does a a' → RecordAfterCall k r memory r' memory' Does
  goes {a' = a'} same kept fits does = record {
    config = p.config;
    room = p.room;
    before = a;
    after = a';
    was = p.kept;
    is = kept (record {
      config_is = same.config ∙ p.kept.set_up.config_is;
      unit_is = same.unit ∙ p.kept.set_up.unit_is;
      sector_is = ap (λ (s : Sector). s.size) same.sector ∙ p.kept.set_up.sector_is;
    });
    fits = fits;
    does = does;
  }

  -- If the buffer is large enough for the answer, a call that dfu_asks refuses with the two parts is refused in C.
  pub refuses : (why : Why) (flash : List ℕ) (need room : ℕ) {e : CoreRefusal} {n : ℤ} {r' : DfuRecord} {memory' : List ℕ} → need ≤ room
      → IsRefusedFor why a front held flash need room → e ≡ core_refusal_of why → n ≡ refusal_number e → r' ≡ r → memory' ≡ memory
      → CoreRefuses k r memory flash n r' memory'
  refuses why flash need room {e} fits is e_is number_is same same' = record {
    why = e;
    number_is = number_is;
    cause = inr (
      a,
      p.config,
      p.kept,
      p.room,
      subst (λ (x : CoreRefusal). IsCallRefused x memory flash a) (sym e_is)
          (asks_refusal_is_cause why memory flash a need room fits (refused_on_whole_memory device_memory_is_split why flash need room is)),
    );
    unchanged = same;
    block_is = same';
  }
