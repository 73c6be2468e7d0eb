-- The writes that a call returns to a program in C are those that the device has pending.
use Rattle.std.proofs.Common.{◌≡◌, ◌⊎◌, ◌==◌, ℕ, ℤ, pos, Bool, true, false, List, [], take, replicate, if◌then◌else◌, inl, inr, refl, sym, ◌∙◌, arith}
use Rattle.dfu_asks.specs.declared.asking.Asking.{Asking}
use Rattle.dfu_asks.specs.Steps.{Step}
use Rattle.dfu_slots.specs.Medium.{Torn}
use Rattle.dfu_core.specs.declared.config.DfuConfig.{DfuConfig}
use Rattle.dfu_core.specs.declared.record.DfuRecord.{DfuRecord}
use Rattle.dfu_core.specs.declared.numbers.CoreRefusal.{CoreRefusal}
use Rattle.dfu_core.specs.declared.numbers.CoreRefusal.TheVariants as refusal
use Rattle.dfu_core.specs.Numbers.{refusal_number}
use Rattle.dfu_core.specs.declared.records.DfuAsk.{DfuAsk}
use Rattle.dfu_core.specs.Writes.{ask_step, WriteHandedOut, RefusesPiece, device_is_not_found, piece_is_refused}
use Rattle.dfu_core.specs.Board.{CoreWrite, core_board}
use Rattle.dfu_core.specs.Happens.{CoreEventOutcome}

-- The kind of a write is 1, an erase, or 2, a program.
pub kind_is_erase_or_program : (erases : Bool) (k : ℕ) → k ≡ (if erases then 1 else 2) → (k ≡ 1) ⊎ (k ≡ 2)
kind_is_erase_or_program true k e = inl e
kind_is_erase_or_program false k e = inr e

-- A write of kind 2 doesn't erase.
pub program_kind_does_not_erase : (erases : Bool) (k : ℕ) → k ≡ (if erases then 1 else 2) → k ≡ 2 → erases ≡ false
program_kind_does_not_erase false k e is = refl
program_kind_does_not_erase true k e is = absurd (omega (arith, e, is))

-- Step of a write of n bytes; `erases` is true for an erase.
abbrev pub step_by_flag : (erases : Bool) (at n : ℕ) (bytes : List ℕ) → Step
step_by_flag erases at n bytes = record {
  erases = erases;
  write = record { at = at; bytes = if erases then replicate n 255 else take n bytes };
}

-- Step of a write of n bytes of kind k: an erase for 1, and a program for any other number.
abbrev pub step_by_kind : (k at n : ℕ) (bytes : List ℕ) → Step
step_by_kind k at n bytes = step_by_flag (k == 1) at n bytes

-- If the kind is 1 for an erase and 2 for a program, `step_by_kind` and `step_by_flag` give the same step.
pub step_by_kind_is_by_flag : (erases : Bool) (k at n : ℕ) (bytes : List ℕ) → k ≡ (if erases then 1 else 2)
    → step_by_kind k at n bytes ≡ step_by_flag erases at n bytes
step_by_kind_is_by_flag true k at n bytes e = λ i. step_by_kind (e i) at n bytes
step_by_kind_is_by_flag false k at n bytes e = λ i. step_by_kind (e i) at n bytes

refusal_number_is_not_zero : (e : CoreRefusal) → refusal_number e ≡ pos 0 → ⊥
refusal_number_is_not_zero refusal.NoConfig is = absurd (cc)
refusal_number_is_not_zero refusal.NoBlock is = absurd (cc)
refusal_number_is_not_zero refusal.Asked is = absurd (cc)
refusal_number_is_not_zero refusal.NoMedium is = absurd (cc)
refusal_number_is_not_zero refusal.NoDevice is = absurd (cc)

-- A call that returns 0 was not refused.
pub zero_is_not_refused : (c : DfuConfig) (r : DfuRecord) (block : List ℕ) (Why : Asking → Type 0) (n : ℤ) → RefusesPiece c r block Why n
    → n ≡ pos 0 → ⊥
zero_is_not_refused c r block Why n (device_is_not_found e is cause) zero = refusal_number_is_not_zero e (sym is ∙ zero)
zero_is_not_refused c r block Why n (piece_is_refused a is config room kept why) zero = refusal_number_is_not_zero refusal.NoDevice (sym is
    ∙ zero)

-- A write that a call returned is a step of a board in C, if the flash changes only in the write's range.
pub handed_write_is_step : (c : DfuConfig) (r : DfuRecord) (block flash : List ℕ) (Why : Asking → Type 0) (n : ℤ) (ask before : DfuAsk)
    → WriteHandedOut c r block flash n ask ⊎ (RefusesPiece c r block Why n × (ask ≡ before)) → n ≡ pos 0 → (now : List ℕ)
    → Torn flash (ask_step ask).write.at (ask_step ask).write.bytes now
    → CoreEventOutcome (core_board c r block flash) CoreWrite n [] (core_board c r block now)
handed_write_is_step c r block flash Why n ask before (inl handed) zero now torn = record {
  ask = ask;
  handed = handed;
  torn = torn;
  config = refl;
  kept = refl;
  block = refl;
}
handed_write_is_step c r block flash Why n ask before (inr refused) zero now torn =
    absurd (zero_is_not_refused c r block Why n refused.0 zero)
