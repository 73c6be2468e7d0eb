-- Lemmas about refusals of a call for a device that lets its program write the flash.
use Rattle.std.proofs.Common.{List, ℕ, ◌≤◌, arith}
use Rattle.dfu_asks.specs.declared.asking.Asking.{Asking}
use Rattle.dfu_asks.specs.declared.reply.Refusal.{Refusal as Why}
use Rattle.dfu_asks.specs.declared.reply.Refusal.TheVariants as why
use Rattle.dfu_asks.specs.Lent.{LentDevice}
use Rattle.dfu_asks.specs.Refused.{IsRefusedCall as IsRefusedFor, ReportRefusedFor}
use Rattle.dfu_core.specs.RecordMeaning.{block_in_memory, held_memory}
use Rattle.dfu_core.specs.Calls.{IsCallRefused}
use Rattle.dfu_core.specs.Numbers.{core_refusal_of}
use Rattle.dfu_core.specs.Writes.{IsPendingOnSomeFlash}

-- If the buffer is large enough for the answer, a refusal by dfu_asks is a refusal of the call in C.
pub asks_refusal_is_cause : (e : Why) (block flash : List ℕ) (a : Asking) (need room : ℕ) → need ≤ room
    → IsRefusedFor e a (block_in_memory a block) (held_memory a block) flash need room → IsCallRefused (core_refusal_of e) block flash a
asks_refusal_is_cause why.Asked block flash a need room fits is = is
asks_refusal_is_cause why.NoRoom block flash a need room fits is = absurd (omega (arith, fits, is.1))
asks_refusal_is_cause why.NoMedium block flash a need room fits is = (is.0, is.2)
asks_refusal_is_cause why.NoDevice block flash a need room fits is = (is.0, is.2, is.3)

-- If a report is refused although its buffer is large enough, the device has no pending write on any flash.
pub refused_report_has_no_write : (e : Why) (a : LentDevice) (room : ℕ) → 6 ≤ room → ReportRefusedFor e a room → ¬ IsPendingOnSomeFlash a
refused_report_has_no_write why.NoRoom a room fits short at = omega (arith, fits, short)
refused_report_has_no_write why.NoDevice a room fits none (flash, (len, s, was, asks)) =
    none.1 asks.work (record { work_is = asks.work_is; left = asks.left })
refused_report_has_no_write why.Asked a room fits none at = none
refused_report_has_no_write why.NoMedium a room fits none at = none
