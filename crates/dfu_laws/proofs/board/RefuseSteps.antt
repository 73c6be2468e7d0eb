-- Calls of `refuse_close` and `refuse` as steps of a board.
use Rattle.std.specs.Prelude.{◌≡◌, ◌↔◌, Bool, true, false, not, IsTrue, List, ℕ, Result, Ok, Err, OnOk, OnErr, IfOk, None}
use Rattle.std.proofs.Common.{refl}
use Rattle.dfu_device.specs.declared.objection.Objection.{Objection}
use Rattle.dfu_device.specs.Rows.{ClosesDownload}
use Rattle.dfu_device.specs.Stage.{InError}
use Rattle.dfu_device.specs.Table.{objection_code, refuse_stage}
use Rattle.dfu_asks.specs.Asks.{IsDevice}
use Rattle.dfu_asks.specs.declared.reply.Refusal.{Refusal}
use Rattle.dfu_laws.specs.board.Board.{Board, lent_on, device_on, RefuseClose, Refuse}
use Rattle.dfu_laws.specs.board.Happens.{EventOutcome}
use Rattle.dfu_laws.specs.board.Steps.{reply_of_close, reply_of_reset}

module _ (b b' : Board) (flash : b'.flash ≡ b.flash) where
  -- A call of `refuse_close` has the outcome of the event `RefuseClose`.
  pub close_step : (setup : List ℕ) (why : Objection) (r : Result Bool Refusal)
      → OnOk r ((b.asking.work ≡ None) × (b'.asking.work ≡ None)) → OnOk r (IsDevice (lent_on b) b.flash → IsDevice (lent_on b') b'.flash)
      → (IsDevice (lent_on b) b.flash → IfOk r (λ x. IsTrue x ↔ ClosesDownload setup (device_on b)))
      → IfOk r (λ x. IsTrue x → device_on b' ≡ record (device_on b) { stage = InError (objection_code why) })
      → IfOk r (λ x. IsTrue (not x) → b' ≡ b) → OnErr r (b' ≡ b) → EventOutcome b (RefuseClose setup why) (reply_of_close r) b'
  close_step setup why (Ok true) work is closes row other bad = record {
    idle = work.0;
    flash = flash;
    row = λ d. (is d, (refl, refl, (closes d).0 refl, row refl));
    work = work.1;
    says_is = refl;
  }
  close_step setup why (Ok false) work is closes row other bad = other refl
  close_step setup why (Err e) work is closes row other bad = bad

  -- A call of `refuse` has the outcome of the event `Refuse`.
  pub refuse_result_is_outcome : (why : Objection) (r : Result (Unit {0}) Refusal) → OnOk r ((b.asking.work ≡ None) × (b'.asking.work
      ≡ None))
      → OnOk r (IsDevice (lent_on b) b.flash → IsDevice (lent_on b') b'.flash)
      → OnOk r (device_on b' ≡ record (device_on b) { stage = refuse_stage why (device_on b).stage }) → OnErr r (b' ≡ b)
      → EventOutcome b (Refuse why) (reply_of_reset r) b'
  refuse_result_is_outcome why (Ok x) work is row bad = record {
    idle = work.0;
    flash = flash;
    row = λ d. (is d, (refl, refl, row));
    work = work.1;
    says_is = refl;
  }
  refuse_result_is_outcome why (Err e) work is row bad = bad
