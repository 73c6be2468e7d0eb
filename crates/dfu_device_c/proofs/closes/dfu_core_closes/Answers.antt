use Rattle.std.proofs.Common.{◌≡◌, ◌⊎◌, ℕ, ℤ, pos, List, inl, inr, refl, subst, sym, ◌∙◌, w32, arith}
use Rattle.std.proofs.lemmas.Int.{to_z-of_z}
use Rattle.dfu_core.specs.Closes.{CloseResult}
use Rattle.dfu_asks.specs.Addressed.{addressed_setup}
use Rattle.dfu_core.specs.Idle.{IsIdleRecord, RefusesUnlessIdle}
use Rattle.dfu_core.specs.Numbers.{yes_no_number}
use Rattle.dfu_device_c.proofs.RecordAnswers.{yes_no_number_is_0_or_1, record_device_is_in_mode}
use Rattle.dfu_device_c.proofs.closes.dfu_core_closes.Goals as goal

pub returns : goal.returns
returns c =
    let k = c.args.config.now in
    let r = c.args.device.now in
    let said = c.mode_closes.result in
    let own = addressed_setup k.interface c.args.setup.now in
    let number = to_z-of_z w32 c.yes_no_number_of.result (omega (arith, c.yes_no_number_of.type_inv)) ∙ c.yes_no_number_of.ensures in
    let told : CloseResult k r own (yes_no_number said) =
    subst (λ (x : List ℕ). CloseResult k r x (yes_no_number said)) c.addressed-own.ensures (λ block flash a kept device. (
      said,
      refl,
      c.mode_closes.ensures _ flash
          (record_device_is_in_mode k r c.in-Ok.found.1 c.in-Ok.ensures.set_up c.in-Ok.ensures.only block flash a kept device),
    )) in
    record {
      outcome = inl (subst (λ (n : ℤ). ((n ≡ pos 0) ⊎ (n ≡ pos 1)) × IsIdleRecord k r × CloseResult k r own n) (sym number)
          (yes_no_number_is_0_or_1 said _ refl, c.in-Ok.ensures.idle, told));
    }

pub returns-in-Err : goal.returns-in-Err
returns-in-Err c = record {
  outcome = inr (subst (λ (n : ℤ). RefusesUnlessIdle c.args.config.now c.args.device.now n)
      (sym (to_z-of_z w32 _ (omega (arith, c.number.type_inv)) ∙ c.number.ensures)) c.in-Err.ensures.err);
}
