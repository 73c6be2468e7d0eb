use Rattle.std.proofs.Common.{◌≡◌, ◌⊎◌, ℤ, w32, sym, subst, arith}
use Rattle.std.proofs.lemmas.Int.{to_z-of_z}
use Rattle.dfu_slots.proofs.Sectors.{gate_room_at_least_16}
use Rattle.dfu_boot_c.specs.trial.Tries.{grain_of_tries}
use Rattle.dfu_boot_c.specs.trial.TrialCalls.{RefusesTrial, TrialStartResult}
use Rattle.dfu_boot_c.proofs.trial.calls.dfu_core_trial_start.Goals as goal

-- No image begins at offset 0, because the gate and the header of its slot come before it, and each takes at least 16 bytes.
pub returns : goal.returns
returns c =
    let t = c.args.tries.now in
    let flash = c.args.flash.now in
    let new = c.start_from.new in
    record {
      outcome = subst
          (λ (n : ℤ). TrialStartResult t flash n c.args.ask.now new.ask new.told
          ⊎ (RefusesTrial t flash n × (new.ask ≡ c.args.ask.now) × (new.told ≡ c.args.told.now)))
          (sym (to_z-of_z w32 c.start_from.result (omega (arith, c.start_from.type_inv))))
          (c.start_from.ensures.outcome (λ slot is. absurd (omega (arith, is, gate_room_at_least_16 (grain_of_tries t)))));
    }
