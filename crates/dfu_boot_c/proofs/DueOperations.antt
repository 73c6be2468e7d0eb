-- Operations of the copy between two areas, as results of a call in C.
use Rattle.std.proofs.Common.{◌≡◌, ◌⊎◌, inl, ℕ, ℤ, List, subst}
use Rattle.dfu_slots.specs.Medium.{MediumState}
use Rattle.dfu_home.specs.declared.due.Due.{Due}
use Rattle.dfu_home.specs.declared.due.Progress.{Progress}
use Rattle.dfu_home.specs.Next.{IsNextDue}
use Rattle.dfu_core.specs.declared.config.DfuConfig.{DfuConfig}
use Rattle.dfu_core.specs.declared.records.DfuAsk.{DfuAsk}
use Rattle.dfu_boot_c.specs.declared.home.numbers.DfuHomeRecord.{DfuHomeRecord}
use Rattle.dfu_boot_c.specs.home.Flash.{home_medium_state, progress_of, RefusesFlash}
use Rattle.dfu_boot_c.specs.home.DueRecords.{HomeDueInAsk, HomeNextResult}

-- If the returned operation is the next one for the flash and the progress in the record, the result of dfu_core_home_next satisfies its
-- contract.
pub due_meets_next_contract : (c : DfuConfig) (r : DfuHomeRecord) (flash : List ℕ) (m : MediumState) (p : Progress) (due : Due)
    (n : ℤ)
    (before after : DfuAsk)
    → m ≡ home_medium_state c flash → p ≡ progress_of r → IsNextDue m p due → HomeDueInAsk (home_medium_state c flash) due n before after
    → HomeNextResult c r flash n before after ⊎ (RefusesFlash c flash n × (after ≡ before))
due_meets_next_contract c r flash m p due n before after state progress does tells = inl (record {
  due = due;
  does = subst (λ (x : MediumState). IsNextDue x (progress_of r) due) state (subst (λ (q : Progress). IsNextDue m q due) progress does);
  tells = tells;
})
