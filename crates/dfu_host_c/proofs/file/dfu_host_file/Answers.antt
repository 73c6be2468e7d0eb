use Rattle.std.proofs.Common.{rules, ◌≡◌, ◌∙◌, sym, ap, subst, refl, ℤ, pos, Result, Ok, Err}
use Rattle.dfu_suffix.specs.declared.fault.SuffixFault.{SuffixFault}
use Rattle.dfu_host_c.specs.Refusals.{refused_number}
use Rattle.dfu_host_c.specs.declared.refusals.HostRefusal.TheVariants as refusal
use Rattle.dfu_host_c.proofs.file.dfu_host_file.Goals as goal

-- Number that the call returns to C after reading a file: 0, or the number of the fault.
abbrev answer : {T : Type 0} → Result T SuffixFault → ℤ
answer (Ok read) = pos 0
answer (Err fault) = refused_number (refusal.File fault)

pub returns-in-Err-clause-fault : goal.returns-in-Err-clause-fault
returns-in-Err-clause-fault c = λ fault first.
    let same : refused_number (refusal.File c.in-Err.fault) ≡ refused_number (refusal.File fault) =
    ap answer (sym c.in-Err.is ∙ (c.file_in.ensures.fault fault).1 first) in
    (rw (← same) (search rules), refl)

-- The result is a file, not a fault.
abbrev IsFileFound : {T : Type 0} → Result T SuffixFault → Type 0
IsFileFound (Ok read) = Unit {0}
IsFileFound (Err fault) = ⊥

pub returns-in-Ok-clause-fault : goal.returns-in-Ok-clause-fault
returns-in-Ok-clause-fault c = λ fault first.
    let never : ⊥ = subst IsFileFound (sym c.in-Ok.is ∙ (c.file_in.ensures.fault fault).1 first) tt in
    elim never [ ]
