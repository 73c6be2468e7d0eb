use Rattle.std.proofs.Common.{◌≡◌, ℕ, List, take, replicate, OnOk, OnErr, sym, subst}
use Rattle.std.proofs.lemmas.List.{take-replicate}
use Rattle.dfu_slots.specs.declared.fault.WriteFault.TheVariants.{Failed}
use Rattle.dfu_slots.specs.Medium.{WroteOrLied, FailedWrite}
use Rattle.dfu_boot.specs.trial.Calls.{MarkIsWithin}
use Rattle.dfu_boot.specs.trial.Laws.{OperationReportedOk, OperationReportedFailed}
use Rattle.dfu_boot.specs.declared.trial.operation.Operation.{Operation}
use Rattle.dfu_boot.proofs.trial.operation.Operation.carry_out.Goals as goal

pub returns-in-Mark-clause-worked : goal.returns-in-Mark-clause-worked
returns-in-Mark-clause-worked g c =
    let m = g.M.Medium.state c.args.medium.now in
    let now = g.M.Medium.state c.write.new.self in
    let few = (subst (λ (o : Operation). MarkIsWithin m o) c.in-Mark.is c.requires.within).1 in
    let zeros : take c.in-Mark.len (replicate 256 0) ≡ replicate c.in-Mark.len 0 = take-replicate c.in-Mark.len 256 0 few in
    subst (λ (o : Operation). OnOk c.write.result (OperationReportedOk m o now)) (sym c.in-Mark.is)
    (subst (λ (l : List ℕ). OnOk c.write.result (WroteOrLied m c.in-Mark.at l now)) zeros c.write.ensures.ok)

pub returns-in-Mark-clause-failed : goal.returns-in-Mark-clause-failed
returns-in-Mark-clause-failed g c =
    let m = g.M.Medium.state c.args.medium.now in
    let now = g.M.Medium.state c.write.new.self in
    let few = (subst (λ (o : Operation). MarkIsWithin m o) c.in-Mark.is c.requires.within).1 in
    let zeros : take c.in-Mark.len (replicate 256 0) ≡ replicate c.in-Mark.len 0 = take-replicate c.in-Mark.len 256 0 few in
    subst (λ (o : Operation). OnErr c.write.result (OperationReportedFailed m o now)) (sym c.in-Mark.is)
    (subst (λ (l : List ℕ). OnErr c.write.result (FailedWrite Failed m c.in-Mark.at l now)) zeros c.write.ensures.failed)
