use Rattle.std.proofs.Common.{◌≡◌, ◌⊎◌, inl, inr, ℕ, Option, Some, Result, Ok, Err, OnOk, OnErr, sym, ◌∙◌, ap, subst, IfSome}
use Rattle.dfu_slots.specs.Medium.{MediumState}
use Rattle.dfu_slots.specs.declared.medium.Failed.{Failed}
use Rattle.dfu_boot.specs.trial.Calls.{MediumAccepts, MarkIsWithin, trial_start, runs_in}
use Rattle.dfu_boot.specs.trial.Laws.{AskedResult, StartOutcome, OperationReportedOk, OperationReportedFailed}
use Rattle.dfu_boot.specs.declared.trial.operation.Operation.{Operation}
use Rattle.dfu_boot.specs.declared.trial.starting.Starting.{Starting}
use Rattle.dfu_boot.proofs.WorkingStarts.{start_runs_image_on_trial, start_on_trial_asks_mark}
use Rattle.dfu_boot.proofs.Starts.{start_has_result, image_active_after_start, mark_stays_within_medium}
use Rattle.dfu_boot.proofs.Fitting.{standing_fits_slots}
use Rattle.dfu_boot.proofs.trial.booting.boot.Goals as goal

-- If an operation was carried out, the medium reported its success or its failure.
operation_worked_or_failed : (m now : MediumState) (o : Operation) (r : Result (Unit {0}) Failed) → OnOk r (OperationReportedOk m o now)
    → OnErr r (OperationReportedFailed m o now)
    → OperationReportedOk m o now ⊎ OperationReportedFailed m o now
operation_worked_or_failed m now o (Ok x) worked failed = inl worked
operation_worked_or_failed m now o (Err e) worked failed = inr failed

pub start-starting-requires-clause-stands : goal.start-starting-requires-clause-stands
start-starting-requires-clause-stands g c =
    standing_fits_slots (g.M.Medium.state c.args.medium.now) c.args.tries c.in_ok-standing.standing c.in_ok-standing.ensures.standing

pub carry_out-requires-clause-taken : goal.carry_out-requires-clause-taken
carry_out-requires-clause-taken g c =
    let m = g.M.Medium.state c.args.medium.now in
    subst (λ (o : Option Operation). IfSome o (λ op. MediumAccepts m op)) c.in-Some.is c.start-starting.ensures.taken

pub carry_out-requires-clause-within : goal.carry_out-requires-clause-within
carry_out-requires-clause-within g c =
    let m = g.M.Medium.state c.args.medium.now in
    subst (λ (o : Option Operation). IfSome o (λ op. MarkIsWithin m op)) c.in-Some.is c.start-starting.ensures.within

pub runs-requires : goal.runs-requires
runs-requires g c =
    let m = g.M.Medium.state c.args.medium.now in
    let now = g.M.Medium.state c.carry_out.new.medium in
    subst (λ (o : Option Operation). IfSome o (λ op. MarkIsWithin now op)) (sym c.in-Some.is)
    (mark_stays_within_medium m now c.in-Some.operation c.carry_out.ensures.carried
    (subst (λ (o : Option Operation). IfSome o (λ op. MarkIsWithin m op)) c.in-Some.is c.start-starting.ensures.within))

pub returns-in-Some-clause-booted : goal.returns-in-Some-clause-booted
returns-in-Some-clause-booted g c =
    let m = g.M.Medium.state c.args.medium.now in
    let now = g.M.Medium.state c.carry_out.new.medium in
    let s = c.in_ok-standing.standing in
    let carried : AskedResult m c.start-starting.result.operation now =
    subst (λ (o : Option Operation). AskedResult m o now) (sym c.in-Some.is) c.carry_out.ensures.carried in
    record {
      standing = s;
      stands = c.in_ok-standing.ensures.standing;
      starts = subst (λ (ran : ℕ). StartOutcome m c.args.tries s now ran) (sym c.runs.ensures)
          (subst (λ (x : Starting). AskedResult m x.operation now → StartOutcome m c.args.tries s now (runs_in now x x.operation))
          (sym c.start-starting.ensures.value)
          (start_has_result m now c.args.tries c.requires.tries s c.in_ok-standing.ensures.standing) carried);
    }

pub returns-in-Some-clause-image : goal.returns-in-Some-clause-image
returns-in-Some-clause-image g c =
    let booted = returns-in-Some-clause-booted g c in
    image_active_after_start (g.M.Medium.state c.args.medium.now) (g.M.Medium.state c.carry_out.new.medium) c.args.tries c.requires.tries
    booted.standing
    c.runs.result booted.stands booted.starts

pub returns-in-Some-clause-tried : goal.returns-in-Some-clause-tried
returns-in-Some-clause-tried g c t trial left whole =
    let m = g.M.Medium.state c.args.medium.now in
    let now = g.M.Medium.state c.carry_out.new.medium in
    let s = c.in_ok-standing.standing in
    let asked : (trial_start m.grain c.args.tries s).operation ≡ Some c.in-Some.operation =
    ap (λ (x : Starting). x.operation) (sym c.start-starting.ensures.value) ∙ c.in-Some.is in
    let within = subst (λ (o : Option Operation). IfSome o (λ op. MarkIsWithin m op)) c.in-Some.is c.start-starting.ensures.within in
    c.runs.ensures ∙ ap (λ (x : Starting). runs_in now x x.operation) c.start-starting.ensures.value
    ∙ start_runs_image_on_trial m now c.args.tries t left whole s c.in-Some.operation c.in_ok-standing.ensures.standing trial asked within
    (operation_worked_or_failed m now c.in-Some.operation c.carry_out.result c.carry_out.ensures.worked c.carry_out.ensures.failed)

pub returns-in-None-clause-tried : goal.returns-in-None-clause-tried
returns-in-None-clause-tried g c t trial left whole =
    let m = g.M.Medium.state c.args.medium.now in
    let asks = start_on_trial_asks_mark m m c.args.tries t left whole c.in_ok-standing.standing c.in_ok-standing.ensures.standing trial in
    let none = ap (λ (x : Starting). x.operation) (sym c.start-starting.ensures.value) ∙ c.in-None.is in
    absurd (cc)
