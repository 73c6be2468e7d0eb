use Rattle.std.proofs.Common.{rules, ◌≡◌, ◌∙◌, inl, inr, refl, ap, sym, subst}
use Rattle.std.specs.Borrow.{Bor}
use Rattle.dfu_formats.specs.memory.Grammar.{IsMap}
use Rattle.dfu_formats.specs.memory.Reading.{MapContent}
use Rattle.dfuse_host.specs.declared.plan.Plan.{Plan}
use Rattle.dfuse_host.specs.Refusing.{FirstPlanFault}
use Rattle.dfu_host_c.specs.dfuse.Sessions.{dfuse_plan_of}
use Rattle.dfu_host_c.proofs.Refused.{call_is_refused_by_first_fault}
use Rattle.dfu_host_c.proofs.dfuse.steps.dfuse_begin.Goals as goal

pub returns-in-Err : goal.returns-in-Err
returns-in-Err c = record { outcome = inr (inl (call_is_refused_by_first_fault _ _ c.in-Err.is c.read.ensures.fault (search rules), refl)) }

pub returns-in-Err-begin : goal.returns-in-Err-begin
returns-in-Err-begin c =
    let over = ap (λ (p : Plan). p.map) c.over.ensures in
    let same : c.over.result ≡ dfuse_plan_of c.args.plan.now c.over.result.map c.args.image =
    c.over.ensures ∙ ap (λ (m : Bor MapContent). dfuse_plan_of c.args.plan.now m c.args.image) (sym over) in
    record {
      outcome = inr (inr (
        record {
          map = c.over.result.map;
          is_map = subst (λ (m : Bor MapContent). IsMap m.now c.args.map.now) (sym over) c.in-Ok.ensures.found;
          refused = record {
            fault = c.in-Err-begin.fault;
            is_first = subst (λ (p : Plan). FirstPlanFault p c.in-Err-begin.fault) same c.in-Err-begin.ensures.fault;
            number_is = search rules;
          };
        },
        refl,
      ));
    }
