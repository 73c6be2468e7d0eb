use Rattle.std.specs.Prelude.{◌≡◌, ◌||◌, Bool}
use Rattle.std.specs.List.{list_any}
use Rattle.std.proofs.Common.{ap, ◌∙◌}
use Rattle.dfu_conformance.specs.declared.row.StandardState.{StandardState}
use Rattle.dfu_conformance.specs.declared.standard.TheConstants.{STANDARD}
use Rattle.dfu_conformance.specs.declared.marks.TheConstants.{MARKS}
use Rattle.dfu_conformance.specs.declared.habits.TheConstants.{HABITS}
use Rattle.dfu_conformance.specs.declared.dfuse.rows.TheConstants.{DFUSE}
use Rattle.dfu_conformance.specs.dfuse.Verdicts.{has_place}
use Rattle.dfu_conformance.specs.inside.DfuseStep.{row_leads_to, may_be_at_before_move, may_be_at_after_move}
use Rattle.dfu_conformance.proofs.dfuse.stands.step.Goals as goal

pub returns : goal.returns
returns c n =
    let before = c.args.before.now in
    let e = c.args.event.now in
    let held : (p : StandardState) → has_place c.pass-4.new.after p ≡ may_be_at_before_move before e p = λ p.
    c.pass-4.ensures p
    ∙ ap (λ (b : Bool). b || list_any (row_leads_to before e p) DFUSE) (c.pass-3.ensures p
    ∙ ap (λ (b : Bool). b || list_any (row_leads_to before e p) HABITS) (c.pass-2.ensures p
    ∙ ap (λ (b : Bool). b || list_any (row_leads_to before e p) MARKS) (c.pass.ensures p
    ∙ ap (λ (b : Bool). b || list_any (row_leads_to before e p) STANDARD) (c.rest-after.ensures p)))) in
    c.drift.ensures n ∙ (λ k. may_be_at_after_move (λ (p : StandardState). held p k) n)
