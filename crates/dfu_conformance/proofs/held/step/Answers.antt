use Rattle.std.specs.Prelude.{◌≡◌, ◌||◌, Bool}
use Rattle.std.specs.List.{list_any}
use Rattle.std.proofs.Common.{ap, ◌∙◌}
use Rattle.dfu_conformance.specs.declared.row.StandardState.{StandardState}
use Rattle.dfu_conformance.specs.declared.standard.TheConstants.{STANDARD}
use Rattle.dfu_conformance.specs.declared.marks.TheConstants.{MARKS}
use Rattle.dfu_conformance.specs.declared.habits.TheConstants.{HABITS}
use Rattle.dfu_conformance.specs.Candidates.{is_held_at}
use Rattle.dfu_conformance.specs.inside.Stepped.{row_leads, is_held_before_moves, is_held_after_move}
use Rattle.dfu_conformance.proofs.held.step.Goals as goal

pub returns : goal.returns
returns c n a r attributes readings =
    let before = c.args.before.now in
    let e = c.args.event.now in
    let held : (p : StandardState) → is_held_at c.pass-2.new.after p a r ≡ is_held_before_moves before e p a r = λ p.
    c.pass-2.ensures p a r attributes readings
    ∙ ap (λ (b : Bool). b || list_any (row_leads before e p a r) HABITS) (c.pass_marks.ensures p a r attributes readings
    ∙ ap (λ (b : Bool). b || list_any (row_leads before e p a r) MARKS) (c.pass.ensures p a r attributes readings
    ∙ ap (λ (b : Bool). b || list_any (row_leads before e p a r) STANDARD) (c.rest-after.ensures p a r attributes readings))) in
    c.drift.ensures n a r attributes readings ∙ (λ k. is_held_after_move (λ (p : StandardState). held p k) n a r)
