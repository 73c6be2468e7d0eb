use Rattle.std.proofs.Common.{◌≡◌, ℕ, ◌-◌, [], ◌∷◌, Ok, sym, ap, ◌∙◌, subst}
use Rattle.dfu_formats.specs.dfuse.Reading.{SplitElement, elements_at}
use Rattle.dfu_formats.specs.dfuse.Found.{list_or_empty}
use Rattle.dfu_formats.proofs.WalkLaws.{no_elements_found_at_end, first_element_is_taken, found_elements_have_no_fault}
use Rattle.dfu_formats.proofs.dfuse.elements.Elements.next_element.Goals as goal

pub returns-then-self-eq0 : goal.returns-then-self-eq0
returns-then-self-eq0 c =
    let b = c.self.inside.rest.now in
    let none : c.args.self.now ≡ [] = sym c.self.view_is ∙
    (ap (λ (k : ℕ). list_or_empty (elements_at k b)) c.if-self-eq0.true ∙ no_elements_found_at_end b) in
    (none, none)

pub invariant_of-self : goal.invariant_of-self
invariant_of-self c =
    let s = c.self.inside in
    let t = first_element_is_taken s.left s.rest.now c.in-Ok.split _ c.if-self-eq0.false (sym c.take_element.ensures
    ∙ c.in-Ok.is) c.self.invariant in
    subst (λ (q : SplitElement). elements_at (s.left - 1) q.rest ≡ Ok (list_or_empty (elements_at (s.left - 1) q.rest)))
    (sym c.split.view_is) t.rest

pub returns-in-Ok : goal.returns-in-Ok
returns-in-Ok c =
    let s = c.self.inside in
    let t = first_element_is_taken s.left s.rest.now c.in-Ok.split _ c.if-self-eq0.false (sym c.take_element.ensures
    ∙ c.in-Ok.is) c.self.invariant in
    sym c.self.view_is
    ∙ subst (λ (q : SplitElement). list_or_empty (elements_at s.left s.rest.now) ≡ q.element
    ∷ list_or_empty (elements_at (s.left - 1) q.rest))
    (sym c.split.view_is) t.is

pub returns-in-Err : goal.returns-in-Err
returns-in-Err c =
    let s = c.self.inside in
    absurd (found_elements_have_no_fault s.left s.rest.now c.in-Err.field-0 _ c.if-self-eq0.false (sym c.take_element.ensures
    ∙ c.in-Err.is) c.self.invariant)
