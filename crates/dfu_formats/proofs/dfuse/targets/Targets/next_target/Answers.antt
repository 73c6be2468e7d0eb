use Rattle.std.proofs.Common.{◌≡◌, ℕ, ◌-◌, List, [], ◌∷◌, Ok, sym, ap, ◌∙◌, subst}
use Rattle.dfu_formats.specs.images.Elements.{Piece}
use Rattle.dfu_formats.specs.dfuse.Reading.{Heading, elements_at, targets_at, target_with_elements}
use Rattle.dfu_formats.specs.dfuse.Found.{list_or_empty}
use Rattle.dfu_formats.proofs.WalkLaws.{no_targets_found_at_end, first_target_is_taken, found_targets_have_no_fault}
use Rattle.dfu_formats.proofs.dfuse.targets.Targets.next_target.Goals as goal

pub returns-then-self-eq0 : goal.returns-then-self-eq0
returns-then-self-eq0 c =
    let b = c.self.inside.rest.now in
    let none : c.args.self.now ≡ [] = sym c.self.view_is ∙
    (ap (λ (k : ℕ). list_or_empty (targets_at k b)) c.if-self-eq0.true ∙ no_targets_found_at_end b) in
    (none, none)

pub new-requires : goal.new-requires
new-requires c =
    let s = c.self.inside in
    let t = first_target_is_taken s.left s.rest.now c.in-Ok.heading _ c.if-self-eq0.false (sym c.take_heading.ensures
    ∙ c.in-Ok.is) c.self.invariant in
    subst (λ (h : Heading). elements_at h.count h.content ≡ Ok (list_or_empty (elements_at h.count h.content)))
    (sym c.heading.view_is) t.its

pub invariant_of-self : goal.invariant_of-self
invariant_of-self c =
    let s = c.self.inside in
    let t = first_target_is_taken s.left s.rest.now c.in-Ok.heading _ c.if-self-eq0.false (sym c.take_heading.ensures
    ∙ c.in-Ok.is) c.self.invariant in
    subst (λ (h : Heading). targets_at (s.left - 1) h.rest ≡ Ok (list_or_empty (targets_at (s.left - 1) h.rest)))
    (sym c.heading.view_is) t.rest

pub returns-in-Ok : goal.returns-in-Ok
returns-in-Ok c =
    let s = c.self.inside in
    let t = first_target_is_taken s.left s.rest.now c.in-Ok.heading _ c.if-self-eq0.false (sym c.take_heading.ensures
    ∙ c.in-Ok.is) c.self.invariant in
    let is = subst (λ (h : Heading). list_or_empty (targets_at s.left s.rest.now) ≡ target_with_elements h
    (list_or_empty (elements_at h.count h.content)) ∷ list_or_empty (targets_at (s.left - 1) h.rest))
    (sym c.heading.view_is) t.is in
    let h = c.heading.inside in
    let its = ap (λ (es : List Piece). record { setting = h.setting; named = h.named; name = h.name.now; elements = es } ∷ list_or_empty
    (targets_at (s.left - 1) h.rest.now))
    (sym c.new.ensures) in
    sym c.self.view_is ∙ (is ∙ its)

pub returns-in-Err : goal.returns-in-Err
returns-in-Err c =
    let s = c.self.inside in
    absurd (found_targets_have_no_fault s.left s.rest.now c.in-Err.field-0 _ c.if-self-eq0.false (sym c.take_heading.ensures
    ∙ c.in-Err.is) c.self.invariant)
