use Rattle.std.proofs.Common.{ℕ, sym, subst, ◌∙◌}
use Rattle.std.proofs.lemmas.Bool.{true≢false}
use Rattle.dfu_slots.specs.Medium.{IsBlank}
use Rattle.dfu_slots.proofs.Blank.{blank_erase_worked, unblank_erase_lied}
use Rattle.dfu_slots.proofs.erasing.erase.Goals as goal

pub returns-then-is_blank-clause-ok : goal.returns-then-is_blank-clause-ok
returns-then-is_blank-clause-ok g c =
    blank_erase_worked (g.M.Medium.state c.args.medium.now).grain.sector c.requires.within c.in-Ok.ensures.ok
    (subst (λ (n : ℕ). IsBlank (g.M.Medium.state c.erase.new.self).bytes c.args.at n) c.sector-size.ensures
    (c.is_blank.ensures.0 c.if-is_blank.true))

pub returns-else-is_blank-clause-failed : goal.returns-else-is_blank-clause-failed
returns-else-is_blank-clause-failed g c =
    unblank_erase_lied (g.M.Medium.state c.args.medium.now).grain.sector c.requires.within c.in-Ok.ensures.ok
    (λ blank. true≢false (sym (c.is_blank.ensures.1
    (subst (λ (n : ℕ). IsBlank (g.M.Medium.state c.erase.new.self).bytes c.args.at n) (sym c.sector-size.ensures) blank))
    ∙ c.if-is_blank.false))
