use Rattle.std.proofs.Common.{sym, ◌∙◌}
use Rattle.std.proofs.lemmas.Bool.{true≢false}
use Rattle.dfu_slots.proofs.Written.{write_worked, write_lied}
use Rattle.dfu_slots.proofs.writes.write.Goals as goal

pub returns-then-stands_at-clause-ok : goal.returns-then-stands_at-clause-ok
returns-then-stands_at-clause-ok g c =
    write_worked c.requires.within c.in-Ok.ensures.ok (c.stands_at.ensures.0 c.if-stands_at.true)

pub returns-else-stands_at-clause-failed : goal.returns-else-stands_at-clause-failed
returns-else-stands_at-clause-failed g c = write_lied c.requires.within c.in-Ok.ensures.ok
    (λ s. true≢false (sym (c.stands_at.ensures.1 s) ∙ c.if-stands_at.false))
