use Rattle.std.proofs.Common.{◌∙◌, sym, refl}
use Rattle.dfu_link.proofs.scripting.playing.checked.Goals as goal

pub returns-then-is_accepted : goal.returns-then-is_accepted
returns-then-is_accepted g c = rw (sym c.is_accepted.ensures ∙ c.if-is_accepted.true) refl

pub returns-else-is_accepted : goal.returns-else-is_accepted
returns-else-is_accepted g c = rw (sym c.is_accepted.ensures ∙ c.if-is_accepted.false) refl
