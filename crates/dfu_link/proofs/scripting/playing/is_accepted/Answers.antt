use Rattle.std.proofs.Common.{◌∙◌, ap, refl, sym, List, ℕ}
use Rattle.dfu_link.specs.ScriptRun.{has_front}
use Rattle.dfu_link.proofs.Checking.{empty_check_accepts_all}
use Rattle.dfu_link.proofs.SourceLaws.{zero_length_is_empty}
use Rattle.dfu_link.proofs.scripting.playing.is_accepted.Goals as goal

pub returns-then-is_empty : goal.returns-then-is_empty
returns-then-is_empty g c = empty_check_accepts_all c.args.check.now _ (zero_length_is_empty c.args.check.now (sym c.is_empty.ensures ∙
    c.if-is_empty.true))

pub returns-in-None : goal.returns-in-None
returns-in-None g c = rw c.in-None.ensures.none refl

pub begins-requires : goal.begins-requires
begins-requires g c = rw c.slots.ensures.slots c.in-Some.ensures.some.within

pub returns-in-Some : goal.returns-in-Some
returns-in-Some g c =
    rw c.in-Some.ensures.some.is ((rw c.slots.ensures.slots at c.begins.ensures)
    ∙ ap (λ (l : List ℕ). has_front c.args.check.now l) c.in-Some.ensures.some.bytes)
