use Rattle.std.proofs.Common.{◌≡◌, ◌∷◌, [], ◌++◌, ℕ, true, sym, ap, ◌∙◌, arith}
use Rattle.std.proofs.lemmas.List.{append_cancel_right}
use lib.Pointwise.{bytes_decides}
use Rattle.dfu_link.proofs.scripting.expectation.is_line.Goals as goal

pub returns-then-last-eq10-clause-other : goal.returns-then-last-eq10-clause-other
returns-then-last-eq10-clause-other c = λ no same.
    let front : c.in-Some.front.now ≡ c.args.expected.now = append_cancel_right c.in-Some.front.now c.args.expected.now (10 ∷ [])
    (ap (λ (b : ℕ). c.in-Some.front.now ++ b ∷ []) (sym c.if-last-eq10.true) ∙ (sym c.in-Some.ensures.cases.0 ∙ same)) in
    let yes : c.eq.result ≡ true = c.eq.ensures ∙ (bytes_decides c.in-Some.front.now c.args.expected.now).1 front in
    absurd (grind (arith, no, yes))
