use Rattle.std.proofs.Common.{◌≡◌, ℕ, ◌+◌, List, ◌∷◌, take, drop, sym, ap, ◌∙◌, arith}
use Rattle.dfu_formats.specs.images.Lines.{lines}
use Rattle.dfu_formats.proofs.LineLaws.{first_feed_splits_lines, no_feed_leaves_one_line}
use Rattle.dfu_formats.proofs.images.lines.take_line.Goals as goal

pub returns-in-Some-clause-value : goal.returns-in-Some-clause-value
returns-in-Some-clause-value c =
    let n = c.in-Some.end in
    let text = c.args.text.now in
    let line : take n text ≡ c.split_at.result.0.now = sym c.split_at.ensures.front in
    let rest : drop (n + 1) text ≡ c.split_at-in-Some.result.1.now = sym c.split_at-in-Some.ensures.back in
    first_feed_splits_lines text n (n + 1) (omega arith) (sym c.feed_in.ensures.value ∙ c.in-Some.is)
    ∙ (ap (λ (xs : List ℕ). xs ∷ lines (drop (n + 1) text)) line ∙ ap (λ (xs : List ℕ). c.split_at.result.0.now ∷ lines xs) rest)

pub returns-in-None-clause-value : goal.returns-in-None-clause-value
returns-in-None-clause-value c = no_feed_leaves_one_line c.args.text.now (sym c.feed_in.ensures.value ∙ c.in-None.is)
