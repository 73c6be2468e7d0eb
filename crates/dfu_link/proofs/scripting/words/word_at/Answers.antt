use Rattle.std.proofs.Common.{sym, ◌∙◌, ap, ◌≡◌, Some, None, drop}
use Rattle.std.specs.List.{position}
use Rattle.dfu_link.specs.Words.{is_space, is_no_space}
use Rattle.dfu_link.proofs.WordLaws.{only_spaces_have_no_word, first_word_splits_line, text_has_only_word}
use Rattle.dfu_link.proofs.scripting.words.word_at.Goals as goal

pub returns-in_err-start : goal.returns-in_err-start
returns-in_err-start c =
    let none : position is_no_space c.args.line.now ≡ None = sym c.start_at.ensures ∙ c.in_err-start.was in
    rw c.from_residual.ensures (only_spaces_have_no_word c.args.line.now none)

pub returns-in-Some : goal.returns-in-Some
returns-in-Some c =
    let start : position is_no_space c.args.line.now ≡ Some c.in_ok-start.start = sym c.start_at.ensures ∙ c.in_ok-start.was in
    let back : c.split_at.result.1.now ≡ drop c.in_ok-start.start c.args.line.now = c.split_at.ensures.back in
    let end : position is_space (drop c.in_ok-start.start c.args.line.now) ≡ Some c.in-Some.end = ap (position is_space) (sym back)
    ∙ (sym c.space_at.ensures ∙ c.in-Some.is) in
    rw (c.split_at-in-Some.ensures.front, c.split_at-in-Some.ensures.back, back)
    (first_word_splits_line c.args.line.now c.in_ok-start.start c.in-Some.end start end)

pub returns-in-None : goal.returns-in-None
returns-in-None c =
    let start : position is_no_space c.args.line.now ≡ Some c.in_ok-start.start = sym c.start_at.ensures ∙ c.in_ok-start.was in
    let back : c.split_at.result.1.now ≡ drop c.in_ok-start.start c.args.line.now = c.split_at.ensures.back in
    let none : position is_space (drop c.in_ok-start.start c.args.line.now) ≡ None = ap (position is_space) (sym back)
    ∙ (sym c.space_at.ensures ∙ c.in-None.is) in
    rw back (text_has_only_word c.args.line.now c.in_ok-start.start start none)
