use Rattle.std.proofs.Common.{sym, ◌∙◌, ap, ◌≡◌, ◌≤◌, length, Some, arith, rules}
use Rattle.std.proofs.lemmas.List.{drop_all}
use Rattle.dfu_link.specs.Words.{digits_value}
use Rattle.dfu_link.proofs.WordLaws.{word_with_letter_is_no_number, empty_word_is_no_number, long_word_is_no_number, small_value_is_number, large_value_is_no_number, digits_with_letter_have_no_value}
use Rattle.dfu_link.proofs.scripting.words.number.Goals as goal
use Rattle.dfu_link.proofs.scripting.words.number.Goals.{then-is_empty-via-then-is_empty, then-is_empty-via-else-is_empty+then-word-gt10}

pub returns-then-is_empty : goal.returns-then-is_empty
returns-then-is_empty c = elim c.then-is_empty.branch [
  | then-is_empty-via-then-is_empty w ↦ search (rules, empty_word_is_no_number)
  | then-is_empty-via-else-is_empty+then-word-gt10 w ↦ search (rules, long_word_is_no_number)
]

pub returns-then-not-is_ascii_digit : goal.returns-then-not-is_ascii_digit
returns-then-not-is_ascii_digit c =
    word_with_letter_is_no_number c.args.word.now (sym c.loop-digit.invariant.value
    ∙ digits_with_letter_have_no_value c.loop-digit.n c.loop-digit.digit-index c.args.word.now c.loop-digit-test.true
    (sym c.is_ascii_digit.ensures.value ∙ c.if-not-is_ascii_digit.true))

pub returns-in-Ok : goal.returns-in-Ok
returns-in-Ok c =
    let all = c.loop-digit-test.false in
    let value : digits_value 0 c.args.word.now ≡ Some c.loop-digit.n = sym c.loop-digit.invariant.value
    ∙ ap (digits_value c.loop-digit.n) (drop_all c.loop-digit.digit-index c.args.word.now all) in
    let lt = (c.in-Ok.ensures).0 in
    let le : length c.args.word.now ≤ 10 = c.if-word-gt10.false in
    let ge : 1 ≤ length c.args.word.now = grind (arith, c.if-is_empty.ensures) in
    rw ((c.in-Ok.ensures).1) (small_value_is_number c.args.word.now c.loop-digit.n ge le value lt)

pub returns-in-Err : goal.returns-in-Err
returns-in-Err c =
    let all = c.loop-digit-test.false in
    let value : digits_value 0 c.args.word.now ≡ Some c.loop-digit.n = sym c.loop-digit.invariant.value
    ∙ ap (digits_value c.loop-digit.n) (drop_all c.loop-digit.digit-index c.args.word.now all) in
    let le : length c.args.word.now ≤ 10 = c.if-word-gt10.false in
    let ge : 1 ≤ length c.args.word.now = grind (arith, c.if-is_empty.ensures) in
    let large : 4294967296 ≤ c.loop-digit.n = omega (arith, c.in-Err.ensures) in
    large_value_is_no_number c.args.word.now c.loop-digit.n ge le value large
