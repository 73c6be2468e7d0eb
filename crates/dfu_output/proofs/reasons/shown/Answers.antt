use Rattle.std.proofs.Common.{rules, arith, ap, sym, ◌∙◌, ◌++◌, ◌-◌, string_bytes, encode_utf8}
use Rattle.std.proofs.lemmas.List.{append-nil}
use Rattle.dfu_output.proofs.ShownLaws.{empty_text_shows_nothing, nothing_shown_without_room, first_character_is_shown_first}
use Rattle.dfu_output.specs.ShownText.{visible_prefix}
use Rattle.dfu_output.proofs.reasons.shown.Goals as goal

pub returns-in_default : goal.returns-in_default
returns-in_default c =
    let line = string_bytes c.letters.line in
    sym (append-nil line) ∙ (ap (λ t. line ++ t) (sym (empty_text_shows_nothing c.letters.room c.letters.rest.now c.in_default.ensures))
    ∙ c.letters.invariant.1)

pub letters-preserved : goal.letters-preserved
letters-preserved c = (
  search rules,
  ap (λ t. t ++ visible_prefix (c.letters.room - 1) c.in-Some.after.now) (c.in_ok-push.ensures.bytes
      ∙ ap (λ x. string_bytes c.letters.line ++ encode_utf8 x) c.plain.ensures)
      ∙ (sym (first_character_is_shown_first (string_bytes c.letters.line) c.letters.rest.now c.in-Some.after.now c.in-Some.letter
      (c.letters.room - 1)
      c.letters.room c.in-Some.ensures (omega (arith, c.letters-test.true)))
      ∙ c.letters.invariant.1),
)

pub returns : goal.returns
returns c =
    let line = string_bytes c.letters.line in
    sym (append-nil line) ∙ (ap (λ t. line ++ t) (sym
    (nothing_shown_without_room c.letters.room c.letters.rest.now (omega (arith, c.letters-test.false))))
    ∙ c.letters.invariant.1)
