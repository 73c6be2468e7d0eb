use Rattle.std.proofs.Common.{◌≡◌, ◌+◌, ◌<◌, ◌∙◌, ℕ, List, [], ap, arith, fold, length, map, rules, sym, take}
use Rattle.std.specs.Prelude.{get_or}
use Rattle.std.specs.String.{string_bytes}
use Rattle.std.proofs.lemmas.List.{get_or-map, length-map}
use Rattle.std.proofs.lemmas.List.Sums.{fold_more}
use Rattle.dfu_cmd.specs.HexWords.{digits_after_word}
use Rattle.dfu_cmd.proofs.hexing.bare.Goals as goal

-- Adding the next word to the digits of the first `i` words gives the digits of the first `i + 1` words.
next_word_extends_digits : {X : Type 0} (text : X → List ℕ) (words : List X) (i : ℕ) (d : X) (old new w : List ℕ) → i < length words →
    d ≡ get_or words i d → w ≡ text d → old ≡ fold digits_after_word [] (take i (map text words)) → new ≡ digits_after_word old w →
    new ≡ fold digits_after_word [] (take (i + 1) (map text words))
next_word_extends_digits text words i d old new w lt at is so now =
    let within : i < length (map text words) = omega (arith, lt, length-map words text) in
    let here : get_or (map text words) i w ≡ w = get_or-map text words i d w lt ∙ (ap text (sym at) ∙ sym is) in
    now ∙ (ap (λ (x : List ℕ). digits_after_word x w) so ∙
    (ap (digits_after_word (fold digits_after_word [] (take i (map text words)))) (sym here)
    ∙ sym (fold_more digits_after_word [] (map text words) i w within)))

pub loop-word-preserved : goal.loop-word-preserved
loop-word-preserved c =
    next_word_extends_digits string_bytes c.args.words.now c.loop-word.word-index c.word-item.result _ _ c.deref.result.now
    (omega (arith, c.loop-word-test.true)) c.word-item.is (search rules) c.loop-word.invariant c.in_ok-digits.ensures
