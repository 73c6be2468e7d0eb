-- Pieces of a text, appended one by one.
use Rattle.std.proofs.Common.{◌≡◌, ◌∙◌, ◌+◌, ◌<◌, ◌++◌, ℕ, List, OnOk, Result, Ok, Err, ap, append_assoc, get_or, length, sym, take}
use Rattle.std.specs.List.{flat_map}
use Rattle.std.proofs.lemmas.List.{flat_map_more, take_more}
use Rattle.dfu_plan.specs.PlanText.{head_text}
use Rattle.dfu_plan.specs.declared.text.Form.{Form}
use Rattle.dfu_plan.specs.declared.text.Form.TheVariants.{Arguments}
use Rattle.dfu_plan.specs.declared.text.Plan.{Plan}

-- If a text consists of `start` and the first `at` pieces, appending the next piece gives `start` and the first `at + 1` pieces.
pub piece_is_joined : {X : Type 0} (text : X → List ℕ) (pieces : List X) (at : ℕ) (d : X) (start before after : List ℕ) → at < length pieces
    → before ≡ start ++ flat_map text (take at pieces) → after ≡ before ++ text (get_or pieces at d)
    → after ≡ start ++ flat_map text (take (at + 1) pieces)
piece_is_joined {X = X} text pieces at d start before after below is more =
    let joined = flat_map_more text start (take at pieces) (get_or pieces at d) in
    let taken = ap (λ (xs : List X). start ++ flat_map text xs) (sym (take_more pieces at d below)) in
    more ∙ (ap (λ (bytes : List ℕ). bytes ++ text (get_or pieces at d)) is ∙ (joined ∙ taken))

-- If three texts are appended one after the other, and the last step succeeds, the result is the old text with the three texts after it.
pub three_texts_are_added : {T E : Type 0} (last : Result T E) (old one two three a b c : List ℕ) → one ≡ old ++ a → two ≡ one ++ b
    → OnOk last (three ≡ two ++ c) → OnOk last (three ≡ old ++ (a ++ b ++ c))
three_texts_are_added (Ok x) old one two three a b c first second third =
    let both = second ∙ (ap (λ (t : List ℕ). t ++ b) first ∙ append_assoc old a b) in
    third ∙ (ap (λ (t : List ℕ). t ++ c) both ∙ append_assoc old (a ++ b) c)
three_texts_are_added (Err e) old one two three a b c first second third = tt

-- If the form is `Arguments`, appending the text before the spans in C appends the head text of this form.
pub head_text_in_c_is_added : {T E : Type 0} (last : Result T E) (form : Form) (areas : ℕ) (p : Plan) (old new : List ℕ) → form ≡ Arguments
    → OnOk last (new ≡ old ++ head_text Arguments areas p) → OnOk last (new ≡ old ++ head_text form areas p)
head_text_in_c_is_added last form areas p old new is added = rw is added
