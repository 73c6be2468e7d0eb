use Rattle.std.proofs.Common.{◌≡◌, [], refl, append_assoc}
use Rattle.dfu_output.specs.judge.Texts.{texts_of_each, readings_text, verdict_text}
use Rattle.dfu_output.proofs.judge.texts.verdict_text.Goals as goal

-- The set 0 contains no habits, so its text is empty.
empty_set_has_no_text : readings_text 0 ≡ []
unfolding texts_of_each
empty_set_has_no_text = refl

pub returns-in-Kept : goal.returns-in-Kept
unfolding verdict_text
returns-in-Kept c = rw c.in-Kept.is (simp append_assoc (simp (empty_set_has_no_text, append_assoc) at c.kept_line.ensures))
