-- The images of a medium have at most one standing.
use Rattle.std.proofs.Common.{◌≡◌, ℕ, List, refl, sym, ◌∙◌, ap, arith}
use Rattle.dfu_slots.specs.Medium.{MediumState}
use Rattle.dfu_slots.specs.Image.{gate_of, Active}
use Rattle.dfu_slots.proofs.Newest.{test_finds_newest_slot}
use Rattle.dfu_boot.specs.trial.Marks.{is_mark_set, recorded_starts}
use Rattle.dfu_boot.specs.trial.Trial.{image_at}
use Rattle.dfu_boot.specs.trial.Calls.{IsStanding}
use Rattle.dfu_boot.specs.trial.Lists.{Tried, AreTrusted}
use Rattle.dfu_boot.specs.declared.trial.standing.Trial.{Trial}
use Rattle.dfu_boot.specs.declared.trial.standing.Standing.{Standing}
use Rattle.dfu_boot.specs.declared.trial.standing.Standing.TheVariants as standing
use Rattle.dfu_boot.proofs.Counting.{count_is_at_most_all_marks}
use Rattle.dfu_boot.proofs.Slots.{active_image_is_newest}

module _ (m : MediumState) (tries : ℕ) where
  pub standing_is_unique : (a b : Standing) → IsStanding m tries a → IsStanding m tries b → a ≡ b
  standing_is_unique (standing.Settled a) (standing.Settled b) x y =
      let slot : a.slot ≡ b.slot = x.slot ∙ sym y.slot in
      let confirmed : a.is_confirmed ≡ b.is_confirmed = x.confirmed ∙ ap (λ (p : ℕ). is_mark_set m p 0) slot ∙ sym y.confirmed in
      λ i. standing.Settled (record { slot = slot i; is_confirmed = confirmed i })
  standing_is_unique (standing.Settled a) (standing.OnTrial b) x y = absurd (x.none (record { at = b.slot; base = b.base; trial = y.0 }))
  standing_is_unique (standing.OnTrial a) (standing.Settled b) x y = absurd (y.none (record { at = a.slot; base = a.base; trial = x.0 }))
  standing_is_unique (standing.OnTrial a) (standing.OnTrial b) x y =
      let p = test_finds_newest_slot (gate_of m) m.bytes a.slot a.base x.0.places x.0.newest in
      let q = test_finds_newest_slot (gate_of m) m.bytes b.slot b.base y.0.places y.0.newest in
      let slot : a.slot ≡ b.slot = p.0 ∙ sym q.0 in
      let base : a.base ≡ b.base = p.1 ∙ sym q.1 in
      let count : a.starts ≡ b.starts = x.1 ∙ ap (λ (s : ℕ). recorded_starts m tries s) slot ∙ sym y.1 in
      λ i. standing.OnTrial (record { slot = slot i; base = base i; starts = count i })

-- If the active image is on trial, the trusted images are the two of the trial, with as many runs as recorded starts.
pub trial_images_are_trusted : (m : MediumState) (tries : ℕ) (t : Trial) (image : List ℕ) → IsStanding m tries (standing.OnTrial t) →
    Active m image
    → AreTrusted m tries (Tried (image_at m t.base) image t.starts)
trial_images_are_trusted m tries t image stands active = (
  t,
  stands,
  refl,
  active_image_is_newest m t.slot t.base image stands.0.places stands.0.newest active,
  omega arith,
  omega (arith, stands.1, count_is_at_most_all_marks m t.slot 1 tries),
)
