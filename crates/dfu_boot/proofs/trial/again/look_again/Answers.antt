use Rattle.std.proofs.Common.{◌≡◌, inl, inr, ℕ, Option, Some, None, sym, ◌∙◌, subst, arith, eq-eqb}
use Rattle.std.proofs.lemmas.Bool.{true≢false}
use Rattle.dfu_slots.specs.Medium.{MediumState}
use Rattle.dfu_slots.specs.Image.{gate_of, HasImage}
use Rattle.dfu_slots.proofs.Newest.{test_finds_newest_slot}
use Rattle.dfu_boot.specs.trial.Again.{IsImageWholeAt, ImagesAreWhole}
use Rattle.dfu_boot.specs.trial.Trial.{image_at}
use Rattle.dfu_boot.proofs.Slots.{newest_image_is_active}
use Rattle.dfu_boot.proofs.Closing.{marks_exclude_trial}
use Rattle.dfu_boot.proofs.trial.again.look_again.Goals.{then-is_confirmed-via-then-is_confirmed, then-is_confirmed-via-else-is_confirmed+then-not-is_open, then-is_confirmed-via-else-is_confirmed+else-not-is_open+then-not-is_set}
use Rattle.dfu_boot.proofs.trial.again.look_again.Goals as goal

-- If the images that `look` found are whole, the active image is whole.
active_image_is_whole : (m : MediumState) (at : ℕ) (base : Option ℕ) → ImagesAreWhole m at base → IsImageWholeAt m at
active_image_is_whole m at None whole = whole
active_image_is_whole m at (Some place) whole = whole.0

pub returns-then-is_confirmed-clause-stands : goal.returns-then-is_confirmed-clause-stands
returns-then-is_confirmed-clause-stands g c whole =
    let m = g.M.Medium.state c.args.medium.now in
    let p = c.in_ok-places.places.active in
    let q = c.in_ok-places.places.spare in
    let full = active_image_is_whole m c.args.at c.args.base whole p c.in_ok-places.ensures.at in
    let newest = c.is_ahead.ensures c.if-not-is_ahead.false full.counts in
    let there = test_finds_newest_slot (gate_of m) m.bytes p q c.in_ok-places.ensures.places newest in
    let has : HasImage m = record {
      image = image_at m p;
      active = newest_image_is_active m p q (c.is_sized.ensures.0 c.if-not-is_sized.false) c.in_ok-places.ensures.places newest full;
    } in
    record {
      has = has;
      slot = there.0;
      none = marks_exclude_trial m p q has there.0 there.1 (elim c.then-is_confirmed.branch [
        | then-is_confirmed-via-then-is_confirmed w ↦ inl (sym c.is_set-is_confirmed.ensures ∙ w.if-is_confirmed.true)
        | then-is_confirmed-via-else-is_confirmed+then-not-is_open w ↦
            inr (inr (λ filled. true≢false (sym (eq-eqb _ _ filled.counts.is_open) ∙ sym w.is_open.ensures ∙ w.if-not-is_open.true)))
        | then-is_confirmed-via-else-is_confirmed+else-not-is_open+then-not-is_set w ↦
            inr (inl (sym w.is_set.ensures ∙ w.if-not-is_set.true))
      ]);
      confirmed = c.is_set-is_confirmed.ensures;
    }

pub returns-clause-stands : goal.returns-clause-stands
returns-clause-stands g c whole =
    let m = g.M.Medium.state c.args.medium.now in
    let p = c.in_ok-places.places.active in
    let both = subst (λ (b : Option ℕ). ImagesAreWhole m c.args.at b) c.in_ok-base.was whole in
    let full = both.0 p c.in_ok-places.ensures.at in (
      record {
        sized = c.is_sized.ensures.0 c.if-not-is_sized.false;
        places = c.in_ok-places.ensures.places;
        newest = c.is_ahead.ensures c.if-not-is_ahead.false full.counts;
        mine = full;
        other = both.1 c.in_ok-places.places.spare
            (omega (arith, c.in_ok-places.ensures.at, c.if-branch-places.false));
        unconfirmed = sym c.is_set-is_confirmed.ensures ∙ c.if-is_confirmed.false;
        confirmed = sym c.is_set.ensures ∙ c.if-not-is_set.false;
      },
      c.starts.ensures.value,
    )
