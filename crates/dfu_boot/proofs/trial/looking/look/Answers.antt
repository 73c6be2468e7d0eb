use Rattle.std.proofs.Common.{inl, inr, arith, sym, ◌∙◌, ℕ, Option, subst, IfSome, IfNone}
use Rattle.dfu_slots.specs.Layout.{HasHeader}
use Rattle.dfu_slots.specs.Image.{slot_of, SlotCounts}
use Rattle.dfu_boot.proofs.Places.{mark_ends_within_medium, slot_ends_within_medium, slot_places_swap}
use Rattle.dfu_boot.proofs.Slots.{slot_has_image}
use Rattle.dfu_boot.proofs.Closing.{found_places_are_slots, found_slot_is_newest, found_slot_is_filled, marks_exclude_trial}
use Rattle.dfu_boot.proofs.trial.looking.look.Goals.{else-not-is_confirmed-via-then-not-is_confirmed+else-is_set, else-not-is_confirmed-via-else-not-is_confirmed}
use Rattle.dfu_boot.proofs.trial.looking.look.Goals as goal

pub is_set-is_confirmed-requires : goal.is_set-is_confirmed-requires
is_set-is_confirmed-requires g c =
    let m = g.M.Medium.state c.args.medium.now in
    let e = c.in_ok-both.ensures in
    let p = c.in_ok-both.both.places.active in
    let q = c.in_ok-both.both.places.spare in
    mark_ends_within_medium m c.args.tries p 0 e.sized c.requires.tries (omega arith) (slot_ends_within_medium m p q e.sized
    (found_places_are_slots m p q e.ok e.active e.spare))

pub is_set-requires : goal.is_set-requires
is_set-requires g c =
    let m = g.M.Medium.state c.args.medium.now in
    let e = c.in_ok-both.ensures in
    let p = c.in_ok-both.both.places.active in
    let q = c.in_ok-both.both.places.spare in
    mark_ends_within_medium m c.args.tries q 0 e.sized c.requires.tries (omega arith)
    (slot_ends_within_medium m q p e.sized (slot_places_swap m.bytes p q (found_places_are_slots m p q e.ok e.active e.spare)))

pub starts-requires-clause-within : goal.starts-requires-clause-within
starts-requires-clause-within g c =
    let m = g.M.Medium.state c.args.medium.now in
    let e = c.in_ok-both.ensures in
    let p = c.in_ok-both.both.places.active in
    let q = c.in_ok-both.both.places.spare in
    slot_ends_within_medium m p q e.sized (found_places_are_slots m p q e.ok e.active e.spare)

pub returns-in-Some-clause-standing : goal.returns-in-Some-clause-standing
returns-in-Some-clause-standing g c =
    let m = g.M.Medium.state c.args.medium.now in
    let e = c.in_ok-both.ensures in
    let p = c.in_ok-both.both.places.active in
    let q = c.in_ok-both.both.places.spare in
    let places = found_places_are_slots m p q e.ok e.active e.spare in (
      record {
        sized = e.sized;
        places = places;
        newest = found_slot_is_newest m p q e.ok e.active e.spare;
        mine = found_slot_is_filled m p q e.ok e.active e.spare;
        other = slot_has_image m q p c.in-Some.field-0 e.sized (slot_places_swap m.bytes p q places)
            (subst (λ (o : Option ℕ). IfSome o (λ len. SlotCounts (slot_of m q))) c.in-Some.is e.counts)
            (subst (λ (o : Option ℕ). IfSome o (λ len. HasHeader (slot_of m q) len)) c.in-Some.is e.some);
        unconfirmed = sym c.is_set-is_confirmed.ensures ∙ c.if-not-is_confirmed.true;
        confirmed = sym c.is_set.ensures ∙ c.if-is_set.true;
      },
      c.starts.ensures.value,
    )

pub returns-in_default-clause-standing : goal.returns-in_default-clause-standing
returns-in_default-clause-standing g c =
    let m = g.M.Medium.state c.args.medium.now in
    let e = c.in_ok-both.ensures in
    let p = c.in_ok-both.both.places.active in
    let q = c.in_ok-both.both.places.spare in
    let none = subst (λ (o : Option ℕ). IfNone o (SlotCounts (slot_of m q) → (len : ℕ) → ¬ HasHeader (slot_of m q) len))
    c.in_default.is e.none in
    record {
      has = e.ok;
      slot = e.active;
      none = marks_exclude_trial m p q e.ok e.active e.spare (inr (inr (λ full. none full.counts _ full.header_is)));
      confirmed = c.is_set-is_confirmed.ensures;
    }

pub returns-else-not-is_confirmed-clause-standing : goal.returns-else-not-is_confirmed-clause-standing
returns-else-not-is_confirmed-clause-standing g c =
    let m = g.M.Medium.state c.args.medium.now in
    let e = c.in_ok-both.ensures in
    let p = c.in_ok-both.both.places.active in
    let q = c.in_ok-both.both.places.spare in
    record {
      has = e.ok;
      slot = e.active;
      none = marks_exclude_trial m p q e.ok e.active e.spare (elim c.else-not-is_confirmed.branch [
        | else-not-is_confirmed-via-then-not-is_confirmed+else-is_set w ↦ inr (inl (sym w.is_set.ensures ∙ w.if-is_set.false))
        | else-not-is_confirmed-via-else-not-is_confirmed w ↦ inl (sym c.is_set-is_confirmed.ensures ∙ w.if-not-is_confirmed.false)
      ]);
      confirmed = c.is_set-is_confirmed.ensures;
    }
