-- The medium accepts the operation of a start, for any images in its slots.
use Rattle.std.proofs.Common.{◌≡◌, inl, inr, ⊎_elim, ℕ, ◌+◌, ◌≤◌, ◌<◌, false, length, sym, ◌∙◌, ap, subst, arith}
use Rattle.dfu_slots.specs.Medium.{MediumState}
use Rattle.dfu_slots.specs.Image.{Active, gate_of, slot_of}
use Rattle.dfu_slots.proofs.Sectors.{gate_unit_at_most_256}
use Rattle.dfu_slots.proofs.Stands.{active_image_at_its_place}
use Rattle.dfu_slots.proofs.Newest.{test_finds_active_image}
use Rattle.dfu_boot.specs.trial.Marks.{mark_size, mark_at, is_mark_set, recorded_starts, AreTries}
use Rattle.dfu_boot.specs.trial.Calls.{IsSettledSlot, IsStanding, MediumAccepts, MarkIsWithin, image_place}
use Rattle.dfu_boot.specs.trial.Again.{MatchesMedium, IsImageWholeAt}
use Rattle.dfu_boot.specs.trial.Trial.{IsFilledSlot}
use Rattle.dfu_boot.specs.declared.trial.standing.Settled.{Settled}
use Rattle.dfu_boot.specs.declared.trial.standing.Trial.{Trial}
use Rattle.dfu_boot.specs.declared.trial.standing.Standing.{Standing}
use Rattle.dfu_boot.specs.declared.trial.standing.Standing.TheVariants as trials
use Rattle.dfu_boot.specs.declared.trial.operation.Operation.TheVariants.{Mark, Close}
use Rattle.dfu_boot.proofs.Places.{mark_ends_within_medium, slot_ends_within_medium, unset_mark_is_accepted, gate_close_is_accepted}
use Rattle.dfu_boot.proofs.Counting.{next_mark_is_not_set}
use Rattle.dfu_boot.proofs.Slots.{active_slot_is_filled}

-- A standing of a medium's images matches the medium.
pub standing_fits_slots : (m : MediumState) (tries : ℕ) (s : Standing) → IsStanding m tries s → MatchesMedium m tries s
standing_fits_slots m tries (trials.Settled s) stands =
    let a : Active m stands.has.image = stands.has.active in
    let place : a.at ≡ s.slot =
    (test_finds_active_image (gate_of m) m.bytes a.at a.spare stands.has.image (active_image_at_its_place a)).0 ∙ sym stands.slot in
    (a.sized, ⊎_elim (λ p. inl (sym place ∙ p.0)) (λ p. inr (sym place ∙ p.0)) a.places)
standing_fits_slots m tries (trials.OnTrial t) stands = (stands.0.sized, stands.0.places, stands.1)

-- If no image is on trial, the active slot is filled.
pub settled_slot_is_filled : (m : MediumState) (s : Settled) → IsSettledSlot m s → IsFilledSlot (slot_of m s.slot)
settled_slot_is_filled m s settled =
    let a : Active m settled.has.image = settled.has.active in
    let place : a.at ≡ s.slot =
    (test_finds_active_image (gate_of m) m.bytes a.at a.spare settled.has.image (active_image_at_its_place a)).0 ∙ sym settled.slot in
    subst (λ (x : ℕ). IsFilledSlot (slot_of m x)) place (active_slot_is_filled m settled.has.image a)

-- The image of a filled slot is whole at its offset, because no other slot's data begins there.
pub image_is_whole_at_place : (m : MediumState) (slot : ℕ) → IsFilledSlot (slot_of m slot) → IsImageWholeAt m (image_place m.grain slot)
image_is_whole_at_place m slot full other is =
    let same : slot ≡ other = omega (arith, is) in subst (λ (x : ℕ). IsFilledSlot (slot_of m x)) same full

module _ (m : MediumState) (tries : ℕ) (t : Trial) (are : AreTries m.grain tries) (fits : MatchesMedium m tries (trials.OnTrial t)) where
  module _ (lt : t.starts < tries) where
    next_start_mark_is_unset : is_mark_set m t.slot (t.starts + 1) ≡ false
    next_start_mark_is_unset =
        let e : 1 + recorded_starts m tries t.slot ≡ t.starts + 1 = omega (arith, fits.2) in
        sym (ap (λ (k : ℕ). is_mark_set m t.slot k) e) ∙ next_mark_is_not_set m t.slot 1 tries (omega (arith, fits.2, lt))

    pub start_mark_ends_within : mark_at m.grain t.slot (t.starts + 1) + mark_size m.grain ≤ length m.bytes
    start_mark_ends_within = mark_ends_within_medium m tries t.slot (t.starts + 1) fits.0 are (omega (arith, lt)) (slot_ends_within_medium
        m t.slot t.base fits.0 fits.1)

    -- The medium accepts the mark of the next start, and the mark lies within the medium.
    pub start_mark_is_accepted : (at len : ℕ) → at ≡ mark_at m.grain t.slot (t.starts + 1) → len ≡ mark_size m.grain
        → MediumAccepts m (Mark at len) × MarkIsWithin m (Mark at len)
    start_mark_is_accepted at len at_is len_is =
        let next = mark_at m.grain t.slot (t.starts + 1) in
        subst (λ (k : ℕ). MediumAccepts m (Mark k len) × MarkIsWithin m (Mark k len)) (sym at_is)
        (subst (λ (n : ℕ). MediumAccepts m (Mark next n) × MarkIsWithin m (Mark next n)) (sym len_is) (
          unset_mark_is_accepted m t.slot t.base fits.0 fits.1 tries (t.starts + 1) are (omega (arith, lt)) next_start_mark_is_unset,
          (start_mark_ends_within, gate_unit_at_most_256 m.grain.unit),
        ))

  -- The medium accepts the erase that closes the gate.
  pub gate_erase_is_accepted : MediumAccepts m (Close t.slot)
  gate_erase_is_accepted = gate_close_is_accepted m t.slot t.base fits.0 fits.1 are.sectors
