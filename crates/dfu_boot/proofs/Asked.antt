-- The medium accepts the operations of a trial.
use Rattle.std.proofs.Common.{◌≡◌, ℕ, ◌+◌, ◌≤◌, false, length, sym, ◌∙◌, ap, subst, arith}
use Rattle.dfu_slots.specs.Medium.{MediumState}
use Rattle.dfu_slots.specs.Image.{Active, gate_of}
use Rattle.dfu_slots.specs.Layout.{slot_size}
use Rattle.dfu_slots.proofs.Sectors.{gate_unit_at_most_256}
use Rattle.dfu_slots.proofs.Stands.{active_image_at_its_place}
use Rattle.dfu_slots.proofs.Newest.{test_finds_active_image}
use Rattle.dfu_boot.specs.trial.Marks.{mark_size, mark_at, is_mark_set, AreTries}
use Rattle.dfu_boot.specs.trial.Calls.{IsSettledSlot, IsStanding, MediumAccepts, MarkIsWithin, mark_op}
use Rattle.dfu_boot.specs.declared.trial.standing.Settled.{Settled}
use Rattle.dfu_boot.specs.declared.trial.standing.Trial.{Trial}
use Rattle.dfu_boot.specs.declared.trial.standing.Standing.TheVariants.{OnTrial}
use Rattle.dfu_boot.specs.declared.trial.operation.Operation.TheVariants.{Close}
use Rattle.dfu_boot.proofs.Places.{mark_ends_within_medium, slot_ends_within_medium, unset_mark_is_accepted, gate_close_is_accepted}

module _ (m : MediumState) (tries : ℕ) (t : Trial) (are : AreTries m.grain tries) (stands : IsStanding m tries (OnTrial t)) where
  -- The slot on trial ends within the medium.
  pub trial_slot_ends_within : t.slot + slot_size m.bytes ≤ length m.bytes
  trial_slot_ends_within = slot_ends_within_medium m t.slot t.base stands.0.sized stands.0.places

  -- The confirmation mark ends within the medium.
  pub confirmation_ends_within : mark_at m.grain t.slot 0 + mark_size m.grain ≤ length m.bytes
  confirmation_ends_within = mark_ends_within_medium m tries t.slot 0 stands.0.sized are (omega arith) trial_slot_ends_within

  pub confirmation_is_accepted : MediumAccepts m (mark_op m.grain t.slot 0) × MarkIsWithin m (mark_op m.grain t.slot 0)
  confirmation_is_accepted = (
    unset_mark_is_accepted m t.slot t.base stands.0.sized stands.0.places tries 0 are (omega arith) stands.0.unconfirmed,
    (confirmation_ends_within, gate_unit_at_most_256 m.grain.unit),
  )

  -- The medium accepts the erase that closes the gate.
  pub end_of_trial_is_accepted : MediumAccepts m (Close t.slot)
  end_of_trial_is_accepted = gate_close_is_accepted m t.slot t.base stands.0.sized stands.0.places are.sectors

module _ (m : MediumState) (tries : ℕ) (s : Settled) (are : AreTries m.grain tries) (settled : IsSettledSlot m s) where
  abbrev a : Active m settled.has.image
  a = settled.has.active

  place : a.at ≡ s.slot
  place = (test_finds_active_image (gate_of m) m.bytes a.at a.spare settled.has.image (active_image_at_its_place a)).0 ∙ sym settled.slot

  -- The slot of the active image ends within the medium.
  pub slot_of_image_ends_within : s.slot + slot_size m.bytes ≤ length m.bytes
  slot_of_image_ends_within = omega (arith, place, slot_ends_within_medium m a.at a.spare a.sized a.places)

  pub active_mark_ends_within : mark_at m.grain s.slot 0 + mark_size m.grain ≤ length m.bytes
  active_mark_ends_within = mark_ends_within_medium m tries s.slot 0 a.sized are (omega arith) slot_of_image_ends_within

  pub active_mark_is_accepted : is_mark_set m s.slot 0 ≡ false → MediumAccepts m (mark_op m.grain s.slot 0)
      × MarkIsWithin m (mark_op m.grain s.slot 0)
  active_mark_is_accepted unset = (
    subst (λ (p : ℕ). MediumAccepts m (mark_op m.grain p 0)) place
        (unset_mark_is_accepted m a.at a.spare a.sized a.places tries 0 are (omega arith) (ap (λ (p : ℕ). is_mark_set m p 0) place
        ∙ unset)),
    (active_mark_ends_within, gate_unit_at_most_256 m.grain.unit),
  )
