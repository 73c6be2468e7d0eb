-- The slots of a start lie within the medium.
use Rattle.std.proofs.Common.{◌≡◌, ⊎_elim, ℕ, ◌+◌, ◌≤◌, Bool, true, false, nat_lt, Some, length, refl, sym, subst, arith, if◌then◌else◌}
use Rattle.dfu_slots.specs.Medium.{MediumState}
use Rattle.dfu_slots.specs.Layout.{slot_size}
use Rattle.dfu_boot.specs.trial.Calls.{mark_op, trial_start}
use Rattle.dfu_boot.specs.trial.Again.{MatchesMedium}
use Rattle.dfu_boot.specs.declared.trial.operation.Operation.TheVariants.{Close}
use Rattle.dfu_boot.specs.declared.trial.standing.Trial.{Trial}
use Rattle.dfu_boot.specs.declared.trial.standing.Standing.{Standing}
use Rattle.dfu_boot.specs.declared.trial.standing.Standing.TheVariants as standing
use Rattle.dfu_boot.specs.declared.trial.starting.Starting.{Starting}
use Rattle.dfu_boot.proofs.Places.{slot_places_swap, slot_ends_within_medium}

-- Both slots of a start end within the medium: the slot to run, and the slot to run if the mark does not read as set.
abbrev pub StartSlotsInMedium : MediumState → Starting → Type 0
StartSlotsInMedium m s = (s.slot + slot_size m.bytes ≤ length m.bytes) × (s.otherwise + slot_size m.bytes ≤ length m.bytes)

module _ (m : MediumState) (tries : ℕ) where
  -- If an image is on trial, both slots of a start end within the medium.
  on_trial : (t : Trial) → MatchesMedium m tries (standing.OnTrial t) → (b : Bool) → nat_lt t.starts tries ≡ b
      → StartSlotsInMedium m (trial_start m.grain tries (standing.OnTrial t))
  on_trial t fits b is =
      let marks : Starting = record { operation = Some (mark_op m.grain t.slot (t.starts + 1)); slot = t.slot; otherwise = t.base } in
      let abort_moves_host : Starting = record { operation = Some (Close t.slot); slot = t.base; otherwise = t.base } in
      let mine = slot_ends_within_medium m t.slot t.base fits.0 fits.1 in
      let base = slot_ends_within_medium m t.base t.slot fits.0 (slot_places_swap m.bytes t.slot t.base fits.1) in
      subst (λ (x : Bool). StartSlotsInMedium m (if x then marks else abort_moves_host)) (sym is) (either b mine base)
    where
      either : (b : Bool) → t.slot + slot_size m.bytes ≤ length m.bytes → t.base + slot_size m.bytes ≤ length m.bytes
          → StartSlotsInMedium m (if b then record {
            operation = Some (mark_op m.grain t.slot (t.starts + 1));
            slot = t.slot;
            otherwise =
                t.base;
          }
          else record { operation = Some (Close t.slot); slot = t.base; otherwise = t.base })
      either true mine base = (mine, base)
      either false mine base = (base, base)

  -- If a standing matches the medium, both slots of its start end within the medium.
  pub start_slots_end_in_medium : (s : Standing) → MatchesMedium m tries s → StartSlotsInMedium m (trial_start m.grain tries s)
  start_slots_end_in_medium (standing.Settled s) fits =
      let within : s.slot + slot_size m.bytes ≤ length m.bytes =
      ⊎_elim (λ p. omega (arith, p, fits.0.even)) (λ p. omega (arith, p, fits.0.even)) fits.1 in
      (within, within)
  start_slots_end_in_medium (standing.OnTrial t) fits = on_trial t fits (nat_lt t.starts tries) refl
