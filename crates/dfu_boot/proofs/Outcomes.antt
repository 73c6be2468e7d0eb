-- Outcomes of the operations of a trial.
use Rattle.std.proofs.Common.{◌≡◌, ◌⊎◌, inl, inr, ℕ, ◌+◌, ◌<◌, Bool, true, false, Some, refl, sym, ◌∙◌, ap, subst, arith, if◌then◌else◌}
use Rattle.std.proofs.lemmas.Bool.{cases_Bool}
use Rattle.dfu_slots.specs.Units.{Grain}
use Rattle.dfu_slots.specs.Medium.{MediumState, ChangedWithin}
use Rattle.dfu_slots.specs.Image.{capacity_of}
use Rattle.dfu_slots.proofs.Sectors.{gate_room_is_a_sector}
use Rattle.dfu_boot.specs.trial.Marks.{mark_size, mark_at, is_mark_set, recorded_starts, AreTries}
use Rattle.dfu_boot.specs.trial.Calls.{IsStanding, mark_op, runs_in}
use Rattle.dfu_boot.specs.trial.Laws.{TrialContinues, StartIsRecorded, IsConfirmed, ConfirmedImageIsBack, MarkOutcome, OperationOutcome, MarkReadsUnset}
use Rattle.dfu_boot.specs.declared.trial.starting.Starting.{Starting}
use Rattle.dfu_boot.specs.declared.trial.operation.Operation.TheVariants.{Close}
use Rattle.dfu_boot.specs.declared.trial.standing.Trial.{Trial}
use Rattle.dfu_boot.specs.declared.trial.standing.Standing.TheVariants.{OnTrial}
use Rattle.dfu_boot.proofs.Counting.{next_mark_is_not_set}
use Rattle.dfu_boot.proofs.Keeping.{unset_mark_continues_trial, set_mark_records_start, set_confirmation_confirms, gate_erase_ends_or_continues}

module _ (m now : MediumState) (tries : ℕ) (t : Trial) (are : AreTries m.grain tries) (stands : IsStanding m tries (OnTrial t))
    (lt : t.starts < tries) (grain : now.grain ≡ m.grain)
    (keeps : ChangedWithin (mark_at m.grain t.slot (t.starts + 1)) (mark_at m.grain t.slot (t.starts + 1) + mark_size m.grain) m.bytes
    now.bytes) where
  abbrev w : MediumState
  w = record now { grain = m.grain }

  abbrev next : ℕ
  next = t.starts + 1

  abbrev starting : Starting
  starting = record { operation = Some (mark_op m.grain t.slot next); slot = t.slot; otherwise = t.base }

  -- The mark of the next start was not set before its write.
  start_mark_was_unset : is_mark_set m t.slot next ≡ false
  start_mark_was_unset =
      let e : 1 + recorded_starts m tries t.slot ≡ next = omega (arith, stands.1) in
      sym (ap (λ (k : ℕ). is_mark_set m t.slot k) e) ∙ next_mark_is_not_set m t.slot 1 tries (omega (arith, stands.1, lt))

  start_mark_decides_slot_to_run : (b : Bool) → is_mark_set w t.slot next ≡ b → runs_in now starting starting.operation
      ≡ (if b then t.slot else t.base)
  unfolding is_mark_set
  start_mark_decides_slot_to_run b is = ap (λ (b : Bool). if b then t.slot else t.base) is

  unset_mark_reads_unset : is_mark_set w t.slot next ≡ false → MarkReadsUnset now starting.operation
  unfolding is_mark_set
  unset_mark_reads_unset is = is

  -- The image on trial runs, and the start is recorded; or the mark does not read as set, and the confirmed image runs.
  pub start_is_recorded_or_mark_unset : (StartIsRecorded m tries t now × (runs_in now starting starting.operation ≡ t.slot))
      ⊎ (TrialContinues m tries t now × (runs_in now starting starting.operation ≡ t.base) × MarkReadsUnset now starting.operation)
  start_is_recorded_or_mark_unset = elim (cases_Bool (is_mark_set w t.slot next)) [
    | inl set ↦ inl (
      subst (λ (x : Grain). StartIsRecorded m tries t (record now { grain = x })) (sym grain)
          (set_mark_records_start m now tries t are stands next (omega (arith, lt)) keeps refl set),
      start_mark_decides_slot_to_run true set,
    )
    | inr unset ↦ inr (
      subst (λ (x : Grain). TrialContinues m tries t (record now { grain = x })) (sym grain)
          (unset_mark_continues_trial m now tries t are stands next (omega (arith, lt)) keeps (unset ∙ sym start_mark_was_unset)),
      start_mark_decides_slot_to_run false unset,
      unset_mark_reads_unset unset,
    )
  ]

  pub start_mark_has_its_outcome : MarkOutcome m tries t now (runs_in now starting starting.operation)
  start_mark_has_its_outcome = elim start_is_recorded_or_mark_unset [
    | inl on ↦ inl on
    | inr same ↦ inr (same.0, same.1)
  ]

module _ (m now : MediumState) (tries : ℕ) (t : Trial) (are : AreTries m.grain tries) (stands : IsStanding m tries (OnTrial t)) where
  pub confirmed_or_trial_continues : OperationOutcome m (mark_op m.grain t.slot 0) now → IsConfirmed m t now ⊎ TrialContinues m tries t now
  confirmed_or_trial_continues carried =
      subst (λ (x : Grain). IsConfirmed m t (record now { grain = x }) ⊎ TrialContinues m tries t (record now { grain = x })) (sym carried.1)
      (elim (cases_Bool (is_mark_set (record now { grain = m.grain }) t.slot 0)) [
        | inl set ↦ inl (set_confirmation_confirms m now tries t are stands 0 (omega arith) carried.0 set)
        | inr unset ↦ inr (unset_mark_continues_trial m now tries t are stands 0 (omega arith) carried.0 (unset ∙ sym stands.0.unconfirmed))
      ])

  pub trial_continues_or_ends : OperationOutcome m (Close t.slot) now → TrialContinues m tries t now ⊎ ConfirmedImageIsBack m t now
  trial_continues_or_ends carried =
      subst (λ (x : Grain). TrialContinues m tries t (record now { grain = x }) ⊎ ConfirmedImageIsBack m t (record now { grain = x }))
      (sym carried.1)
      (gate_erase_ends_or_continues m now tries t are stands
      (subst (λ (k : ℕ). ChangedWithin t.slot (t.slot + k) m.bytes now.bytes)
      (sym (gate_room_is_a_sector m.grain (capacity_of m) stands.0.sized.whole are.sectors)) carried.0))
