-- On a medium without failures, a start with a try left runs the image on trial.
use Rattle.std.proofs.Common.{◌≡◌, ◌⊎◌, inl, inr, ℕ, zero, suc, ◌+◌, ◌<◌, Bool, true, List, length, replicate, slice_range, Option, Some, refl, sym, ◌∙◌, ap, subst, arith, if◌then◌else◌}
use Rattle.std.proofs.lemmas.Bool.{lt-ltb}
use Rattle.std.proofs.lemmas.List.{length-replicate}
use Rattle.dfu_slots.specs.declared.fault.WriteFault.{WriteFault}
use Rattle.dfu_slots.specs.Medium.{MediumState, Fuse, WriteMayFail, WroteBytes, WroteOrLied, FailedWrite, written}
use Rattle.dfu_slots.specs.Medium.Fuse.{Whole}
use Rattle.dfu_slots.proofs.Sectors.{gate_unit_at_least_16}
use Rattle.dfu_slots.proofs.BytesOutsideWrite.{written_bytes_in_range}
use Rattle.dfu_boot.specs.trial.Marks.{mark_size, mark_at, is_marked}
use Rattle.dfu_boot.specs.trial.Calls.{IsStanding, MarkIsWithin, mark_op, trial_start, runs_in}
use Rattle.dfu_boot.specs.trial.Laws.{OperationReportedOk, OperationReportedFailed}
use Rattle.dfu_boot.specs.declared.trial.operation.Operation.{Operation}
use Rattle.dfu_boot.specs.declared.trial.operation.Operation.TheVariants.{Mark, Close}
use Rattle.dfu_boot.specs.declared.trial.starting.Starting.{Starting}
use Rattle.dfu_boot.specs.declared.trial.standing.Trial.{Trial}
use Rattle.dfu_boot.specs.declared.trial.standing.Standing.{Standing}
use Rattle.dfu_boot.specs.declared.trial.standing.Standing.TheVariants.{OnTrial}
use Rattle.dfu_boot.proofs.Unique.{standing_is_unique}

-- A mark of at least one zero byte is set.
zeros_are_marked : (n : ℕ) → 0 < n → is_marked (replicate n 0) ≡ true
zeros_are_marked zero some = absurd (omega (arith, some))
zeros_are_marked (suc n) some = refl

-- No write fails on a medium whose fuse is `Whole`.
whole_fuse_write_never_fails : (fault : WriteFault) (m now : MediumState) (at : ℕ) (bytes : List ℕ) → m.fuse ≡ Whole →
    FailedWrite fault m at bytes now → ⊥
whole_fuse_write_never_fails fault m now at bytes whole f =
    subst (λ (x : Fuse). WriteMayFail x fault m.bytes at bytes now.bytes now.fuse) whole f.fuse

module _ (m now : MediumState) (tries : ℕ) (t : Trial) (left : t.starts < tries) (whole : m.fuse ≡ Whole) where
  -- Start of the image on trial, with a try left.
  abbrev marks : Starting
  marks = record { operation = Some (mark_op m.grain t.slot (t.starts + 1)); slot = t.slot; otherwise = t.base }

  start_is_of_trial : (s : Standing) → IsStanding m tries s → IsStanding m tries (OnTrial t) → trial_start m.grain tries s ≡ marks
  start_is_of_trial s stands trial =
      let abort_moves_host : Starting = record { operation = Some (Close t.slot); slot = t.base; otherwise = t.base } in
      ap (λ (x : Standing). trial_start m.grain tries x) (standing_is_unique m tries s (OnTrial t) stands trial)
      ∙ ap (λ (b : Bool). if b then marks else abort_moves_host) (lt-ltb t.starts tries left)

  mark_write_worked : (at len : ℕ) → WroteOrLied m at (replicate len 0) now → WroteBytes m at (replicate len 0) now
  mark_write_worked at len (inl w) = w
  mark_write_worked at len (inr lied) = absurd (whole_fuse_write_never_fails _ m now at (replicate len 0) whole lied)

  mark_operation_worked : (o : Operation) → OperationReportedOk m o now ⊎ OperationReportedFailed m o now → OperationReportedOk m o now
  mark_operation_worked o (inl w) = w
  mark_operation_worked (Mark at len) (inr f) = absurd (whole_fuse_write_never_fails _ m now at (replicate len 0) whole f)
  mark_operation_worked (Close at) (inr f) = absurd (whole_fuse_write_never_fails _ m now at (replicate m.grain.sector 255) whole f)

  worked_mark_runs_trial : MarkIsWithin m (mark_op m.grain t.slot (t.starts + 1)) →
      OperationReportedOk m (mark_op m.grain t.slot (t.starts + 1)) now
      → runs_in now marks marks.operation ≡ t.slot
  worked_mark_runs_trial within w =
      let at = mark_at m.grain t.slot (t.starts + 1) in
      let len = mark_size m.grain in
      let size : length (replicate {A = ℕ} len 0) ≡ len = length-replicate {A = ℕ} len 0 in
      let there : slice_range now.bytes at (at + len) ≡ replicate len 0 =
      ap (λ (l : List ℕ). slice_range l at (at + len)) (mark_write_worked at len w).bytes
      ∙ ap (λ (k : ℕ). slice_range (written m.bytes at (replicate len 0)) at (at + k)) (sym size)
      ∙ written_bytes_in_range m.bytes at (replicate len 0) (omega (arith, size, within.0)) in
      ap (λ (b : Bool). if b then t.slot else t.base)
      (ap (λ (l : List ℕ). is_marked l) there ∙ zeros_are_marked len (omega (arith, gate_unit_at_least_16 m.grain.unit)))

  -- On a medium without failures, a start with a try left runs the image on trial.
  pub start_runs_image_on_trial : (s : Standing) (o : Operation) → IsStanding m tries s → IsStanding m tries (OnTrial t)
      → (trial_start m.grain tries s).operation ≡ Some o → MarkIsWithin m o → OperationReportedOk m o now ⊎ OperationReportedFailed m o now
      → runs_in now (trial_start m.grain tries s) (trial_start m.grain tries s).operation ≡ t.slot
  start_runs_image_on_trial s o stands trial is within came =
      let start = start_is_of_trial s stands trial in
      let same : o ≡ mark_op m.grain t.slot (t.starts + 1) = same_some_same_operation o (mark_op m.grain t.slot (t.starts + 1))
      (sym is ∙ ap (λ (x : Starting). x.operation) start) in
      ap (λ (x : Starting). runs_in now x x.operation) start
      ∙ worked_mark_runs_trial (subst (λ (x : Operation). MarkIsWithin m x) same within)
      (subst (λ (x : Operation). OperationReportedOk m x now) same (mark_operation_worked o came))
    where
      same_some_same_operation : (x y : Operation) → ◌≡◌ {A = Option Operation} (Some x) (Some y) → x ≡ y
      same_some_same_operation x y e = cc

  -- On trial with a try left, the operation of a start is the mark of that start.
  pub start_on_trial_asks_mark : (s : Standing) → IsStanding m tries s → IsStanding m tries (OnTrial t)
      → (trial_start m.grain tries s).operation ≡ Some (mark_op m.grain t.slot (t.starts + 1))
  start_on_trial_asks_mark s stands trial = ap (λ (x : Starting). x.operation) (start_is_of_trial s stands trial)
