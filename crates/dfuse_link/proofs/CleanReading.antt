-- Number of results that reading back takes in a clean run, and number of those that end a wait.
use Rattle.std.proofs.Common.{◌≡◌, ℕ, suc, ◌+◌, ◌*◌, ◌≤◌, Bool, true, false, cond, eqb, Option, Some, None, refl, sym, ap, ◌∙◌, subst, arith}
use Rattle.std.proofs.lemmas.Bool.{eqb-true, eq-eqb}
use Rattle.dfuse_host.specs.declared.plan.Plan.{Plan}
use Rattle.dfuse_host.specs.declared.phase.Phase.{Phase}
use Rattle.dfuse_host.specs.declared.work.Work.{Work}
use Rattle.dfuse_host.specs.declared.place.Place.{Place}
use Rattle.dfuse_host.specs.declared.place.Place.TheVariants as place
use Rattle.dfuse_host.specs.declared.step.Step.{Step}
use Rattle.dfuse_host.specs.declared.step.Step.TheVariants as step
use Rattle.dfuse_host.specs.Commands.{command_of, phase_after_command}
use Rattle.dfuse_host.specs.Plans.{read_end}
use Rattle.dfuse_host.specs.ReadBack.{HasByte}
use Rattle.dfuse_host.specs.Refusing.{has_empty}
use Rattle.dfuse_host.specs.Settling.{phase_with_step, settled_phase, byte_in, can_read, comparing_step}
use Rattle.dfuse_host.specs.Table.{read_on}
use Rattle.dfuse_host.proofs.ForCallers.{set_address}
use Rattle.dfuse_link.specs.Counts as counts
use Rattle.dfuse_link.specs.Counts.{reaches, BlocksRead, no_read, pointer_set_anew}
use Rattle.dfuse_link.proofs.CleanRunCounts.{CleanRunLasts, lasts_by_equal_counts, lasts_from_equal_phase}
use Rattle.dfuse_link.proofs.CleanSteps.{command_lasts_four_more, begin_reading_lasts_one_more, end_reading_lasts_one_more, read_lasts_one_more}
use Rattle.dfuse_link.proofs.NextBytes.{IsByteIn, byte_in_is_byte_of_part}
use Rattle.dfuse_link.proofs.BlockEnds.{pointer_address_can_be_read, read_ends_after_byte}
use Rattle.dfuse_link.proofs.CleanWriting.{place_of_pointer, owed_abort_count}

-- `works b` is the work that reads the image back from the address `b` up to `end`. Its command sets the pointer to `b`. `here` is the
-- phase for a place and an address, and `next` the phase after the last byte.
pub record IsReadingWork (plan : Plan) (works : ℕ → Work) (here : Place → ℕ → Phase) (end : ℕ) (next : Place → Phase) : Type 0 where
  -- The phase is `next` if no byte is left before `end`.
  pub none : (p : Place) (at : ℕ) → byte_in plan at end ≡ None → here p at ≡ next p
  -- If a byte is left before `end`, the work compares it.
  pub some : (p : Place) (at b : ℕ) → byte_in plan at end ≡ Some b → here p at ≡ phase_with_step (works b) p (comparing_step plan b p)
  -- The command of the work sets the pointer to the byte.
  pub sends : (p : Place) (b : ℕ) → command_of plan (works b) p ≡ set_address b
  -- When the device is ready for a command, the work for a byte is in the phase for this byte.
  pub settles : (p : Place) (b : ℕ) → settled_phase plan (works b) p ≡ here p b
  -- After a block, the work continues at the end of the block.
  pub reads : (b : ℕ) → read_on plan (works b) ≡ works (read_end plan b end)

module _ (plan : Plan) where
  -- A byte that can't be read when the pointer is set to `x` isn't the byte at `x`.
  other_address_by_test : (x b : ℕ) (t : Bool) → eqb x b ≡ t → HasByte b plan.image.now → can_read plan x b ≡ false → t ≡ false
  other_address_by_test x b true e has not_so =
      let same : x ≡ b = eqb-true x b e in
      let can : can_read plan x b ≡ true = subst (λ (y : ℕ). can_read plan y b
      ≡ true) (sym same) (pointer_address_can_be_read plan b has) in
      sym can ∙ not_so
  other_address_by_test x b false e has not_so = refl

  unreadable_byte_sends_pointer : (x b : ℕ) → HasByte b plan.image.now → can_read plan x b ≡ false → comparing_step plan b (place.At x)
      ≡ step.Send
  unreadable_byte_sends_pointer x b has not_so = ap (λ (t : Bool). cond t step.BeginReading step.Send) (other_address_by_test x b (eqb x b)
      refl has not_so)

  comparing_begins_at_pointer : (b : ℕ) → comparing_step plan b (place.At b) ≡ step.BeginReading
  comparing_begins_at_pointer b = ap (λ (t : Bool). cond t step.BeginReading step.Send) (eq-eqb b b refl)

  comparing_step_by_reach : (x b : ℕ) (t : Bool) → can_read plan x b ≡ t → comparing_step plan b (place.Reading x)
      ≡ cond t step.Read step.EndReading
  comparing_step_by_reach x b t e = ap (λ (u : Bool). cond u step.Read step.EndReading) e

module _ (plan : Plan) (filled : has_empty plan.image.now ≡ false) (works : ℕ → Work) (here : Place → ℕ → Phase) (end : ℕ)
    (next : Place → Phase) (r : IsReadingWork plan works here end next) where
  -- The phase for a byte has the step that `comparing_step` selects.
  work_comes_to_step : (p : Place) (at b : ℕ) (s : Step) → byte_in plan at end ≡ Some b → comparing_step plan b p ≡ s
      → here p at ≡ phase_with_step (works b) p s
  work_comes_to_step p at b s is e = r.some p at b is ∙ ap (phase_with_step (works b) p) e

  -- Reading a block takes one result, in addition to the results of the rest of the work.
  block_read_lasts : (x b m v : ℕ) → CleanRunLasts plan (here (place.Reading x) (read_end plan b end)) m v →
      CleanRunLasts plan (phase_with_step (works b) (place.Reading x) step.Read) (suc m) v
  block_read_lasts x b m v l =
      let on : settled_phase plan (read_on plan (works b)) (place.Reading x) ≡ here (place.Reading x) (read_end plan b end) =
      ap (λ (w : Work). settled_phase plan w (place.Reading x)) (r.reads b) ∙ r.settles (place.Reading x) (read_end plan b end) in
      read_lasts_one_more plan (works b) (place.Reading x) m v (lasts_from_equal_phase plan _ _ m v on l)

  -- Setting the pointer and reading the first block take six results, one of which ends a wait. Then the rest of the work follows.
  pointer_set_read_lasts : (p : Place) (at b m v : ℕ) → IsByteIn plan at end b →
      CleanRunLasts plan (here (place.Reading b) (read_end plan b end)) m v →
      CleanRunLasts plan (phase_with_step (works b) p step.Send) (4 + suc (suc m)) (1 + v)
  pointer_set_read_lasts p at b m v is l =
      let read = block_read_lasts b b m v l in
      let ready : settled_phase plan (works b) (place.Reading b) ≡ phase_with_step (works b) (place.Reading b) step.Read =
      r.settles (place.Reading b) b
      ∙ work_comes_to_step (place.Reading b) b b step.Read is.is_its_own_next (comparing_step_by_reach plan b b true
      (pointer_address_can_be_read plan b is.has)) in
      let begins : CleanRunLasts plan (phase_with_step (works b) (place.At b) step.BeginReading) (suc (suc m)) v =
      begin_reading_lasts_one_more plan (works b) (place.At b) (suc m) v (lasts_from_equal_phase plan _ _ (suc m) v ready read) in
      let set : phase_after_command plan (works b) (command_of plan (works b) p) ≡ phase_with_step (works b)
      (place.At b) step.BeginReading =
      ap (phase_after_command plan (works b)) (r.sends p b)
      ∙ r.settles (place.At b) b
      ∙ work_comes_to_step (place.At b) b b step.BeginReading is.is_its_own_next (comparing_begins_at_pointer plan b) in
      command_lasts_four_more plan (works b) p (suc (suc m)) v (lasts_from_equal_phase plan _ _ (suc (suc m)) v set begins)

  -- If the pointer must be set again, the next block takes six results, one of which ends a wait. If the session was reading before, an
  -- ABORT precedes them.
  first_block_read_lasts : (pointer : Option ℕ) (at b m v : ℕ) → byte_in plan at end ≡ Some b → reaches plan pointer b ≡ false →
      CleanRunLasts plan (here (place.Reading b) (read_end plan b end)) m v →
      CleanRunLasts plan (here (place_of_pointer pointer) at) (owed_abort_count pointer + (6 + m)) (1 + v)
  first_block_read_lasts None at b m v is not_so l =
      lasts_from_equal_phase plan (here place.Lost at) _ _ _ (work_comes_to_step place.Lost at b step.Send is refl)
      (lasts_by_equal_counts plan (phase_with_step (works b) place.Lost step.Send) (4 + suc (suc m)) _ (1 + v) _ (omega arith) refl
      (pointer_set_read_lasts place.Lost at b m v (byte_in_is_byte_of_part plan at end b filled is) l))
  first_block_read_lasts (Some x) at b m v is not_so l =
      let byte = byte_in_is_byte_of_part plan at end b filled is in
      let back : settled_phase plan (works b) (place.At x) ≡ phase_with_step (works b) (place.At x) step.Send =
      r.settles (place.At x) b ∙ work_comes_to_step (place.At x) b b step.Send byte.is_its_own_next (unreadable_byte_sends_pointer plan x b
      byte.has not_so) in
      lasts_from_equal_phase plan (here (place.Reading x) at) _ _ _ (work_comes_to_step (place.Reading x) at b step.EndReading is
      (comparing_step_by_reach plan x b false not_so))
      (lasts_by_equal_counts plan (phase_with_step (works b) (place.Reading x) step.EndReading) (suc (4 + suc (suc m))) _ (1 + v) _ (omega
      arith) refl
      (end_reading_lasts_one_more plan (works b) (place.Reading x) _ _ (lasts_from_equal_phase plan _ _ _ _ back (pointer_set_read_lasts
      (place.At x) at b m v byte l))))

  -- A block that can be read without setting the pointer again takes one result.
  further_block_read_lasts : (pointer : Option ℕ) (at b m v : ℕ) → byte_in plan at end ≡ Some b → reaches plan pointer b ≡ true →
      CleanRunLasts plan (here (place_of_pointer pointer) (read_end plan b end)) m v →
      CleanRunLasts plan (here (place_of_pointer pointer) at) (suc m) v
  further_block_read_lasts None at b m v is can l = cc
  further_block_read_lasts (Some x) at b m v is can l =
      lasts_from_equal_phase plan (here (place.Reading x) at) _ _ _ (work_comes_to_step (place.Reading x) at b step.Read is
      (comparing_step_by_reach plan x b true can))
      (block_read_lasts x b m v l)

  pub blocks_read_last : (n u : ℕ) (pointer : Option ℕ) (at sets k : ℕ) (last : Option ℕ) → BlocksRead plan end pointer at sets k last →
      CleanRunLasts plan (next (place_of_pointer last)) (owed_abort_count last + n) u →
      CleanRunLasts plan (here (place_of_pointer pointer) at) (owed_abort_count pointer + (6 * sets + (k + n))) (sets + u)
  blocks_read_last n u pointer at _ _ _ (no_read is) l =
      lasts_from_equal_phase plan (here (place_of_pointer pointer) at) _ _ _ (r.none (place_of_pointer pointer) at is)
      (lasts_by_equal_counts plan _ (owed_abort_count pointer + n) _ u _ (omega arith) (omega arith) l)
  blocks_read_last n u pointer at (suc sets) (suc k) last (pointer_set_anew byte is not_so rest) l =
      let more = blocks_read_last n u (Some byte) (read_end plan byte end) sets k last rest l in
      lasts_by_equal_counts plan _ (owed_abort_count pointer + (6 + (1 + (6 * sets + (k + n))))) _ (1 + (sets + u)) _ (omega arith) (omega
      arith)
      (first_block_read_lasts pointer at byte _ _ is not_so more)
  blocks_read_last n u pointer at sets (suc k) last (counts.read_on byte is can rest) l =
      let more = blocks_read_last n u pointer (read_end plan byte end) sets k last rest l in
      lasts_by_equal_counts plan _ (suc (owed_abort_count pointer + (6 * sets + (k + n)))) _ (sets + u) _ (omega arith) refl
      (further_block_read_lasts pointer at byte _ _ is can more)

-- If reading begins at `low` or later, and the pointer was not set to an address before `low`, it isn't set to such an address afterwards.
pub reading_pointer_not_before : (plan : Plan) (filled : has_empty plan.image.now
    ≡ false) (end low : ℕ) (pointer : Option ℕ) (at sets k : ℕ)
    (last : Option ℕ) → BlocksRead plan end pointer at sets k last → low ≤ at → ((x : ℕ) → pointer ≡ Some x → low ≤ x) → (x : ℕ) →
    last ≡ Some x → low ≤ x
reading_pointer_not_before plan filled end low pointer at _ _ _ (no_read is) from behind = behind
reading_pointer_not_before plan filled end low pointer at (suc sets) (suc k) last (pointer_set_anew byte is not_so rest) from behind =
    let b = byte_in_is_byte_of_part plan at end byte filled is in
    let goes = read_ends_after_byte plan byte end b.has b.to in
    reading_pointer_not_before plan filled end low (Some byte) (read_end plan byte end) sets k last rest (omega (arith, from, b.from, goes))
    (λ x e. let same : byte ≡ x = cc in omega (arith, same, from, b.from))
reading_pointer_not_before plan filled end low pointer at sets (suc k) last (counts.read_on byte is can rest) from behind =
    let b = byte_in_is_byte_of_part plan at end byte filled is in
    let goes = read_ends_after_byte plan byte end b.has b.to in
    reading_pointer_not_before plan filled end low pointer (read_end plan byte end) sets k last rest (omega (arith, from, b.from, goes))
    behind
