-- Number of results that a whole session takes in a clean run, and number of those that end a wait.
use Rattle.std.proofs.Common.{◌≡◌, ℕ, suc, ◌+◌, ◌*◌, max, Bool, true, false, cond, Option, Some, None, refl, sym, ◌∙◌, arith}
use Rattle.std.proofs.lemmas.Bool.{false_from_ne_true}
use Rattle.dfuse_host.specs.declared.plan.Plan.{Plan}
use Rattle.dfuse_host.specs.declared.work.Work.TheVariants as work
use Rattle.dfuse_host.specs.declared.place.Place.TheVariants as place
use Rattle.dfuse_host.specs.declared.step.Step.TheVariants as step
use Rattle.dfuse_host.specs.Images.{image_start, image_end}
use Rattle.dfuse_host.specs.Plans.{front_end}
use Rattle.dfuse_host.specs.Refusing.{has_empty, is_empty}
use Rattle.dfuse_host.specs.Settling.{phase_with_step, byte_in, to_leave, to_compare_front, to_write_front, to_compare, to_write}
use Rattle.dfuse_host.proofs.TouchedBytes.{nonempty_image_is_filled}
use Rattle.dfuse_link.specs.Counts.{IsPlanned, BlocksWritten, no_block, PlanCounts, BlocksRead, no_read, pointer_set_anew, read_on, start_pointer_sets, pointer_after_reading, command_count, request_count, CleanRunsAreCounted}
use Rattle.dfuse_link.proofs.CleanRunCounts.{CleanRunLasts, lasts_by_equal_counts, lasts_from_equal_phase}
use Rattle.dfuse_link.proofs.CleanSteps.{abort_lasts_one_more, ask_state_lasts_one_more}
use Rattle.dfuse_link.proofs.CleanWriting.{place_of_pointer, owed_abort_count, erasing_pages_lasts, blocks_written_last, blocks_written_last_from_pointer}
use Rattle.dfuse_link.proofs.CleanReading.{blocks_read_last, reading_pointer_not_before}
use Rattle.dfuse_link.proofs.CleanLeaving.{leave_request_count, leave_wait_count, leave_or_stay_lasts}
use Rattle.dfuse_link.proofs.CleanWorks.{front_written_to_end, front_compared_to_end, settled_erase_is_to_erase, rest_is_writing_work, front_is_writing_work, rest_is_reading_work, front_is_reading_work}

pub planned_image_is_filled : (plan : Plan) → IsPlanned plan → has_empty plan.image.now ≡ false
planned_image_is_filled plan ready = nonempty_image_is_filled plan.image.now (false_from_ne_true (is_empty plan.image.now)
    ready.sound.0.0.0.0.0.0.1)

some_is_not_none : (b : ℕ) → Some b ≡ None → ⊥
some_is_not_none b e = cc

-- If no byte is left before `end`, the session reads no block and doesn't set the pointer.
no_byte_means_no_reads : (plan : Plan) (end : ℕ) (pointer : Option ℕ) (at sets k : ℕ) (last : Option ℕ) →
    BlocksRead plan end pointer at sets k last →
    byte_in plan at end ≡ None → (sets ≡ 0) × (k ≡ 0)
no_byte_means_no_reads plan end pointer at _ _ _ (no_read is) e = (refl, refl)
no_byte_means_no_reads plan end pointer at (suc sets) (suc k) last (pointer_set_anew byte is not_so rest) e = absurd (some_is_not_none byte
    (sym is ∙ e))
no_byte_means_no_reads plan end pointer at sets (suc k) last (read_on byte is can rest) e = absurd (some_is_not_none byte (sym is ∙ e))

leave_counts_add_up : (t : Bool) (s : ℕ) → cond t (4 * s + 2) 0 ≡ 4 * cond t s 0 + cond t 2 0
leave_counts_add_up true s = omega arith
leave_counts_add_up false s = omega arith

module _ (plan : Plan) (ready : IsPlanned plan) (c : PlanCounts plan) where
  -- Number of results for writing and reading the front and for leaving, as a function of the number of front blocks.
  abbrev front_request_count : (front : ℕ) → ℕ
  front_request_count front = 8 * front + (6 * c.front_pointer_sets + (c.front_block_reads
      + leave_request_count plan (pointer_after_reading front c.pointer_after_rest c.pointer_after_front) plan.leaves))

  -- Number of results that end a wait while the front is written and read and the device leaves, as a function of the number of front
  -- blocks.
  abbrev front_wait_count : (front : ℕ) → ℕ
  front_wait_count front =
      2 * front + (c.front_pointer_sets + leave_wait_count plan (pointer_after_reading front c.pointer_after_rest c.pointer_after_front)
      plan.leaves)

  front_writing_lasts : (front : ℕ) → BlocksWritten plan (front_end plan) (image_start plan.image.now) front →
      CleanRunLasts plan (to_write_front plan (place_of_pointer c.pointer_after_rest) (image_start plan.image.now)) (owed_abort_count
      c.pointer_after_rest + front_request_count front)
      (front_wait_count front)
  front_writing_lasts _ (no_block is) =
      let none = no_byte_means_no_reads plan (front_end plan) None (image_start plan.image.now) c.front_pointer_sets c.front_block_reads
      c.pointer_after_front c.front_reads_are_counted
      is in
      let on : to_write_front plan (place_of_pointer c.pointer_after_rest) (image_start plan.image.now)
      ≡ to_leave plan (place_of_pointer c.pointer_after_rest) =
      front_written_to_end plan (place_of_pointer c.pointer_after_rest) (image_start plan.image.now) is
      ∙ front_compared_to_end plan (place_of_pointer c.pointer_after_rest) (image_start plan.image.now) is in
      lasts_from_equal_phase plan _ _ _ _ on
      (lasts_by_equal_counts plan _ (owed_abort_count c.pointer_after_rest + leave_request_count plan c.pointer_after_rest plan.leaves) _
      (leave_wait_count plan c.pointer_after_rest plan.leaves) _
      (omega (arith, none.0, none.1)) (omega (arith, none.0)) (leave_or_stay_lasts plan c.pointer_after_rest plan.leaves refl))
  front_writing_lasts (suc k) blocks =
      let leave = leave_or_stay_lasts plan c.pointer_after_front plan.leaves refl in
      let compared = blocks_read_last plan (planned_image_is_filled plan ready) (λ b. work.CompareFront b) (λ p at. to_compare_front plan p
      at) (front_end plan)
      (λ p. to_leave plan p) (front_is_reading_work plan ready) (leave_request_count plan c.pointer_after_front plan.leaves)
      (leave_wait_count plan c.pointer_after_front plan.leaves) None (image_start plan.image.now) c.front_pointer_sets c.front_block_reads
      c.pointer_after_front
      c.front_reads_are_counted leave in
      let behind = reading_pointer_not_before plan (planned_image_is_filled plan ready) (image_end plan.image.now) (front_end plan) None
      (front_end plan) c.rest_pointer_sets
      c.rest_block_reads c.pointer_after_rest c.rest_reads_are_counted (omega arith) (λ x e. cc) in
      blocks_written_last_from_pointer plan (planned_image_is_filled plan ready) (λ b. work.WriteFront b) (λ p at. to_write_front plan p
      at) (front_end plan)
      (λ p. to_compare_front plan p (image_start plan.image.now)) (front_is_writing_work plan ready) c.pointer_after_rest
      (6 * c.front_pointer_sets + (c.front_block_reads + leave_request_count plan c.pointer_after_front plan.leaves))
      (c.front_pointer_sets + leave_wait_count plan c.pointer_after_front plan.leaves) (image_start plan.image.now) k behind blocks
      (lasts_by_equal_counts plan _ (0 + (6 * c.front_pointer_sets + (c.front_block_reads + leave_request_count plan c.pointer_after_front
      plan.leaves))) _
      (c.front_pointer_sets + leave_wait_count plan c.pointer_after_front plan.leaves) _ (omega arith) refl compared)

  -- Number of results that remain once the session has written the image after the front.
  abbrev rest_request_count : ℕ
  rest_request_count = 6 * c.rest_pointer_sets + (c.rest_block_reads + front_request_count c.front)

  -- Number of results that end a wait, once the session has written the image after the front.
  abbrev rest_wait_count : ℕ
  rest_wait_count = c.rest_pointer_sets + front_wait_count c.front

  rest_writing_lasts : CleanRunLasts plan (to_write plan place.Lost (front_end plan) (image_end plan.image.now)) (8 * c.rest +
      rest_request_count)
      (2 * c.rest + rest_wait_count)
  rest_writing_lasts =
      let compared = blocks_read_last plan (planned_image_is_filled plan ready) (λ b. work.Compare b) (λ p at. to_compare plan p at)
      (image_end plan.image.now)
      (λ p. to_write_front plan p (image_start plan.image.now)) (rest_is_reading_work plan ready) (front_request_count c.front)
      (front_wait_count c.front) None
      (front_end plan) c.rest_pointer_sets c.rest_block_reads c.pointer_after_rest c.rest_reads_are_counted (front_writing_lasts c.front
      c.is_front) in
      blocks_written_last plan (planned_image_is_filled plan ready) (λ b. work.Write b (image_end plan.image.now))
      (λ p at. to_write plan p at (image_end plan.image.now)) (image_end plan.image.now) (λ p. to_compare plan p (front_end plan))
      (rest_is_writing_work plan ready) rest_request_count rest_wait_count (front_end plan) c.rest c.rest_is_counted
      (lasts_by_equal_counts plan _ (0 + rest_request_count) _ rest_wait_count _ (omega arith) refl compared)

  clean_session_lasts : CleanRunLasts plan (phase_with_step (work.Erase (image_start plan.image.now)) place.Lost step.Abort)
      (suc (suc (4 * c.pages + (8 * c.rest + rest_request_count)))) (c.pages + (2 * c.rest + rest_wait_count))
  clean_session_lasts =
      let erased = erasing_pages_lasts plan (8 * c.rest + rest_request_count) (2 * c.rest + rest_wait_count) (image_start plan.image.now)
      c.pages c.pages_are_counted
      rest_writing_lasts in
      abort_lasts_one_more plan (work.Erase (image_start plan.image.now)) place.Lost _ _
      (ask_state_lasts_one_more plan (work.Erase (image_start plan.image.now)) place.Lost _ _
      (lasts_from_equal_phase plan _ _ _ _ (settled_erase_is_to_erase plan place.Lost (image_start plan.image.now)) erased))

  requests_add_up : suc (suc (4 * c.pages + (8 * c.rest + rest_request_count))) ≡ request_count plan c + command_count plan c
  requests_add_up = omega (
    arith,
    leave_counts_add_up plan.leaves (start_pointer_sets plan (pointer_after_reading c.front c.pointer_after_rest c.pointer_after_front)),
  )

  waits_add_up : c.pages + (2 * c.rest + rest_wait_count) ≡ command_count plan c
  waits_add_up = omega arith

  session_lasts_as_counted : CleanRunLasts plan (phase_with_step (work.Erase (image_start plan.image.now)) place.Lost step.Abort)
      (request_count plan c + command_count plan c) (command_count plan c)
  session_lasts_as_counted = lasts_by_equal_counts plan _ _ _ _ _ requests_add_up waits_add_up clean_session_lasts

pub clean_runs_are_counted : CleanRunsAreCounted
clean_runs_are_counted plan limits c seens s ready enough run =
    (session_lasts_as_counted plan ready c).runs (max 1 limits.actions) limits.restarts seens s (omega (arith, enough)) run
