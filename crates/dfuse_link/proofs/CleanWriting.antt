-- Number of results that erasing and writing take in a clean run, and number of those that end a wait.
use Rattle.std.proofs.Common.{◌≡◌, ℕ, suc, ◌+◌, ◌*◌, ◌<◌, ◌≤◌, Bool, false, cond, eqb, Option, Some, None, refl, ap, ◌∙◌, arith}
use Rattle.std.proofs.lemmas.Bool.Decides.{nat_tests}
use Rattle.std.proofs.lemmas.Bool.{eq-eqb}
use Rattle.dfuse_host.specs.declared.plan.Plan.{Plan}
use Rattle.dfuse_host.specs.declared.phase.Phase.{Phase}
use Rattle.dfuse_host.specs.declared.work.Work.{Work}
use Rattle.dfuse_host.specs.declared.work.Work.TheVariants as work
use Rattle.dfuse_host.specs.declared.place.Place.{Place}
use Rattle.dfuse_host.specs.declared.place.Place.TheVariants as place
use Rattle.dfuse_host.specs.declared.step.Step.TheVariants as step
use Rattle.dfuse_host.specs.Commands.{write_command, command_of, phase_after_command}
use Rattle.dfuse_host.specs.Images.{image_end}
use Rattle.dfuse_host.specs.Plans.{page_start, page_end, front_end, write_end}
use Rattle.dfuse_host.specs.Refusing.{has_empty}
use Rattle.dfuse_host.specs.Settling.{phase_with_step, settled_phase, sending_step, byte_in, erase_phase_for, to_erase, to_write}
use Rattle.dfuse_host.proofs.ForCallers.{set_address, write_bytes_at}
use Rattle.dfuse_link.specs.Counts.{Pages, no_page_left, page, BlocksWritten, no_block, block}
use Rattle.dfuse_link.proofs.CleanRunCounts.{CleanRunLasts, lasts_by_equal_counts, lasts_from_equal_phase}
use Rattle.dfuse_link.proofs.CleanSteps.{command_lasts_four_more, end_reading_lasts_one_more}
use Rattle.dfuse_link.proofs.NextBytes.{IsByteIn, byte_in_is_byte_of_part}

-- Place of a session: Reading with the address to which the pointer was set, or Lost if the pointer was not set for reading.
abbrev pub place_of_pointer : Option ℕ → Place
place_of_pointer None = place.Lost
place_of_pointer (Some pointer) = place.Reading pointer

-- Number of ABORTs that must precede the next command: one if the session is reading, and none otherwise.
abbrev pub owed_abort_count : Option ℕ → ℕ
owed_abort_count None = 0
owed_abort_count (Some pointer) = 1

no_page_left_to_erase : (plan : Plan) (p : Place) (at : ℕ) → byte_in plan at (image_end plan.image.now) ≡ None →
    to_erase plan p at ≡ to_write plan p (front_end plan) (image_end plan.image.now)
unfolding to_erase
no_page_left_to_erase plan p at e = ap (erase_phase_for plan p) e

next_page_is_erased : (plan : Plan) (p : Place) (at b : ℕ) → byte_in plan at (image_end plan.image.now) ≡ Some b →
    to_erase plan p at ≡ phase_with_step (work.Erase b) p (sending_step p)
unfolding to_erase
next_page_is_erased plan p at b e = ap (erase_phase_for plan p) e

pub erasing_pages_lasts : (plan : Plan) (n u at k : ℕ) → Pages plan at k →
    CleanRunLasts plan (to_write plan place.Lost (front_end plan) (image_end plan.image.now)) n u →
    CleanRunLasts plan (to_erase plan place.Lost at) (4 * k + n) (k + u)
erasing_pages_lasts plan n u at _ (no_page_left is) l =
    lasts_from_equal_phase plan (to_erase plan place.Lost at) _ _ _ (no_page_left_to_erase plan place.Lost at is)
    (lasts_by_equal_counts plan _ n _ u _ (omega arith) (omega arith) l)
erasing_pages_lasts plan n u at (suc k) (page byte is rest) l =
    let more = erasing_pages_lasts plan n u (page_end plan (page_start plan byte)) k rest l in
    lasts_from_equal_phase plan (to_erase plan place.Lost at) _ _ _ (next_page_is_erased plan place.Lost at byte is)
    (lasts_by_equal_counts plan (phase_with_step (work.Erase byte) place.Lost step.Send) (4 + (4 * k + n)) _ (1 + (k + u)) _ (omega arith)
    (omega arith)
    (command_lasts_four_more plan (work.Erase byte) place.Lost (4 * k + n) (k + u) more))

-- `works b` is the work that writes the image from the address `b` up to `end`. `here` is the phase for a place and an address, and `next`
-- the phase after the last byte.
pub record IsWritingWork (plan : Plan) (works : ℕ → Work) (here : Place → ℕ → Phase) (end : ℕ) (next : Place → Phase) : Type 0 where
  -- The phase is `next` if no byte is left before `end`.
  pub none : (p : Place) (at : ℕ) → byte_in plan at end ≡ None → here p at ≡ next p
  -- If a byte is left before `end`, the work writes it.
  pub some : (p : Place) (at b : ℕ) → byte_in plan at end ≡ Some b → here p at ≡ phase_with_step (works b) p (sending_step p)
  -- The command of the work sets the pointer to the byte, or writes the byte.
  pub sends : (p : Place) (b : ℕ) → command_of plan (works b) p ≡ write_command p b
  -- When the device is ready for a command, the work for a byte is in the phase for this byte.
  pub settles : (p : Place) (b : ℕ) → settled_phase plan (works b) p ≡ here p b
  -- After a block, the work continues at the end of the block.
  pub writes : (at b : ℕ) → IsByteIn plan at end b → phase_after_command plan (works b) (write_bytes_at b) ≡ here place.Lost
      (write_end plan b end)

greater_number_differs : (m n : ℕ) → n < m → eqb m n ≡ false
greater_number_differs m n h = grind (arith, nat_tests)

write_command_at_pointer : (b : ℕ) → write_command (place.At b) b ≡ write_bytes_at b
write_command_at_pointer b = ap (λ (t : Bool). cond t (write_bytes_at b) (set_address b)) (eq-eqb b b refl)

write_command_sets_pointer : (x b : ℕ) → b < x → write_command (place.At x) b ≡ set_address b
write_command_sets_pointer x b h = ap (λ (t : Bool). cond t (write_bytes_at b) (set_address b)) (greater_number_differs x b h)

module _ (plan : Plan) (filled : has_empty plan.image.now ≡ false) (works : ℕ → Work) (here : Place → ℕ → Phase) (end : ℕ)
    (next : Place → Phase) (r : IsWritingWork plan works here end next) where
  -- Writing a block takes two commands of four results each: one sets the pointer, and one sends the bytes.
  block_write_lasts : (p : Place) (at b m v : ℕ) → IsByteIn plan at end b → write_command p b ≡ set_address b →
      CleanRunLasts plan (here place.Lost (write_end plan b end)) m v
      → CleanRunLasts plan (phase_with_step (works b) p step.Send) (4 + (4 + m)) (1 + (1 + v))
  block_write_lasts p at b m v is sets l =
      let wrote : phase_after_command plan (works b) (command_of plan (works b) (place.At b)) ≡ here place.Lost (write_end plan b end) =
      ap (phase_after_command plan (works b)) (r.sends (place.At b) b ∙ write_command_at_pointer b) ∙ r.writes at b is in
      let written : CleanRunLasts plan (phase_with_step (works b) (place.At b) step.Send) (4 + m) (1 + v) =
      command_lasts_four_more plan (works b) (place.At b) m v (lasts_from_equal_phase plan _ _ m v wrote l) in
      let set : phase_after_command plan (works b) (command_of plan (works b) p) ≡ phase_with_step (works b) (place.At b) step.Send =
      ap (phase_after_command plan (works b)) (r.sends p b ∙ sets) ∙ r.settles (place.At b) b
      ∙ r.some (place.At b) b b is.is_its_own_next in
      command_lasts_four_more plan (works b) p (4 + m) (1 + v) (lasts_from_equal_phase plan _ _ (4 + m) (1 + v) set written)

  pub blocks_written_last : (n u at k : ℕ) → BlocksWritten plan end at k → CleanRunLasts plan (next place.Lost) n u →
      CleanRunLasts plan (here place.Lost at) (8 * k + n) (2 * k + u)
  blocks_written_last n u at _ (no_block is) l =
      lasts_from_equal_phase plan (here place.Lost at) _ _ _ (r.none place.Lost at is) (lasts_by_equal_counts plan _ n _ u _ (omega arith)
      (omega arith) l)
  blocks_written_last n u at (suc k) (block byte is rest) l =
      let more = blocks_written_last n u (write_end plan byte end) k rest l in
      lasts_from_equal_phase plan (here place.Lost at) _ _ _ (r.some place.Lost at byte is)
      (lasts_by_equal_counts plan (phase_with_step (works byte) place.Lost step.Send) (4 + (4 + (8 * k + n))) _ (1 + (1 + (2 * k + u))) _
      (omega arith)
      (omega arith)
      (block_write_lasts place.Lost at byte (8 * k + n) (2 * k + u) (byte_in_is_byte_of_part plan at end byte filled is) refl more))

  -- Writing takes eight results for each block, and one more for an ABORT if the session is reading. The address to which the pointer was
  -- set for reading must not lie before `end`.
  pub blocks_written_last_from_pointer : (pointer : Option ℕ) (n u at k : ℕ) → ((x : ℕ) → pointer ≡ Some x → end ≤ x) →
      BlocksWritten plan end at (suc k) →
      CleanRunLasts plan (next place.Lost) n u → CleanRunLasts plan (here (place_of_pointer pointer) at) (owed_abort_count pointer + (8 *
      suc k + n)) (2 * suc k + u)
  blocks_written_last_from_pointer None n u at k apart blocks l =
      lasts_by_equal_counts plan (here place.Lost at) (8 * suc k + n) _ (2 * suc k + u) _ (omega arith) refl (blocks_written_last n u at
      (suc k) blocks l)
  blocks_written_last_from_pointer (Some x) n u at k apart (block byte is rest) l =
      let more = blocks_written_last n u (write_end plan byte end) k rest l in
      let b = byte_in_is_byte_of_part plan at end byte filled is in
      let sets = write_command_sets_pointer x byte (omega (arith, b.to, apart x refl)) in
      let sent = block_write_lasts (place.At x) at byte (8 * k + n) (2 * k + u) b sets more in
      let back : settled_phase plan (works byte) (place.At x) ≡ phase_with_step (works byte) (place.At x) step.Send =
      r.settles (place.At x) byte ∙ r.some (place.At x) byte byte b.is_its_own_next in
      lasts_from_equal_phase plan (here (place.Reading x) at) _ _ _ (r.some (place.Reading x) at byte is)
      (lasts_by_equal_counts plan (phase_with_step (works byte) (place.Reading x) step.EndReading) (suc (4 + (4 + (8 * k + n)))) _
      (1 + (1 + (2 * k + u))) _ (omega arith) (omega arith)
      (end_reading_lasts_one_more plan (works byte) (place.Reading x) _ _ (lasts_from_equal_phase plan _ _ _ _ back sent)))
