-- The groups of works satisfy IsWorkGroup: until a command is done, a work of a group leads only to works of the same group.
use Rattle.std.proofs.Common.{◌≡◌, ℕ, ◌%◌, ◌^◌, inl, max, Bool, true, false, cond, eqb, refl, sym, ap, ◌∙◌, subst}
use Rattle.dfuse_host.specs.declared.plan.Plan.{Plan}
use Rattle.dfuse_host.specs.declared.phase.Phase.{Phase}
use Rattle.dfuse_host.specs.declared.work.Work.{Work}
use Rattle.dfuse_host.specs.declared.work.Work.TheVariants as work
use Rattle.dfuse_host.specs.declared.place.Place.{Place}
use Rattle.dfuse_host.specs.declared.place.Place.TheVariants as place
use Rattle.dfuse_host.specs.Commands.{write_command, command_of, phase_after_command, phase_after_erase, phase_after_write, work_after_unsure_write, phase_if_unsure}
use Rattle.dfuse_host.specs.Images.{image_start}
use Rattle.dfuse_host.specs.Plans.{page_start, page_end, front_end, write_end}
use Rattle.dfuse_host.specs.Settling.{phase_with_step, sending_step, to_write_front, to_write, erase_phase_for, to_erase, settled_phase}
use Rattle.dfuse_host.specs.Table.{read_on}
use Rattle.dfuse_host.proofs.ForCallers.{commands_have_fact, set_address, write_bytes_at}
use Rattle.dfu_formats.specs.memory.Lookups.{AddressOnOnePage}
use Rattle.dfuse_link.specs.Chips.{Chip, Device}
use Rattle.dfuse_link.proofs.Claims.{ErasedBytesBlank, IsQuiet, IsCommandDone}
use Rattle.dfuse_link.proofs.GroupRows.{StaysInGroup, IsWorkGroup}
use Rattle.dfuse_link.proofs.GroupTurns.{DoneStaysInGroup}
use Rattle.dfuse_link.proofs.FrontPages.{HasNoMixturePremises, image_start_is_first_byte, first_page_fits_32_bits}
use Rattle.dfuse_link.proofs.Groups.{front_page_start, WritesFrontOnItsPage, ErasesFirstPage, IsAfterComparison, FrontBlankAndQuiet, fact_keeps_any_phase_in_group, to_leave_stays_in_group, compare_front_stays_in_group, write_front_stays_in_group, compare_stays_in_group, write_stays_in_group, erase_stays_in_group}

module _ (one : AddressOnOnePage) (chip : Chip) (plan : Plan) (m : HasNoMixturePremises chip plan) (d : Device) where
  write_front_keeps_front_page : (p : Place) (at : ℕ) → StaysInGroup (WritesFrontOnItsPage plan) ⊥ (to_write_front plan p at)
  write_front_keeps_front_page p at = write_front_stays_in_group one chip plan m (WritesFrontOnItsPage plan) ⊥ (λ c h. h) (λ c. tt) tt p at

  write_keeps_front_page : (p : Place) (at end : ℕ) → StaysInGroup (WritesFrontOnItsPage plan) ⊥ (to_write plan p at end)
  write_keeps_front_page p at end =
      write_stays_in_group one chip plan m (WritesFrontOnItsPage plan) ⊥ (λ c h. h) (λ c. tt) tt (λ c. tt) (λ c e. tt) (λ c. tt) p at end

  erase_keeps_front_page : (p : Place) (at : ℕ) → StaysInGroup (WritesFrontOnItsPage plan) ⊥ (to_erase plan p at)
  erase_keeps_front_page p at = erase_stays_in_group one chip plan m (WritesFrontOnItsPage plan) ⊥ (λ c h. h) (λ c. tt) tt (λ c. tt) (λ c e.
      tt) (λ c. tt) p at

  settled_work_keeps_front_page : (w : Work) (p : Place) → WritesFrontOnItsPage plan w →
      StaysInGroup (WritesFrontOnItsPage plan) ⊥ (settled_phase plan w p)
  unfolding settled_phase
  settled_work_keeps_front_page (work.Erase at) p g = erase_keeps_front_page p at
  settled_work_keeps_front_page (work.EraseAgain page end) p g = inl tt
  settled_work_keeps_front_page (work.Write at end) p g = write_keeps_front_page p at end
  settled_work_keeps_front_page (work.Compare at) p g =
      compare_stays_in_group one chip plan m (WritesFrontOnItsPage plan) ⊥ (λ c h. h) (λ c. tt) tt (λ c. tt) (λ c e. tt) (λ c. tt) p at
  settled_work_keeps_front_page (work.WriteFront at) p g = write_front_keeps_front_page p at
  settled_work_keeps_front_page (work.CompareFront at) p g =
      compare_front_stays_in_group one chip plan m (WritesFrontOnItsPage plan) ⊥ (λ c h.
      h) (λ c. tt) tt p at
  settled_work_keeps_front_page work.Leave p g =
      to_leave_stays_in_group one chip plan m (WritesFrontOnItsPage plan) ⊥ (λ c h. h) (λ c. tt) tt p

  read_on_keeps_front_page : (w : Work) → WritesFrontOnItsPage plan w → WritesFrontOnItsPage plan (read_on plan w)
  read_on_keeps_front_page (work.Compare at) g = tt
  read_on_keeps_front_page (work.CompareFront at) g = tt
  read_on_keeps_front_page (work.WriteFront at) g = g
  read_on_keeps_front_page w g = tt

  work_again_keeps_front_page : (w : Work) → WritesFrontOnItsPage plan w → WritesFrontOnItsPage plan (work_after_unsure_write plan w)
  work_again_keeps_front_page (work.WriteFront at) g = tt
  work_again_keeps_front_page (work.Write at end) g = tt
  work_again_keeps_front_page w g = tt

  pub front_page_works_are_group : IsWorkGroup plan (WritesFrontOnItsPage plan) ⊥
  front_page_works_are_group = record {
    settles = settled_work_keeps_front_page;
    reads = read_on_keeps_front_page;
    doubts = λ w c g.
        commands_have_fact (λ v. StaysInGroup (WritesFrontOnItsPage plan) ⊥ (phase_if_unsure plan w v)) (λ at. inl g) (λ at. inl g) (λ
        at. inl (work_again_keeps_front_page w g)) c;
  }

  erased_page_keeps_front_page : (w : Work) (at : ℕ) → StaysInGroup (WritesFrontOnItsPage plan) ⊥ (phase_after_erase plan w at)
  erased_page_keeps_front_page (work.EraseAgain page end) at = write_keeps_front_page place.Lost (max page (front_end plan)) end
  erased_page_keeps_front_page w at = erase_keeps_front_page place.Lost (page_end plan at)

  written_block_keeps_front_page : (w : Work) (at : ℕ) → StaysInGroup (WritesFrontOnItsPage plan) ⊥ (phase_after_write plan w at)
  written_block_keeps_front_page (work.Write from end) at = write_keeps_front_page place.Lost (max from (write_end plan at end)) end
  written_block_keeps_front_page w at = write_front_keeps_front_page place.Lost (write_end plan at (front_end plan))

  pub done_command_keeps_front_page : DoneStaysInGroup chip plan (WritesFrontOnItsPage plan) (λ x. ⊥) d
  done_command_keeps_front_page w p g quiet is =
      commands_have_fact (λ v. StaysInGroup (WritesFrontOnItsPage plan) ⊥ (phase_after_command plan w v)) (λ at.
      settled_work_keeps_front_page w (place.At at) g)
      (λ at. erased_page_keeps_front_page w at)
      (λ at. written_block_keeps_front_page w at) (command_of plan w p)

  settled_first_page_erase : (p : Place) →
      settled_phase plan (work.Erase (image_start plan.image.now)) p ≡ phase_with_step (work.Erase (image_start plan.image.now)) p
      (sending_step p)
  unfolding settled_phase to_erase
  settled_first_page_erase p = ap (erase_phase_for plan p) (image_start_is_first_byte one chip plan m)

  -- A work that erases the image's first page still erases this page when the device is ready for a command.
  settled_first_erase_stays : (w : Work) (p : Place) → ErasesFirstPage plan w →
      StaysInGroup (ErasesFirstPage plan) (FrontBlankAndQuiet chip plan d) (settled_phase plan w p)
  settled_first_erase_stays w p e =
      let there : settled_phase plan w p ≡ phase_with_step (work.Erase (image_start plan.image.now)) p (sending_step p) =
      ap (λ (v : Work). settled_phase plan v p) e ∙ settled_first_page_erase p in
      subst (λ (q : Phase). StaysInGroup (ErasesFirstPage plan) (FrontBlankAndQuiet chip plan d) q) (sym there) (inl refl)

  pub erasing_works_are_group : IsWorkGroup plan (ErasesFirstPage plan) (FrontBlankAndQuiet chip plan d)
  erasing_works_are_group = record {
    settles = settled_first_erase_stays;
    reads = λ w e. ap (read_on plan) e;
    doubts = λ w c e.
        commands_have_fact (λ v. StaysInGroup (ErasesFirstPage plan) (FrontBlankAndQuiet chip plan d) (phase_if_unsure plan w v)) (λ at.
        inl e) (λ at. inl e)
        (λ at. inl (ap (work_after_unsure_write plan) e)) c;
  }

  -- If the device is quiet and the bytes that an erase of the front's page reaches are blank, the front is blank.
  erased_front_page_is_blank : IsQuiet d.device_work → ErasedBytesBlank chip (front_page_start plan % 2 ^ 32) d.memory →
      FrontBlankAndQuiet chip plan d
  erased_front_page_is_blank quiet phase_after_erase = (
    λ a f. phase_after_erase a (subst (λ (n : ℕ). chip.erases n a ≡ true) (sym (first_page_fits_32_bits one chip plan m)) (m.erases a f)),
    quiet,
  )

  pub done_erase_blanks_front : DoneStaysInGroup chip plan (ErasesFirstPage plan) (λ x. FrontBlankAndQuiet chip plan x) d
  done_erase_blanks_front w p e quiet is =
      let phase_after_erase : ErasedBytesBlank chip (front_page_start plan % 2 ^ 32) d.memory =
      subst (λ (v : Work). IsCommandDone chip (command_of plan v p) d.pointer d.memory) e is in
      fact_keeps_any_phase_in_group (ErasesFirstPage plan) (FrontBlankAndQuiet chip plan d) (erased_front_page_is_blank quiet
      phase_after_erase) (phase_after_command plan w (command_of plan w p))

  -- The phase to which a session goes to write the front has a work of the group IsAfterComparison, or the session is over.
  front_write_stays_after_compare : (p : Place) (at : ℕ) → StaysInGroup (IsAfterComparison plan) (FrontBlankAndQuiet chip plan d)
      (to_write_front plan p at)
  front_write_stays_after_compare p at = write_front_stays_in_group one chip plan m (IsAfterComparison plan) (FrontBlankAndQuiet chip plan
      d) (λ c h. h) (λ c. tt) tt p at

  -- A work after the comparison is still in its group when the device is ready for a command.
  settled_work_stays_compared : (w : Work) (p : Place) → IsAfterComparison plan w →
      StaysInGroup (IsAfterComparison plan) (FrontBlankAndQuiet chip plan d) (settled_phase plan w p)
  unfolding settled_phase
  settled_work_stays_compared (work.EraseAgain page end) p g = inl g
  settled_work_stays_compared (work.WriteFront at) p g = front_write_stays_after_compare p at
  settled_work_stays_compared (work.CompareFront at) p g =
      compare_front_stays_in_group one chip plan m (IsAfterComparison plan) (FrontBlankAndQuiet chip plan d) (λ c h. h) (λ c. tt) tt p at
  settled_work_stays_compared work.Leave p g = to_leave_stays_in_group one chip plan m (IsAfterComparison plan) (FrontBlankAndQuiet chip
      plan d) (λ c h. h) (λ c. tt) tt p
  settled_work_stays_compared w p g = absurd g

  read_on_stays_after_comparison : (w : Work) → IsAfterComparison plan w → IsAfterComparison plan (read_on plan w)
  read_on_stays_after_comparison (work.Compare at) g = absurd g
  read_on_stays_after_comparison (work.CompareFront at) g = tt
  read_on_stays_after_comparison w g = g

  work_again_stays_compared : (w : Work) → IsAfterComparison plan w → IsAfterComparison plan (work_after_unsure_write plan w)
  work_again_stays_compared (work.Write at end) g = absurd g
  work_again_stays_compared w g = g

  pub later_works_are_group : IsWorkGroup plan (IsAfterComparison plan) (FrontBlankAndQuiet chip plan d)
  later_works_are_group = record {
    settles = settled_work_stays_compared;
    reads = read_on_stays_after_comparison;
    doubts = λ w c g.
        commands_have_fact (λ v. StaysInGroup (IsAfterComparison plan) (FrontBlankAndQuiet chip plan d) (phase_if_unsure plan w v)) (λ
        at. inl g) (λ at. inl g)
        (λ at. inl (work_again_stays_compared w g)) c;
  }

  tested_front_write_stays : (at : ℕ) (t : Bool) → page_start plan at ≡ front_page_start plan →
      StaysInGroup (IsAfterComparison plan) (FrontBlankAndQuiet chip plan d) (phase_after_command plan (work.WriteFront at) (cond t
      (write_bytes_at at) (set_address at)))
  tested_front_write_stays at true g = front_write_stays_after_compare place.Lost (write_end plan at (front_end plan))
  tested_front_write_stays at false g = settled_work_stays_compared (work.WriteFront at) (place.At at) g

  written_front_stays_compared : (p : Place) (at : ℕ) → page_start plan at ≡ front_page_start plan →
      StaysInGroup (IsAfterComparison plan) (FrontBlankAndQuiet chip plan d) (phase_after_command plan (work.WriteFront at) (write_command
      p at))
  written_front_stays_compared place.Lost at g = settled_work_stays_compared (work.WriteFront at) (place.At at) g
  written_front_stays_compared (place.At x) at g = tested_front_write_stays at (eqb x at) g
  written_front_stays_compared (place.Reading x) at g = settled_work_stays_compared (work.WriteFront at) (place.At at) g

  pub done_command_stays_compared : DoneStaysInGroup chip plan (IsAfterComparison plan) (λ x. FrontBlankAndQuiet chip plan x) d
  done_command_stays_compared (work.EraseAgain page end) p g quiet is =
      fact_keeps_any_phase_in_group (IsAfterComparison plan) (FrontBlankAndQuiet chip plan d)
      (erased_front_page_is_blank quiet (subst (λ (n : ℕ). ErasedBytesBlank chip (n % 2 ^ 32) d.memory) g is))
      (phase_after_command plan (work.EraseAgain page end) (command_of plan (work.EraseAgain page end) p))
  done_command_stays_compared (work.WriteFront at) p g quiet is = written_front_stays_compared p at g
  done_command_stays_compared (work.CompareFront at) p g quiet is = settled_work_stays_compared (work.CompareFront at) (place.At at) g
  done_command_stays_compared work.Leave p g quiet is = settled_work_stays_compared work.Leave (place.At plan.start) g
  done_command_stays_compared w p g quiet is = absurd g
