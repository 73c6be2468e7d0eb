-- After each row of the table, a byte counts as read back only if it did before or if the session read it back with the row's result.
use Rattle.std.proofs.Common.{◌≡◌, ℕ, zero, suc, ◌≤◌, ◌⊎◌, inl, inr, true, sym, subst}
use Rattle.std.proofs.lemmas.Bool.{cases_lt}
use Rattle.dfuse_host.specs.declared.plan.Plan.{Plan}
use Rattle.dfuse_host.specs.declared.phase.Phase.{Phase}
use Rattle.dfuse_host.specs.declared.phase.Phase.TheVariants.{On, Over}
use Rattle.dfuse_host.specs.declared.work.Work.{Work}
use Rattle.dfuse_host.specs.declared.work.Work.TheVariants as work
use Rattle.dfuse_host.specs.declared.place.Place.{Place}
use Rattle.dfuse_host.specs.declared.place.Place.TheVariants as place
use Rattle.dfuse_host.specs.declared.step.Step.{Step}
use Rattle.dfuse_host.specs.declared.step.Step.TheVariants as step
use Rattle.dfuse_host.specs.declared.heard.Heard.{Heard}
use Rattle.dfuse_host.specs.declared.heard.Heard.TheVariants as heard
use Rattle.dfuse_host.specs.declared.command.Command.{Command}
use Rattle.dfuse_host.specs.declared.command.Command.TheVariants as command
use Rattle.dfuse_host.specs.Plans.{front_end, page_end, write_end}
use Rattle.dfuse_host.specs.Refusing.{apart_from}
use Rattle.dfuse_host.specs.Settling.{settled_phase}
use Rattle.dfuse_host.specs.Commands.{command_of, write_command, phase_after_command, phase_if_unsure}
use Rattle.dfuse_host.specs.Table.{read_on, row}
use Rattle.dfuse_host.specs.Sessions.{phase_within_budget, phase_without_actions, phase_resumed}
use Rattle.dfuse_host.specs.ReadBack.{HasByte, WasReadInWork, WasReadInPhase, ReadsBack, ClosesAfterCompare}
use Rattle.dfuse_host.proofs.RowForms.{RowForm, stays, settles, reads, does, doubts, fails, leaves, each_row_has_form}
use Rattle.dfuse_host.proofs.SettlingLaws.{settling_reads_no_byte, no_read_byte_at_erase, no_read_byte_at_write, read_byte_at_write_front}

module _ (plan : Plan) (a : ℕ) (apart : apart_from 0 plan.image.now ≡ true) (b : HasByte a plan.image.now) where
  unsure_phase_reads_no_byte : (w : Work) (c : Command) → WasReadInPhase plan (phase_if_unsure plan w c) a → WasReadInWork plan w a
  unsure_phase_reads_no_byte w (command.SetAddress at) h = h
  unsure_phase_reads_no_byte w (command.ErasePage at) h = h
  unsure_phase_reads_no_byte (work.Erase at) (command.Write from) h = h
  unsure_phase_reads_no_byte (work.EraseAgain page end) (command.Write from) h = h
  unsure_phase_reads_no_byte (work.Write at end) (command.Write from) h = h
  unsure_phase_reads_no_byte (work.Compare at) (command.Write from) h = h
  unsure_phase_reads_no_byte (work.WriteFront at) (command.Write from) h = absurd h
  unsure_phase_reads_no_byte (work.CompareFront at) (command.Write from) h = h
  unsure_phase_reads_no_byte work.Leave (command.Write from) h = h

  settled_phase_reads_no_byte : (w : Work) (p : Place) → WasReadInPhase plan (settled_phase plan w p) a → WasReadInWork plan w a
  settled_phase_reads_no_byte w p h = settling_reads_no_byte plan a apart b w p h

  done_write_has_no_read_byte : (at end : ℕ) (c : Command) → WasReadInPhase plan (phase_after_command plan (work.Write at end) c) a → ⊥
  done_write_has_no_read_byte at end (command.SetAddress from) h = settled_phase_reads_no_byte (work.Write at end) (place.At from) h
  done_write_has_no_read_byte at end (command.ErasePage from) h = no_read_byte_at_erase plan a apart b place.Lost (page_end plan from) h
  done_write_has_no_read_byte at end (command.Write from) h = no_read_byte_at_write plan a apart b place.Lost _ end h

  front_write_keeps_only_rest : (at : ℕ) (c : Command) → WasReadInPhase plan (phase_after_command plan (work.WriteFront at) c) a →
      front_end plan ≤ a
  front_write_keeps_only_rest at (command.SetAddress from) h = settled_phase_reads_no_byte (work.WriteFront at) (place.At from) h
  front_write_keeps_only_rest at (command.ErasePage from) h =
      absurd (no_read_byte_at_erase plan a apart b place.Lost (page_end plan from) h)
  front_write_keeps_only_rest at (command.Write from) h = read_byte_at_write_front plan a apart b place.Lost (write_end plan from (front_end
      plan)) h

  command_reads_no_byte : (w : Work) (p : Place) → WasReadInPhase plan (phase_after_command plan w (command_of plan w p)) a →
      WasReadInWork plan w a
  command_reads_no_byte (work.Erase at) p h = no_read_byte_at_erase plan a apart b place.Lost _ h
  command_reads_no_byte (work.EraseAgain page end) p h = no_read_byte_at_write plan a apart b place.Lost _ end h
  command_reads_no_byte (work.Write at end) p h = done_write_has_no_read_byte at end (write_command p at) h
  command_reads_no_byte (work.Compare at) p h = settled_phase_reads_no_byte (work.Compare at) (place.At at) h
  command_reads_no_byte (work.WriteFront at) p h = front_write_keeps_only_rest at (write_command p at) h
  command_reads_no_byte (work.CompareFront at) p h = settled_phase_reads_no_byte (work.CompareFront at) (place.At at) h
  command_reads_no_byte work.Leave p h = tt

  read_adds_only_read_byte : (w : Work) → WasReadInWork plan (read_on plan w) a →
      WasReadInWork plan w a ⊎ ReadsBack plan w step.Read (heard.Compared true) a
  read_adds_only_read_byte (work.Erase at) h = inl h
  read_adds_only_read_byte (work.EraseAgain page end) h = inl h
  read_adds_only_read_byte (work.Write at end) h = inl h
  read_adds_only_read_byte (work.Compare at) h = elim (cases_lt a at) [ inl w ↦ inl (h.0, w) | inr w ↦ inr (w, h.1) ]
  read_adds_only_read_byte (work.WriteFront at) h = inl h
  read_adds_only_read_byte (work.CompareFront at) h = elim h [
    | inl w ↦ inl (inl w)
    | inr w ↦ elim (cases_lt a at) [ inl k ↦ inl (inr k) | inr k ↦ inr (k, w) ]
  ]
  read_adds_only_read_byte work.Leave h = inl h

  form_adds_only_read_byte : (w : Work) (p : Place) (s : Step) (x : Heard) (next : Phase) → RowForm plan w p s x next →
      WasReadInPhase plan next a →
      WasReadInWork plan w a ⊎ ReadsBack plan w s x a
  form_adds_only_read_byte w p s x next (stays p' s' c) h = inl h
  form_adds_only_read_byte w p s x next (settles p') h = inl (settling_reads_no_byte plan a apart b w p' h)
  form_adds_only_read_byte w p s x next reads h = read_adds_only_read_byte w (settling_reads_no_byte plan a apart b (read_on plan w) p h)
  form_adds_only_read_byte w p s x next does h = inl (command_reads_no_byte w p h)
  form_adds_only_read_byte w p s x next doubts h = inl (unsure_phase_reads_no_byte w (command_of plan w p) h)
  form_adds_only_read_byte w p s x next (fails r no_success) h = absurd (no_success h)
  form_adds_only_read_byte w p s x next (leaves e) h = inl (subst (λ (v : Work). WasReadInWork plan v a) (sym e) tt)

  pub row_adds_only_read_byte : (w : Work) (p : Place) (s : Step) (x : Heard) → ClosesAfterCompare w s →
      WasReadInPhase plan (row plan w p s x) a
      → WasReadInWork plan w a ⊎ ReadsBack plan w s x a
  row_adds_only_read_byte w p s x c h = form_adds_only_read_byte w p s x (row plan w p s x) (each_row_has_form plan w p s x c) h

  spent_phase_reads_no_byte : (w : Work) (s : Step) → WasReadInPhase plan (phase_without_actions w s) a → WasReadInWork plan w a
  spent_phase_reads_no_byte work.Leave s h = tt
  spent_phase_reads_no_byte w s h = absurd h

  pub budget_reads_no_byte : (n : ℕ) (p : Phase) → WasReadInPhase plan (phase_within_budget n p) a → WasReadInPhase plan p a
  budget_reads_no_byte n (Over r) h = h
  budget_reads_no_byte zero (On s) h = spent_phase_reads_no_byte s.work s.step h
  budget_reads_no_byte (suc n) (On s) h = h

  pub resuming_reads_no_byte : (w : Work) (p : Place) (s : Step) → WasReadInPhase plan (phase_resumed plan w p s) a →
      WasReadInWork plan w a
  resuming_reads_no_byte w p (step.Poll last) h = unsure_phase_reads_no_byte w (command_of plan w p) h
  resuming_reads_no_byte w p (step.PollWait ms) h = unsure_phase_reads_no_byte w (command_of plan w p) h
  resuming_reads_no_byte w p s h = h
