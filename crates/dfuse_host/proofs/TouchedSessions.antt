-- The work of a session always touches the image.
use Rattle.std.proofs.Common.{◌≡◌, ℕ, zero, suc, pred, Bool, true, false, cond, eqb, refl, sym, subst, arith}
use Rattle.dfuse_host.specs.declared.plan.Plan.{Plan}
use Rattle.dfuse_host.specs.declared.phase.Phase.{Phase}
use Rattle.dfuse_host.specs.declared.phase.Phase.TheVariants.{On, Over}
use Rattle.dfuse_host.specs.declared.work.Work.{Work}
use Rattle.dfuse_host.specs.declared.work.Work.TheVariants as work
use Rattle.dfuse_host.specs.declared.place.Place.{Place}
use Rattle.dfuse_host.specs.declared.place.Place.TheVariants as place
use Rattle.dfuse_host.specs.declared.step.Step.{Step}
use Rattle.dfuse_host.specs.declared.step.Step.TheVariants as step
use Rattle.dfuse_host.specs.declared.heard.Heard.{Heard}
use Rattle.dfuse_host.specs.declared.heard.Heard.TheVariants as heard
use Rattle.dfuse_host.specs.declared.command.Command.TheVariants as command
use Rattle.dfuse_host.specs.declared.report.Report.TheVariants as report
use Rattle.dfuse_host.specs.declared.report.Leaving.TheVariants as leaving
use Rattle.dfuse_host.specs.declared.session.Session.{Session}
use Rattle.dfuse_host.specs.Plans.{front_end}
use Rattle.dfuse_host.specs.Refusing.{is_empty}
use Rattle.dfuse_host.specs.Commands.{write_command, command_of}
use Rattle.dfuse_host.specs.Table.{row}
use Rattle.dfuse_host.specs.Sessions.{phase_within_budget, phase_without_actions, phase_resumed, session_with_restart_taken, restarted_leaving, session_after_restart, session_after_step_heard, session_after_phase_heard}
use Rattle.dfuse_host.specs.ReadBack.{HasByte, ClosesAfterCompare, PhaseClosesAfterCompare}
use Rattle.dfuse_host.specs.Touching.{WorkTouchesImage, PhaseTouchesImage, ChangesOnlyImagePages, WorkAlwaysTouchesImage, OnlyTouchedPagesChange, FrontIsWrittenLast}
use Rattle.dfuse_host.proofs.RowForms.{each_row_has_form}
use Rattle.dfuse_host.proofs.TouchedBytes.{image_start_is_image_byte, write_changes_only_one_page}
use Rattle.dfuse_host.proofs.TouchLaws.{row_form_touches_image, unsure_phase_touches_image}

spent_phase_touches_image : (plan : Plan) (w : Work) (s : Step) → PhaseTouchesImage plan (phase_without_actions w s)
spent_phase_touches_image plan work.Leave s = tt
spent_phase_touches_image plan w s = tt

budgeted_phase_touches_image : (plan : Plan) (n : ℕ) (p : Phase) → PhaseTouchesImage plan p →
    PhaseTouchesImage plan (phase_within_budget n p)
budgeted_phase_touches_image plan n (Over r) h = tt
budgeted_phase_touches_image plan zero (On s) h = spent_phase_touches_image plan s.work s.step
budgeted_phase_touches_image plan (suc n) (On s) h = h

module _ (s : Session) (some : is_empty s.plan.image.now ≡ false) where
  resumed_phase_touches_image : (w : Work) (p : Place) (at : Step) → WorkTouchesImage s.plan w →
      PhaseTouchesImage s.plan (phase_resumed s.plan w p at)
  resumed_phase_touches_image w p (step.Poll last) h = unsure_phase_touches_image s.plan some w (command_of s.plan w p) h
  resumed_phase_touches_image w p (step.PollWait ms) h = unsure_phase_touches_image s.plan some w (command_of s.plan w p) h
  resumed_phase_touches_image w p at h = h

  restarted_phase_touches_image : (p : Phase) (n : ℕ) → PhaseTouchesImage s.plan p →
      PhaseTouchesImage s.plan (session_with_restart_taken s p n).phase
  restarted_phase_touches_image p zero h = budgeted_phase_touches_image s.plan (pred s.actions) (Over report.RestartsSpent) tt
  restarted_phase_touches_image p (suc n) h = budgeted_phase_touches_image s.plan (pred s.actions) p h

  restart_leaving_touches_image : (p : Place) (at : Step) → PhaseTouchesImage s.plan (restarted_leaving s p at).phase
  restart_leaving_touches_image p step.Close = budgeted_phase_touches_image s.plan (pred s.actions) (Over (report.Verified
      leaving.Unknown)) tt
  restart_leaving_touches_image p step.CloseProbe = budgeted_phase_touches_image s.plan (pred s.actions) (Over (report.Verified
      leaving.Unknown)) tt
  restart_leaving_touches_image p step.ClosePoll = budgeted_phase_touches_image s.plan (pred s.actions) (Over (report.Verified
      leaving.Unknown)) tt
  restart_leaving_touches_image p at = restarted_phase_touches_image (phase_resumed s.plan work.Leave p at) s.restarts
      (resumed_phase_touches_image work.Leave p at tt)

  restart_touches_image : (w : Work) (p : Place) (at : Step) → WorkTouchesImage s.plan w →
      PhaseTouchesImage s.plan (session_after_restart s w p at).phase
  restart_touches_image work.Leave p at h = restart_leaving_touches_image p at
  restart_touches_image w p at h = restarted_phase_touches_image (phase_resumed s.plan w p at) s.restarts (resumed_phase_touches_image w p
      at h)

  heard_step_touches_image : (w : Work) (p : Place) (at : Step) (x : Heard) → ClosesAfterCompare w at → WorkTouchesImage s.plan w
      → PhaseTouchesImage s.plan (session_after_step_heard s w p at x).phase
  heard_step_touches_image w p at heard.Restarted c h = restart_touches_image w p at h
  heard_step_touches_image w p at x c h =
      budgeted_phase_touches_image s.plan (pred s.actions) (row s.plan w p at x) (row_form_touches_image s.plan some w p at x (row s.plan w
      p at x) (each_row_has_form s.plan w p at x c) h)

  next_phase_touches_image : (p : Phase) (x : Heard) → s.phase ≡ p → PhaseClosesAfterCompare p → PhaseTouchesImage s.plan p
      → PhaseTouchesImage s.plan (session_after_phase_heard s p x).phase
  next_phase_touches_image (Over r) x e c h = subst (PhaseTouchesImage s.plan) (sym e) tt
  next_phase_touches_image (On at) x e c h = heard_step_touches_image at.work at.place at.step x c h

-- If the image isn't empty, the work of a session touches it at first and after any result, as long as the session reaches the leave
-- request only after the comparison.
pub session_touches_image_always : WorkAlwaysTouchesImage
session_touches_image_always = (
  λ plan limits some. image_start_is_image_byte plan.image.now some,
  λ s x some c h. next_phase_touches_image
      s some s.phase x refl c h,
)

write_command_changes_one_page : (plan : Plan) (at end : ℕ) (p : Place) → HasByte at plan.image.now →
    ChangesOnlyImagePages plan end (write_command p at)
write_command_changes_one_page plan at end place.Lost h = tt
write_command_changes_one_page plan at end (place.At p) h =
    elim (eqb p at) as (λ t. ChangesOnlyImagePages plan end (cond t (command.Write at) (command.SetAddress at))) [
      | true ↦
          write_changes_only_one_page plan at end h
      | false ↦ tt
    ]
write_command_changes_one_page plan at end (place.Reading p) h = tt

-- The command of a work that touches the image sets the pointer, erases a page that contains a byte of the image, or writes only bytes of
-- the image.
pub only_touched : OnlyTouchedPagesChange
only_touched plan (work.Erase at) p h = record { byte = at; has = h; is = refl }
only_touched plan (work.EraseAgain page end) p h = h
only_touched plan (work.Write at end) p h = write_command_changes_one_page plan at end p h.0
only_touched plan (work.Compare at) p h = tt
only_touched plan (work.WriteFront at) p h = write_command_changes_one_page plan at (front_end plan) p h
only_touched plan (work.CompareFront at) p h = tt
only_touched plan work.Leave p h = tt

tested_write_has_address : (from at : ℕ) (t : Bool) → cond t (command.Write from) (command.SetAddress from) ≡ command.Write at → from ≡ at
tested_write_has_address from at true e = cc
tested_write_has_address from at false e = cc

written_address_is_of_command : (p : Place) (from at : ℕ) → write_command p from ≡ command.Write at → from ≡ at
written_address_is_of_command place.Lost from at e = cc
written_address_is_of_command (place.At p) from at e = tested_write_has_address from at (eqb p from) e
written_address_is_of_command (place.Reading p) from at e = cc

-- When a work that touches the image writes a byte of the front, the session has read back every byte after the front.
pub front_written_after_rest_read : FrontIsWrittenLast
front_written_after_rest_read plan (work.Erase from) p at a b h e low front behind = cc
front_written_after_rest_read plan (work.EraseAgain page end) p at a b h e low front behind = cc
front_written_after_rest_read plan (work.Write from end) p at a b h e low front behind = absurd (omega (
  arith,
  h.1,
  written_address_is_of_command p from at e,
  low,
  front,
))
front_written_after_rest_read plan (work.Compare from) p at a b h e low front behind = cc
front_written_after_rest_read plan (work.WriteFront from) p at a b h e low front behind = behind
front_written_after_rest_read plan (work.CompareFront from) p at a b h e low front behind = cc
front_written_after_rest_read plan work.Leave p at a b h e low front behind = tt
