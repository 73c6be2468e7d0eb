-- Unless a command is done, each turn keeps the session's work in its group, or ends the session.
use Rattle.std.proofs.Common.{◌≡◌, ℕ, inl, Option, refl, sym, ap, subst}
use Rattle.dfuse_host.specs.declared.plan.Plan.{Plan}
use Rattle.dfuse_host.specs.declared.phase.Phase.{Phase}
use Rattle.dfuse_host.specs.declared.phase.Phase.TheVariants.{On, Over}
use Rattle.dfuse_host.specs.declared.work.Work.{Work}
use Rattle.dfuse_host.specs.declared.place.Place.{Place}
use Rattle.dfuse_host.specs.declared.step.Step.{Step}
use Rattle.dfuse_host.specs.declared.step.Step.TheVariants as step
use Rattle.dfuse_host.specs.declared.seen.Seen.{Seen}
use Rattle.dfuse_host.specs.declared.seen.Seen.TheVariants as seen
use Rattle.dfuse_host.specs.declared.session.Session.{Session}
use Rattle.dfuse_host.specs.Commands.{command_of, phase_after_command}
use Rattle.dfuse_host.specs.Deeds.{DfuseDeed, Wait, dfuse_deed, deed_of_step}
use Rattle.dfuse_host.specs.Sessions.{phase_resumed, session_after_step_heard, session_after_heard, session_after_phase_heard, DfuseSeenMeaningIn, SessionRow}
use Rattle.dfuse_host.specs.Table.{row}
use Rattle.dfuse_host.specs.Wire.{DfuseSeenMeaning}
use Rattle.dfuse_host.proofs.ForCallers.{AnyHeard}
use Rattle.dfuse_link.specs.Chips.{Chip, Device, state_in}
use Rattle.dfuse_link.specs.Reactions.{Reaction}
use Rattle.dfuse_link.specs.Histories as histories
use Rattle.dfuse_link.specs.Histories.{SeenOfReaction, sent, waited}
use Rattle.dfuse_link.proofs.Claims.{IsQuiet, IsCommandDone, DeviceFitsStep, DeviceFitsPhase}
use Rattle.dfuse_link.proofs.RequestEffects.{arriving_statuses_keep_command, idle_status_means_done}
use Rattle.dfuse_link.proofs.HeardStates.{arrived_request_answers_status, get_status_says_state}
use Rattle.dfuse_link.proofs.SentClaims.{DeedArrives}
use Rattle.dfuse_link.proofs.UnchangedBytes.{HoldsInPhase}
use Rattle.dfuse_link.proofs.GroupRows.{StaysInGroup, IsWorkGroup, PollStaysInGroup, poll_stays_in_group, row_stays_in_group}
use Rattle.dfuse_link.proofs.Pairs.{DeviceAndSession, IsTurnOfBoth}
use Rattle.dfuse_link.proofs.ToldPhases.{fact_holds_after_restart, fact_holds_after_heard}

module _ (plan : Plan) (G : Work → Type 0) (B : Type 0) (r : IsWorkGroup plan G B) where
  resumed_phase_stays_in_group : (w : Work) (p : Place) (s : Step) → G w → StaysInGroup G B (phase_resumed plan w p s)
  resumed_phase_stays_in_group w p (step.Poll last) g = r.doubts w (command_of plan w p) g
  resumed_phase_stays_in_group w p (step.PollWait ms) g = r.doubts w (command_of plan w p) g
  resumed_phase_stays_in_group w p s g = inl g

module _ (s : Session) (G : Work → Type 0) (B : Type 0) (r : IsWorkGroup s.plan G B) where
  heard_step_stays_in_group : (w : Work) (p : Place) (at : Step) (h : AnyHeard) → G w → StaysInGroup G B (row s.plan w p at h) →
      StaysInGroup G B (session_after_step_heard s w p at h).phase
  heard_step_stays_in_group w p at h g = fact_holds_after_heard (StaysInGroup G B) (λ x. tt) s w p at h (resumed_phase_stays_in_group
      s.plan G B r w p at g)

-- After a completed command of a work in the group, the next work is in the group, or the fact `B` holds, or the session is over.
abbrev pub DoneStaysInGroup : Chip → Plan → (G : Work → Type 0) (B : Device → Type 0) → Device → Type 0
DoneStaysInGroup chip plan G B d =
    (w : Work) (p : Place) → G w → IsQuiet d.device_work → IsCommandDone chip (command_of plan w p) d.pointer d.memory →
    StaysInGroup G (B d) (phase_after_command plan w (command_of plan w p))

module _ (chip : Chip) (s : Session) (G : Work → Type 0) (B : Device → Type 0) (d' : Device) (r : IsWorkGroup s.plan G (B d'))
    (ok : DoneStaysInGroup chip s.plan G B d') where
  sent_poll_stays_in_group : (w : Work) (p : Place) (at : Step) (d : Device) (h : AnyHeard) (n : Option Reaction) (x : Seen) → (g : G w) →
      DeviceFitsStep chip s.plan w p at d → DeedArrives chip (deed_of_step s.plan w p at) d n d' → SeenOfReaction n x →
      DfuseSeenMeaning s.plan w at x h →
      PollStaysInGroup s.plan G (B d') r w p g at h
  sent_poll_stays_in_group w p (step.Poll last) d h n x g k comes is hears =
      let has = arriving_statuses_keep_command chip (command_of s.plan w p) p d d' 6 _ n comes k in
      let says = get_status_says_state s.plan w (step.Poll last) h d' (λ bytes e. e) n x is (arrived_request_answers_status chip d 6 _ n d'
      comes) hears in
      poll_stays_in_group s.plan G (B d') r w p g (state_in d'.device_work)
      (λ e.
      let phase_after_command = idle_status_means_done chip (command_of s.plan w p) p d'.device_work d'.pointer d'.memory e has in
      ok w p g phase_after_command.0 phase_after_command.1) last h says
  sent_poll_stays_in_group w p at d h n x g k comes is hears = tt

  sent_request_stays_in_group : (p : Phase) (d : Device) (h : AnyHeard) (n : Option Reaction) (x : Seen) → HoldsInPhase G p →
      DeviceFitsPhase chip s.plan p d →
      DeedArrives chip (dfuse_deed s.plan p) d n d' → SeenOfReaction n x → DfuseSeenMeaningIn s.plan p x h
      → StaysInGroup G (B d') (session_after_phase_heard s p h).phase
  sent_request_stays_in_group (On at) d h n x g k comes is hears =
      heard_step_stays_in_group s G (B d') r at.work at.place at.step h g
      (row_stays_in_group s.plan G (B d') r at.work at.place g at.step h
      (sent_poll_stays_in_group at.work at.place at.step d h n x g k comes is hears))
  sent_request_stays_in_group (Over rep) d h n x g k comes is hears = absurd comes

  wait_step_stays_in_group : (w : Work) (p : Place) (at : Step) (h : AnyHeard) (ms : ℕ) (g : G w) → deed_of_step s.plan w p at ≡ Wait ms →
      PollStaysInGroup s.plan G (B d') r w p g at h
  wait_step_stays_in_group w p (step.Poll last) h ms g e = cc
  wait_step_stays_in_group w p at h ms g e = tt

  wait_stays_in_group : (p : Phase) (h : AnyHeard) (ms : ℕ) → HoldsInPhase G p → dfuse_deed s.plan p ≡ Wait ms →
      StaysInGroup G (B d') (session_after_phase_heard s p h).phase
  wait_stays_in_group (On at) h ms g e =
      heard_step_stays_in_group s G (B d') r at.work at.place at.step h g
      (row_stays_in_group s.plan G (B d') r at.work at.place g at.step h (wait_step_stays_in_group at.work at.place at.step h ms g e))
  wait_stays_in_group (Over rep) h ms g e = cc

  restart_stays_in_group : (p : Phase) (h : AnyHeard) → s.phase ≡ p → HoldsInPhase G p → DfuseSeenMeaningIn s.plan p seen.Restarted h →
      StaysInGroup G (B d') (session_after_phase_heard s p h).phase
  restart_stays_in_group (On at) h f g hears =
      subst (λ y. StaysInGroup G (B d') (session_after_step_heard s at.work at.place at.step y).phase) (sym hears)
      (fact_holds_after_restart (StaysInGroup G (B d')) (λ x. tt) s at.work at.place at.step
      (resumed_phase_stays_in_group s.plan G (B d') r at.work at.place at.step g))
  restart_stays_in_group (Over rep) h f g hears = subst (λ (q : Phase). StaysInGroup G (B d') q) (sym f) tt

module _ (chip : Chip) (l l' : DeviceAndSession) (G : Work → Type 0) (B : Device → Type 0) (r : IsWorkGroup l.session.plan G (B l'.device))
    (ok : DoneStaysInGroup chip l.session.plan G B l'.device) where
  next_phase_stays_in_group : (x : Seen) (row : SessionRow l.session x l'.session) →
      StaysInGroup G (B l'.device) (session_after_heard l.session row.heard).phase →
      StaysInGroup G (B l'.device) l'.session.phase
  next_phase_stays_in_group x row k = subst (λ (p : Phase). StaysInGroup G (B l'.device) p) (sym (ap (λ (t : Session). t.phase) row.same)) k

  pub turn_stays_in_group : (x : Seen) → IsTurnOfBoth chip l x l' → HoldsInPhase G l.session.phase →
      DeviceFitsPhase chip l.session.plan l.session.phase l.device →
      StaysInGroup G (B l'.device) l'.session.phase
  turn_stays_in_group x (sent q body reaction is comes seen row) g k =
      next_phase_stays_in_group x row
      (sent_request_stays_in_group chip l.session G B l'.device r ok l.session.phase l.device row.heard reaction x g k
      (subst (λ (y : DfuseDeed). DeedArrives chip y l.device reaction l'.device) (sym is) comes) seen row.hears)
  turn_stays_in_group x (waited ms is same seen row) g k =
      next_phase_stays_in_group x row (wait_stays_in_group chip l.session G B l'.device r ok l.session.phase row.heard ms g is)
  turn_stays_in_group x (histories.restarted mid any way rests changed seen row) g k =
      next_phase_stays_in_group x row
      (restart_stays_in_group chip l.session G B l'.device r ok l.session.phase row.heard refl g
      (subst (λ (y : Seen). DfuseSeenMeaningIn l.session.plan l.session.phase y row.heard) seen row.hears))
