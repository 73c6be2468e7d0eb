-- A byte stays unchanged in each turn if no action of the session's works may change it.
use Rattle.std.proofs.Common.{◌≡◌, ℕ, Option, refl, sym, ap, ◌∙◌, subst}
use Rattle.dfuse_host.specs.declared.phase.Phase.{Phase}
use Rattle.dfuse_host.specs.declared.phase.Phase.TheVariants.{On, Over}
use Rattle.dfuse_host.specs.declared.work.Work.{Work}
use Rattle.dfuse_host.specs.declared.place.Place.{Place}
use Rattle.dfuse_host.specs.declared.step.Step.{Step}
use Rattle.dfuse_host.specs.declared.step.Step.TheVariants as step
use Rattle.dfuse_host.specs.declared.seen.Seen.{Seen}
use Rattle.dfuse_host.specs.declared.session.Session.{Session}
use Rattle.dfuse_host.specs.Deeds.{DfuseDeed, Wait, dfuse_deed, deed_of_step}
use Rattle.dfuse_host.specs.Table.{row}
use Rattle.dfuse_host.specs.Wire.{DfuseSeenMeaning}
use Rattle.dfuse_host.specs.Sessions.{session_after_step_heard, session_after_heard, session_after_phase_heard, DfuseSeenMeaningIn, SessionRow}
use Rattle.dfuse_host.proofs.ForCallers.{AnyHeard}
use Rattle.dfuse_link.specs.Chips.{Chip, Order, DeviceWork, CarriesOut, Device, DeviceAdvances}
use Rattle.dfuse_link.specs.Reactions.{Reaction}
use Rattle.dfuse_link.specs.Histories.{SeenOfReaction, RequestUnderWay, none, request, sent, waited, restarted}
use Rattle.dfuse_link.proofs.Changes.{IsSafeBeforeStart, byte_stays_if_safe}
use Rattle.dfuse_link.proofs.Claims.{DeviceFitsStep, DeviceFitsPhase}
use Rattle.dfuse_link.proofs.SentClaims.{DeedArrives}
use Rattle.dfuse_link.proofs.HeardStates.{arrived_request_answers_state, get_state_says_state}
use Rattle.dfuse_link.proofs.Safe.{IsSafeAt, KeepsByte, DeedLeavesByte, advance_keeps_byte}
use Rattle.dfuse_link.proofs.Passing.{advancing_device_is_busy}
use Rattle.dfuse_link.proofs.SessionTurns.{deed_keeps_read_byte}
use Rattle.dfuse_link.proofs.UntouchedBytes.{safe_byte_is_safe_before_start, IsSafeAtStep, IsSafeInPhase, safe_byte_is_safe_in_phase, phase_safe_byte_before_start, StartsNoChangeOfByte, arriving_aborts_start_nothing, arriving_get_states_start_none, arriving_clears_start_nothing, heard_stall_is_safe, abort_row_keeps_byte_safe, clear_wait_row_keeps_byte_safe, ask_state_row_keeps_byte_safe}
use Rattle.dfuse_link.proofs.UntouchedPhases.{heard_step_keeps_byte_safe}
use Rattle.dfuse_link.proofs.Pairs.{DeviceAndSession, IsTurnOfBoth}

-- The fact `Q` holds for the work of the phase.
abbrev pub HoldsInPhase : (Q : Work → Type 0) → Phase → Type 0
HoldsInPhase Q (On s) = Q s.work
HoldsInPhase Q (Over r) = Unit {0}

-- The byte at `a` stays unchanged, and the device carries out no order that may change it.
pub record ByteStaysUntilStart (chip : Chip) (a : ℕ) (d d' : Device) : Type 0 where
  pub byte : d'.memory a ≡ d.memory a
  pub now : IsSafeBeforeStart chip a d'.device_work

module _ (chip : Chip) (s : Session) (a : ℕ) (Q : Work → Type 0)
    (brings : (w : Work) (p : Place) (at : Step) (d : Device) → Q w → DeviceFitsStep chip s.plan w p at d →
    DeedLeavesByte chip a (deed_of_step s.plan w p at) d.pointer) where
  step_keeps_safe_byte : (w : Work) (p : Place) (at : Step) (d : Device) (r : Option Reaction) (d' : Device) → Q w →
      DeviceFitsStep chip s.plan w p at d →
      DeedArrives chip (deed_of_step s.plan w p at) d r d' → IsSafeAt chip a d.device_work → KeepsByte chip a d d'
  step_keeps_safe_byte w p at d r d' touches k comes safe =
      deed_keeps_read_byte chip a (deed_of_step s.plan w p at) d r d' comes (brings w p at d touches k) safe

  kept_byte_stays : (d d' : Device) → KeepsByte chip a d d' → ByteStaysUntilStart chip a d d'
  kept_byte_stays d d' k = record { byte = k.byte; now = safe_byte_is_safe_before_start chip a d'.device_work k.safe }

  unstarted_byte_stays : (d d' : Device) → StartsNoChangeOfByte chip a d d' → IsSafeBeforeStart chip a d.device_work →
      ByteStaysUntilStart chip a d d'
  unstarted_byte_stays d d' k now = record { byte = k.byte; now = k.now now }

  step_keeps_byte_safe : (w : Work) (p : Place) (at : Step) (d : Device) (r : Option Reaction) (d' : Device) → Q w →
      DeviceFitsStep chip s.plan w p at d →
      DeedArrives chip (deed_of_step s.plan w p at) d r d' → IsSafeAtStep chip a at d.device_work → ByteStaysUntilStart chip a d d'
  step_keeps_byte_safe w p step.Abort d r d' touches k comes own = unstarted_byte_stays d d' (arriving_aborts_start_nothing chip a _ d r d'
      comes) own
  step_keeps_byte_safe w p step.AskState d r d' touches k comes own = unstarted_byte_stays d d' (arriving_get_states_start_none chip a 1 _ d
      r d' comes) own
  step_keeps_byte_safe w p (step.ClearWait ms) d r d' touches k comes own = absurd comes
  step_keeps_byte_safe w p step.ClearStatus d r d' touches k comes own = unstarted_byte_stays d d' (arriving_clears_start_nothing chip a _ d
      r d' comes) own
  step_keeps_byte_safe w p at d r d' touches k comes own = kept_byte_stays d d' (step_keeps_safe_byte w p at d r d' touches k comes own)

  pub phase_keeps_byte_safe : (p : Phase) (d : Device) (r : Option Reaction) (d' : Device) → HoldsInPhase Q p →
      DeviceFitsPhase chip s.plan p d →
      DeedArrives chip (dfuse_deed s.plan p) d r d' → IsSafeInPhase chip a p d.device_work → ByteStaysUntilStart chip a d d'
  phase_keeps_byte_safe (On at) d r d' touches k comes own = step_keeps_byte_safe at.work at.place at.step d r d' touches k comes own
  phase_keeps_byte_safe (Over rep) d r d' touches k comes own = absurd comes

  -- After an action the byte is safe in the next phase, as defined by IsSafeInPhase.
  step_leads_to_safe_byte : (w : Work) (p : Place) (at : Step) (d : Device) (r : Option Reaction) (d' : Device) (h : AnyHeard) (x : Seen) →
      Q w →
      DeviceFitsStep chip s.plan w p at d → DeedArrives chip (deed_of_step s.plan w p at) d r d' → SeenOfReaction r x →
      DfuseSeenMeaning s.plan w at x h →
      IsSafeAtStep chip a at d.device_work →
      IsSafeInPhase chip a (session_after_step_heard s w p at h).phase d'.device_work
  step_leads_to_safe_byte w p step.Abort d r d' h x touches k comes is hears own =
      let now = (arriving_aborts_start_nothing chip a _ d r d' comes).now own in heard_step_keeps_byte_safe chip a d'.device_work now s w p
      step.Abort h
      (abort_row_keeps_byte_safe chip a w d'.device_work h now)
  step_leads_to_safe_byte w p step.AskState d r d' h x touches k comes is hears own =
      let now = (arriving_get_states_start_none chip a 1 _ d r d' comes).now own in
      heard_step_keeps_byte_safe chip a d'.device_work now s w p step.AskState h
      (ask_state_row_keeps_byte_safe chip a s.plan w d'.device_work h
      (get_state_says_state s.plan w step.AskState h d' (λ bytes e. e) r x is (arrived_request_answers_state chip d 1 _ r d' comes) hears)
      (heard_stall_is_safe chip a s.plan w h d _ r d' x is comes hears own) now)
  step_leads_to_safe_byte w p (step.ClearWait ms) d r d' h x touches k comes is hears own = absurd comes
  step_leads_to_safe_byte w p step.ClearStatus d r d' h x touches k comes is hears own =
      let now = (arriving_clears_start_nothing chip a _ d r d' comes).now own in heard_step_keeps_byte_safe chip a d'.device_work now s w p
      step.ClearStatus h now
  step_leads_to_safe_byte w p at d r d' h x touches k comes is hears own = safe_byte_is_safe_in_phase chip a (session_after_step_heard s w p
      at h).phase d'.device_work
      (step_keeps_safe_byte w p at d r d' touches k comes own).safe

  pub phase_leads_to_safe_byte : (p : Phase) (d : Device) (r : Option Reaction) (d' : Device) (h : AnyHeard) (x : Seen) → HoldsInPhase Q p →
      DeviceFitsPhase chip s.plan p d →
      DeedArrives chip (dfuse_deed s.plan p) d r d' → SeenOfReaction r x → DfuseSeenMeaningIn s.plan p x h →
      IsSafeInPhase chip a p d.device_work →
      IsSafeInPhase chip a (session_after_phase_heard s p h).phase d'.device_work
  phase_leads_to_safe_byte (On at) d r d' h x touches k comes is hears own = step_leads_to_safe_byte at.work at.place at.step d r d' h x
      touches k comes is hears own
  phase_leads_to_safe_byte (Over rep) d r d' h x touches k comes is hears own = absurd comes

  wait_leads_to_safe_byte : (w : Work) (p : Place) (at : Step) (device_work : DeviceWork) (h : AnyHeard) (ms : ℕ) →
      deed_of_step s.plan w p at ≡ Wait ms →
      IsSafeAtStep chip a at device_work →
      IsSafeInPhase chip a (session_after_step_heard s w p at h).phase device_work
  wait_leads_to_safe_byte w p (step.ClearWait m) device_work h ms e own =
      heard_step_keeps_byte_safe chip a device_work own s w p (step.ClearWait m) h (clear_wait_row_keeps_byte_safe chip a w m device_work h
      own)
  wait_leads_to_safe_byte w p step.Abort device_work h ms e own = cc
  wait_leads_to_safe_byte w p step.AskState device_work h ms e own = cc
  wait_leads_to_safe_byte w p step.ClearStatus device_work h ms e own = cc
  wait_leads_to_safe_byte w p at device_work h ms e own = safe_byte_is_safe_in_phase chip a (session_after_step_heard s w p at h).phase
      device_work own

  pub waiting_phase_keeps_byte_safe : (p : Phase) (device_work : DeviceWork) (h : AnyHeard) (ms : ℕ) → s.phase ≡ p → dfuse_deed s.plan p
      ≡ Wait ms →
      IsSafeInPhase chip a p device_work →
      IsSafeInPhase chip a (session_after_phase_heard s p h).phase device_work
  waiting_phase_keeps_byte_safe (On at) device_work h ms f e own = wait_leads_to_safe_byte at.work at.place at.step device_work h ms e own
  waiting_phase_keeps_byte_safe (Over r) device_work h ms f e own = cc

  byte_stays_while_under_way : (d mid : Device) → RequestUnderWay chip s d mid → HoldsInPhase Q s.phase →
      DeviceFitsPhase chip s.plan s.phase d
      → IsSafeInPhase chip a s.phase d.device_work →
      ByteStaysUntilStart chip a d mid
  byte_stays_while_under_way d _ none touches k own =
      record { byte = refl; now = phase_safe_byte_before_start chip a s.phase d.device_work own }
  byte_stays_while_under_way d mid (request {reaction = reaction} q body is comes) touches k own =
      phase_keeps_byte_safe s.phase d reaction mid touches k (subst (λ (x : DfuseDeed). DeedArrives chip x d reaction mid) (sym is) comes)
      own

-- A turn leaves the byte unchanged and safe in the next phase, as defined by IsSafeInPhase.
pub record TurnKeepsByteSafe (chip : Chip) (a : ℕ) (l l' : DeviceAndSession) : Type 0 where
  pub own : IsSafeInPhase chip a l'.session.phase l'.device.device_work
  pub byte : l'.device.memory a ≡ l.device.memory a

module _ (chip : Chip) (a : ℕ) where
  byte_is_safe_in_next_phase : (l l' : DeviceAndSession) (x : Seen) (row : SessionRow l.session x l'.session) →
      IsSafeInPhase chip a (session_after_heard l.session row.heard).phase l'.device.device_work →
      IsSafeInPhase chip a l'.session.phase l'.device.device_work
  byte_is_safe_in_next_phase l l' x row own =
      subst (λ (p : Phase). IsSafeInPhase chip a p l'.device.device_work) (sym (ap (λ (t : Session). t.phase) row.same)) own

  module _ (Q : Work → Type 0) (l l' : DeviceAndSession)
      (brings : (w : Work) (p : Place) (at : Step) (d : Device) → Q w → DeviceFitsStep chip l.session.plan w p at d →
      DeedLeavesByte chip a (deed_of_step l.session.plan w p at) d.pointer) where
    pub turn_keeps_byte_safe : (x : Seen) → IsTurnOfBoth chip l x l' → HoldsInPhase Q l.session.phase →
        DeviceFitsPhase chip l.session.plan l.session.phase l.device → IsSafeInPhase chip a l.session.phase l.device.device_work →
        TurnKeepsByteSafe chip a l l'
    turn_keeps_byte_safe x (sent q body reaction is comes seen row) touches k own =
        let by = subst (λ (y : DfuseDeed). DeedArrives chip y l.device reaction l'.device) (sym is) comes in
        record {
          own = byte_is_safe_in_next_phase l l' x row
              (phase_leads_to_safe_byte chip l.session a Q brings l.session.phase l.device reaction l'.device row.heard x touches k by seen
              row.hears own);
          byte = (phase_keeps_byte_safe chip l.session a Q brings l.session.phase l.device reaction l'.device touches k by own).byte;
        }
    turn_keeps_byte_safe x (waited ms is same seen row) touches k own = record {
      own = byte_is_safe_in_next_phase l l' x row
          (subst (λ (d : Device). IsSafeInPhase chip a (session_after_heard l.session row.heard).phase d.device_work) (sym same)
          (waiting_phase_keeps_byte_safe chip l.session a Q brings l.session.phase l.device.device_work row.heard ms refl is own));
      byte = ap (λ (d : Device). d.memory a) same;
    }
    turn_keeps_byte_safe x (restarted mid any way rests changed seen row) touches k own =
        let stays = byte_stays_while_under_way chip l.session a Q brings l.device mid way touches k own in
        record {
          own = byte_is_safe_in_next_phase l l' x row
              (safe_byte_is_safe_in_phase chip a (session_after_heard l.session row.heard).phase l'.device.device_work (subst (IsSafeAt chip
              a) (sym rests) (λ y. y)));
          byte = byte_stays_if_safe chip a mid.device_work mid.memory l'.device.memory changed stays.now ∙ stays.byte;
        }

busy_work_is_safe : (chip : Chip) (a : ℕ) (device_work : DeviceWork) (order : Order) → device_work ≡ CarriesOut order →
    IsSafeBeforeStart chip a device_work → IsSafeAt chip a device_work
busy_work_is_safe chip a device_work order e now = subst (IsSafeAt chip a) (sym e) (subst (IsSafeBeforeStart chip a) e now)

-- If the device continues its work by itself, the byte stays unchanged and safe in the phase, as defined by IsSafeInPhase.
pub advance_keeps_byte_safe : (chip : Chip) (a : ℕ) (l : DeviceAndSession) (d : Device) → DeviceAdvances chip l.device d →
    IsSafeInPhase chip a l.session.phase l.device.device_work → TurnKeepsByteSafe chip a l (record { device = d; session = l.session })
advance_keeps_byte_safe chip a l d x own =
    let busy = advancing_device_is_busy chip l.device d x in
    let safe = busy_work_is_safe chip a l.device.device_work busy.0 busy.1 (phase_safe_byte_before_start chip a l.session.phase
    l.device.device_work own) in
    let kept = advance_keeps_byte chip a l.device d x safe in
    record { own = safe_byte_is_safe_in_phase chip a l.session.phase d.device_work kept.safe; byte = kept.byte }
