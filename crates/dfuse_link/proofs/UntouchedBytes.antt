-- Safety of a byte at each step of a session: no order that is carried out may change it. The requests that clear the device start no
-- order.
use Rattle.std.proofs.Common.{◌≡◌, ℕ, List, Option, Some, None, refl, sym, ◌∙◌, subst}
use Rattle.dfu_wire.specs.declared.states.State.{State}
use Rattle.dfu_wire.specs.declared.states.State.TheVariants as state
use Rattle.dfu_wire.specs.declared.requests.Request.{Request}
use Rattle.dfu_wire.specs.declared.requests.Request.TheVariants as request
use Rattle.dfuse_host.specs.declared.plan.Plan.{Plan}
use Rattle.dfuse_host.specs.declared.phase.Phase.{Phase}
use Rattle.dfuse_host.specs.declared.phase.Phase.TheVariants.{On, Over}
use Rattle.dfuse_host.specs.declared.work.Work.{Work}
use Rattle.dfuse_host.specs.declared.place.Place.TheVariants as place
use Rattle.dfuse_host.specs.declared.step.Step.{Step}
use Rattle.dfuse_host.specs.declared.step.Step.TheVariants as step
use Rattle.dfuse_host.specs.declared.seen.Seen.{Seen}
use Rattle.dfuse_host.specs.declared.seen.Seen.TheVariants as seen
use Rattle.dfuse_host.specs.Settling.{settled_phase}
use Rattle.dfuse_host.specs.Table.{state_found, on_abort, on_ask_state, on_clear_wait}
use Rattle.dfuse_host.specs.Wire.{DfuseReadsState, DfuseSeenMeaning}
use Rattle.dfuse_host.proofs.ForCallers.{AnyHeard, heards_have_fact}
use Rattle.dfuse_link.specs.Chips.{Chip, Order, DeviceWork, RestsInState, Pending, CarriesOut, state_in, Device}
use Rattle.dfuse_link.specs.Reactions.{Reaction, Acks, Data, Stalls, Reacts, stalls, shows, aborts, clears_error}
use Rattle.dfuse_link.specs.Histories.{RequestArrives, never, again, SeenOfReaction}
use Rattle.dfuse_link.proofs.Claims.{HeardSaysState}
use Rattle.dfuse_link.proofs.Changes.{IsSafeBeforeStart, stall_keeps_fact}
use Rattle.dfuse_link.proofs.Safe.{IsSafeAt}

pub safe_byte_is_safe_before_start : (chip : Chip) (a : ℕ) (device_work : DeviceWork) → IsSafeAt chip a device_work →
    IsSafeBeforeStart chip a device_work
safe_byte_is_safe_before_start chip a (RestsInState s) safe = tt
safe_byte_is_safe_before_start chip a (Pending order) safe = tt
safe_byte_is_safe_before_start chip a (CarriesOut order) safe = safe

-- At a step that clears the device, no order that is carried out may change the byte. A pending order may change it, because the session
-- sends no GETSTATUS, which would start the order. At other steps neither order may change the byte.
abbrev pub IsSafeAtStep : Chip → (a : ℕ) → Step → DeviceWork → Type 0
IsSafeAtStep chip a step.Abort device_work = IsSafeBeforeStart chip a device_work
IsSafeAtStep chip a step.AskState device_work = IsSafeBeforeStart chip a device_work
IsSafeAtStep chip a (step.ClearWait ms) device_work = IsSafeBeforeStart chip a device_work
IsSafeAtStep chip a step.ClearStatus device_work = IsSafeBeforeStart chip a device_work
IsSafeAtStep chip a s device_work = IsSafeAt chip a device_work

-- In this phase no order that is carried out may change the byte at `a`. A pending order may change it only while the session clears the
-- device or once the session is over.
abbrev pub IsSafeInPhase : Chip → (a : ℕ) → Phase → DeviceWork → Type 0
IsSafeInPhase chip a (On s) device_work = IsSafeAtStep chip a s.step device_work
IsSafeInPhase chip a (Over r) device_work = IsSafeBeforeStart chip a device_work

safe_byte_is_safe_at_step : (chip : Chip) (a : ℕ) (s : Step) (device_work : DeviceWork) → IsSafeAt chip a device_work →
    IsSafeAtStep chip a s device_work
safe_byte_is_safe_at_step chip a step.Abort device_work safe = safe_byte_is_safe_before_start chip a device_work safe
safe_byte_is_safe_at_step chip a step.AskState device_work safe = safe_byte_is_safe_before_start chip a device_work safe
safe_byte_is_safe_at_step chip a (step.ClearWait ms) device_work safe = safe_byte_is_safe_before_start chip a device_work safe
safe_byte_is_safe_at_step chip a step.ClearStatus device_work safe = safe_byte_is_safe_before_start chip a device_work safe
safe_byte_is_safe_at_step chip a s device_work safe = safe

pub safe_byte_is_safe_in_phase : (chip : Chip) (a : ℕ) (p : Phase) (device_work : DeviceWork) → IsSafeAt chip a device_work →
    IsSafeInPhase chip a p device_work
safe_byte_is_safe_in_phase chip a (On s) device_work safe = safe_byte_is_safe_at_step chip a s.step device_work safe
safe_byte_is_safe_in_phase chip a (Over r) device_work safe = safe_byte_is_safe_before_start chip a device_work safe

step_safe_byte_before_start : (chip : Chip) (a : ℕ) (s : Step) (device_work : DeviceWork) → IsSafeAtStep chip a s device_work →
    IsSafeBeforeStart chip a device_work
step_safe_byte_before_start chip a step.Abort device_work own = own
step_safe_byte_before_start chip a step.AskState device_work own = own
step_safe_byte_before_start chip a (step.ClearWait ms) device_work own = own
step_safe_byte_before_start chip a step.ClearStatus device_work own = own
step_safe_byte_before_start chip a s device_work own = safe_byte_is_safe_before_start chip a device_work own

pub phase_safe_byte_before_start : (chip : Chip) (a : ℕ) (p : Phase) (device_work : DeviceWork) → IsSafeInPhase chip a p device_work →
    IsSafeBeforeStart chip a device_work
phase_safe_byte_before_start chip a (On s) device_work own = step_safe_byte_before_start chip a s.step device_work own
phase_safe_byte_before_start chip a (Over r) device_work own = own

-- The byte stays unchanged, and the device starts no order that may change it.
pub record StartsNoChangeOfByte (chip : Chip) (a : ℕ) (d d' : Device) : Type 0 where
  pub byte : d'.memory a ≡ d.memory a
  pub now : IsSafeBeforeStart chip a d.device_work → IsSafeBeforeStart chip a d'.device_work

module _ (chip : Chip) (a : ℕ) where
  abort_starts_nothing : (d : Device) (body : List ℕ) (r : Reaction) (d' : Device) → Reacts chip d request.Abort body r d' →
      StartsNoChangeOfByte chip a d d'
  abort_starts_nothing d body _ _ (stalls _ _ device_work may is) =
      stall_keeps_fact (λ (t : DeviceWork). StartsNoChangeOfByte chip a d (record d { device_work = t })) d.device_work device_work is
      (record { byte = refl; now = λ x. x })
      (record { byte = refl; now = λ x. tt })
  abort_starts_nothing d body _ _ (aborts _ may) = record { byte = refl; now = λ x. tt }

  get_state_starts_nothing : (d : Device) (n : ℕ) (body : List ℕ) (r : Reaction) (d' : Device) →
      Reacts chip d (request.GetState n) body r d' →
      StartsNoChangeOfByte chip a d d'
  get_state_starts_nothing d n body _ _ (stalls _ _ device_work may is) =
      stall_keeps_fact (λ (t : DeviceWork). StartsNoChangeOfByte chip a d (record d { device_work = t })) d.device_work device_work is
      (record { byte = refl; now = λ x. x })
      (record { byte = refl; now = λ x. tt })
  get_state_starts_nothing d n body _ _ (shows _ _) = record { byte = refl; now = λ x. x }

  clear_status_starts_nothing : (d : Device) (body : List ℕ) (r : Reaction) (d' : Device) → Reacts chip d request.ClrStatus body r d' →
      StartsNoChangeOfByte chip a d d'
  clear_status_starts_nothing d body _ _ (stalls _ _ device_work may is) =
      stall_keeps_fact (λ (t : DeviceWork). StartsNoChangeOfByte chip a d (record d { device_work = t })) d.device_work device_work is
      (record { byte = refl; now = λ x. x })
      (record { byte = refl; now = λ x. tt })
  clear_status_starts_nothing d body _ _ (clears_error _ e) = record { byte = refl; now = λ x. tt }

  pub arriving_request_starts_nothing : (q : Request) (body : List ℕ) → ((d : Device) (r : Reaction) (d' : Device) →
      Reacts chip d q body r d' →
      StartsNoChangeOfByte chip a d d') →
      (d : Device) (r : Option Reaction) (d' : Device) → RequestArrives chip q body d r d' → StartsNoChangeOfByte chip a d d'
  arriving_request_starts_nothing q body each d _ _ never = record { byte = refl; now = λ x. x }
  arriving_request_starts_nothing q body each d _ d' (again {before = before} {mid = mid} {reaction = reaction} first last) =
      let k = arriving_request_starts_nothing q body each d before mid first in
      let l = each mid reaction d' last in
      record { byte = l.byte ∙ k.byte; now = λ x. l.now (k.now x) }

  pub arriving_aborts_start_nothing : (body : List ℕ) (d : Device) (r : Option Reaction) (d' : Device) →
      RequestArrives chip request.Abort body d r d' →
      StartsNoChangeOfByte chip a d d'
  arriving_aborts_start_nothing body d r d' comes = arriving_request_starts_nothing request.Abort body (λ x t y step. abort_starts_nothing
      x body t y step) d r d' comes

  pub arriving_get_states_start_none : (n : ℕ) (body : List ℕ) (d : Device) (r : Option Reaction) (d' : Device) →
      RequestArrives chip (request.GetState n) body d r d' → StartsNoChangeOfByte chip a d d'
  arriving_get_states_start_none n body d r d' comes = arriving_request_starts_nothing (request.GetState n) body (λ x t y step.
      get_state_starts_nothing x n body t y step) d r d' comes

  pub arriving_clears_start_nothing : (body : List ℕ) (d : Device) (r : Option Reaction) (d' : Device) →
      RequestArrives chip request.ClrStatus body d r d' →
      StartsNoChangeOfByte chip a d d'
  arriving_clears_start_nothing body d r d' comes = arriving_request_starts_nothing request.ClrStatus body (λ x t y step.
      clear_status_starts_nothing x body t y step) d r d' comes

  no_pending_order_is_safe : (device_work : DeviceWork) (n : ℕ) →
      ((order : Order) (m : ℕ) → device_work ≡ Pending order → request.GetState n ≡ request.GetState m → ⊥) →
      IsSafeBeforeStart chip a device_work →
      IsSafeAt chip a device_work
  no_pending_order_is_safe (RestsInState s) n may now = λ x. x
  no_pending_order_is_safe (Pending order) n may now = absurd (may order n refl refl)
  no_pending_order_is_safe (CarriesOut order) n may now = now

  -- If the device stalls GETSTATE, no order may change the byte, because the device has no order that isn't started.
  stalled_get_state_is_safe : (d : Device) (n : ℕ) (body : List ℕ) (r : Reaction) (d' : Device) → r ≡ Stalls →
      Reacts chip d (request.GetState n) body r d' →
      IsSafeBeforeStart chip a d.device_work → IsSafeAt chip a d'.device_work
  stalled_get_state_is_safe d n body _ _ e (stalls _ _ device_work may is) now =
      stall_keeps_fact (IsSafeAt chip a) d.device_work device_work is (no_pending_order_is_safe d.device_work n may now) (λ x. x)
  stalled_get_state_is_safe d n body _ _ e (shows _ _) now = cc

  pub arriving_stall_is_safe : (d : Device) (n : ℕ) (body : List ℕ) (d' : Device) →
      RequestArrives chip (request.GetState n) body d (Some Stalls) d' →
      IsSafeBeforeStart chip a d.device_work → IsSafeAt chip a d'.device_work
  arriving_stall_is_safe d n body d' (again {before = before} {mid = mid} first last) now =
      stalled_get_state_is_safe mid n body Stalls d' refl last ((arriving_get_states_start_none n body d before mid first).now now)

  -- If the session receives a stall, no order may change the byte, not even one that isn't started.
  abbrev pub SafeIfStallHeard : AnyHeard → DeviceWork → Type 0
  SafeIfStallHeard h device_work =
      heards_have_fact (λ _. Type 0) (Unit {0}) (λ s. Unit {0}) (λ s. Unit {0}) (λ b. Unit {0}) (IsSafeAt chip a device_work) (Unit {0})
      (Unit {0})
      (Unit {0}) h

  read_state_is_no_stall : (bytes : List ℕ) (h : AnyHeard) (device_work : DeviceWork) → DfuseReadsState bytes h →
      SafeIfStallHeard h device_work
  read_state_is_no_stall bytes h device_work =
      heards_have_fact (λ x. DfuseReadsState bytes x → SafeIfStallHeard x device_work) (λ e. tt) (λ s e. tt) (λ s e. tt) (λ b e. tt) (λ
      e. absurd e) (λ e. tt)
      (λ e. tt) (λ e. tt) h

  pub heard_stall_is_safe : (plan : Plan) (w : Work) (h : AnyHeard) (d : Device) (body : List ℕ) (r : Option Reaction) (d' : Device) (x :
      Seen) →
      SeenOfReaction r x →
      RequestArrives chip (request.GetState 1) body d r d' → DfuseSeenMeaning plan w step.AskState x h →
      IsSafeBeforeStart chip a d.device_work
      → SafeIfStallHeard h d'.device_work
  heard_stall_is_safe plan w h d body (Some Stalls) d' seen.Stall is comes e now =
      subst (λ y. SafeIfStallHeard y d'.device_work) (sym e) (arriving_stall_is_safe d 1 body d' comes now)
  heard_stall_is_safe plan w h d body (Some Acks) d' seen.Stall is comes e now = absurd is
  heard_stall_is_safe plan w h d body (Some (Data bytes)) d' seen.Stall is comes e now = absurd is
  heard_stall_is_safe plan w h d body None d' seen.Stall is comes e now = absurd is
  heard_stall_is_safe plan w h d body r d' (seen.Bytes given) is comes e now = read_state_is_no_stall given.now h d'.device_work e
  heard_stall_is_safe plan w h d body r d' seen.Ack is comes e now = subst (λ y. SafeIfStallHeard y d'.device_work) (sym e) tt
  heard_stall_is_safe plan w h d body r d' seen.Nothing is comes e now = subst (λ y. SafeIfStallHeard y d'.device_work) (sym e) tt
  heard_stall_is_safe plan w h d body r d' seen.Waited is comes e now = subst (λ y. SafeIfStallHeard y d'.device_work) (sym e) tt
  heard_stall_is_safe plan w h d body r d' seen.Restarted is comes e now = subst (λ y. SafeIfStallHeard y d'.device_work) (sym e) tt

  pub abort_row_keeps_byte_safe : (w : Work) (device_work : DeviceWork) (h : AnyHeard) → IsSafeBeforeStart chip a device_work →
      IsSafeInPhase chip a (on_abort w h) device_work
  abort_row_keeps_byte_safe w device_work h now =
      heards_have_fact (λ x. IsSafeInPhase chip a (on_abort w x) device_work) now (λ s. now) (λ s. now) (λ b. now) now now now now h

  pub clear_wait_row_keeps_byte_safe : (w : Work) (ms : ℕ) (device_work : DeviceWork) (h : AnyHeard) → IsSafeBeforeStart chip a device_work
      → IsSafeInPhase chip a (on_clear_wait w ms h) device_work
  clear_wait_row_keeps_byte_safe w ms device_work h now =
      heards_have_fact (λ x. IsSafeInPhase chip a (on_clear_wait w ms x) device_work) now (λ s. now) (λ s. now) (λ b. now) now now now
      now h

  state_other_than_sync_is_safe : (device_work : DeviceWork) (t : State) → state_in device_work ≡ t → (t ≡ state.DownloadSync → ⊥) →
      IsSafeBeforeStart chip a device_work
      → IsSafeAt chip a device_work
  state_other_than_sync_is_safe (RestsInState s) t e other now = λ x. x
  state_other_than_sync_is_safe (Pending order) t e other now = absurd (other (sym e))
  state_other_than_sync_is_safe (CarriesOut order) t e other now = now

  found_state_keeps_byte_safe : (plan : Plan) (w : Work) (device_work : DeviceWork) (t : State) → state_in device_work ≡ t →
      IsSafeBeforeStart chip a device_work →
      IsSafeInPhase chip a (state_found plan w t) device_work
  found_state_keeps_byte_safe plan w device_work state.DfuIdle e now = safe_byte_is_safe_in_phase chip a (settled_phase plan w place.Lost)
      device_work
      (state_other_than_sync_is_safe device_work state.DfuIdle e (λ x. cc) now)
  found_state_keeps_byte_safe plan w device_work state.DownloadBusy e now = state_other_than_sync_is_safe device_work state.DownloadBusy e
      (λ x. cc) now
  found_state_keeps_byte_safe plan w device_work state.Manifest e now = state_other_than_sync_is_safe device_work state.Manifest e (λ x. cc)
      now
  found_state_keeps_byte_safe plan w device_work state.ManifestWaitReset e now = state_other_than_sync_is_safe device_work
      state.ManifestWaitReset e (λ x. cc) now
  found_state_keeps_byte_safe plan w device_work state.Error e now = state_other_than_sync_is_safe device_work state.Error e (λ x. cc) now
  found_state_keeps_byte_safe plan w device_work t e now = now

  pub ask_state_row_keeps_byte_safe : (plan : Plan) (w : Work) (device_work : DeviceWork) (h : AnyHeard) →
      HeardSaysState h (state_in device_work) → SafeIfStallHeard h device_work →
      IsSafeBeforeStart chip a device_work →
      IsSafeInPhase chip a (on_ask_state plan w h) device_work
  ask_state_row_keeps_byte_safe plan w device_work h says safe now =
      heards_have_fact (λ x. HeardSaysState x (state_in device_work) → SafeIfStallHeard x device_work →
      IsSafeInPhase chip a (on_ask_state plan w x) device_work)
      (λ f g. now) (λ s f g. now) (λ s f g. found_state_keeps_byte_safe plan w device_work s f now) (λ b f g. now) (λ f g. g) (λ f g. now)
      (λ f g. now)
      (λ f g. now) h says safe
