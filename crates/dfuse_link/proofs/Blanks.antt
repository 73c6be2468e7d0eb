-- A blank byte stays blank unless a device writes bytes at its address.
use Rattle.std.proofs.Common.{◌≡◌, ℕ, ◌⊎◌, inl, inr, true, List, Option, sym, subst}
use Rattle.dfu_wire.specs.declared.states.State.{State}
use Rattle.dfu_wire.specs.declared.states.State.TheVariants as state
use Rattle.dfu_wire.specs.declared.requests.Request.{Request}
use Rattle.dfu_wire.specs.declared.requests.Request.TheVariants as request
use Rattle.dfuse_host.specs.declared.phase.Phase.{Phase}
use Rattle.dfuse_host.specs.declared.phase.Phase.TheVariants.{On, Over}
use Rattle.dfuse_host.specs.declared.work.Work.{Work}
use Rattle.dfuse_host.specs.declared.place.Place.{Place}
use Rattle.dfuse_host.specs.declared.step.Step.{Step}
use Rattle.dfuse_host.specs.declared.seen.Seen.{Seen}
use Rattle.dfuse_host.specs.declared.session.Session.{Session}
use Rattle.dfuse_host.specs.Deeds.{DfuseDeed, Send, Wait, Done, dfuse_deed, deed_of_step}
use Rattle.dfuse_link.specs.Chips.{Chip, Order, ErasesPage, DeviceWork, RestsInState, Pending, CarriesOut, Device, ChangedBy, DeviceAdvances, goes_on, ends, fails}
use Rattle.dfuse_link.specs.Reactions.{Reaction, order_of, work_with_order_started, work_after_status, Reacts, stalls, takes, closes, gives, gives_other_bytes, tells, shows, aborts, clears_error}
use Rattle.dfuse_link.specs.Histories.{RequestArrives, never, again, RequestUnderWay, none, request, sent, waited, restarted}
use Rattle.dfuse_link.proofs.Changes.{OrderMayChange, byte_stays_if_safe, stall_keeps_fact, started_order_keeps_fact, told_status_keeps_fact}
use Rattle.dfuse_link.proofs.Claims.{IsQuiet, DeviceFitsStep, DeviceFitsPhase}
use Rattle.dfuse_link.proofs.SentClaims.{DeedArrives}
use Rattle.dfuse_link.proofs.UnchangedBytes.{HoldsInPhase}
use Rattle.dfuse_link.proofs.Pairs.{DeviceAndSession, IsTurnOfBoth}

-- The order is an erase, or it may not change the byte at the address `a`.
abbrev pub OrderWritesNothingAt : Chip → (a : ℕ) → Order → Type 0
OrderWritesNothingAt chip a (ErasesPage at) = Unit {0}
OrderWritesNothingAt chip a order = OrderMayChange chip order a → ⊥

-- The order of the device's work, if there is one, writes nothing at the address `a`.
abbrev pub WorkWritesNothingAt : Chip → (a : ℕ) → DeviceWork → Type 0
WorkWritesNothingAt chip a (RestsInState s) = Unit {0}
WorkWritesNothingAt chip a (Pending order) = OrderWritesNothingAt chip a order
WorkWritesNothingAt chip a (CarriesOut order) = OrderWritesNothingAt chip a order

-- The request gives the device no order that writes at the address `a`.
abbrev pub RequestWritesNothingAt : Chip → (a : ℕ) → Request → List ℕ → (pointer : ℕ) → Type 0
RequestWritesNothingAt chip a (request.Dnload block n) body pointer = OrderWritesNothingAt chip a (order_of chip pointer block body)
RequestWritesNothingAt chip a q body pointer = Unit {0}

-- The byte at `a` is blank, and the work of the device writes nothing there.
pub record StaysBlankAt (chip : Chip) (a : ℕ) (d : Device) : Type 0 where
  pub blank : chip.blank (d.memory a) ≡ true
  pub work_writes_nothing : WorkWritesNothingAt chip a d.device_work

pub quiet_work_writes_nothing : (chip : Chip) (a : ℕ) (device_work : DeviceWork) → IsQuiet device_work →
    WorkWritesNothingAt chip a device_work
quiet_work_writes_nothing chip a (RestsInState s) quiet = tt
quiet_work_writes_nothing chip a (Pending order) quiet = absurd quiet
quiet_work_writes_nothing chip a (CarriesOut order) quiet = absurd quiet

module _ (chip : Chip) (a : ℕ) where
  unchanged_blank_stays_blank : (memory memory' : ℕ → ℕ) → memory' a ≡ memory a → chip.blank (memory a) ≡ true → chip.blank (memory' a)
      ≡ true
  unchanged_blank_stays_blank memory memory' e h = subst (λ (n : ℕ). chip.blank n ≡ true) (sym e) h

  changed_byte_stays_blank : (device_work : DeviceWork) (memory memory' : ℕ → ℕ) → WorkWritesNothingAt chip a device_work →
      ChangedBy chip device_work memory memory' →
      chip.blank (memory a) ≡ true → chip.blank (memory' a) ≡ true
  changed_byte_stays_blank (RestsInState s) memory memory' k changed h = unchanged_blank_stays_blank memory memory' (changed a) h
  changed_byte_stays_blank (Pending order) memory memory' k changed h = unchanged_blank_stays_blank memory memory' (changed a) h
  changed_byte_stays_blank (CarriesOut (ErasesPage at)) memory memory' k changed h = (changed a).1 h
  changed_byte_stays_blank (CarriesOut order) memory memory' k changed h =
      unchanged_blank_stays_blank memory memory' (byte_stays_if_safe chip a (CarriesOut order) memory memory' changed k) h

  busy_order_writes_nothing : (device_work : DeviceWork) (order : Order) → device_work ≡ CarriesOut order →
      WorkWritesNothingAt chip a device_work → OrderWritesNothingAt chip a order
  busy_order_writes_nothing device_work order e s = subst (WorkWritesNothingAt chip a) e s

  pub advance_keeps_blank : (d d' : Device) → DeviceAdvances chip d d' → StaysBlankAt chip a d → StaysBlankAt chip a d'
  advance_keeps_blank d d' (goes_on order e e' changed) k = record {
    blank = changed_byte_stays_blank (CarriesOut order) d.memory d'.memory (busy_order_writes_nothing d.device_work order e
        k.work_writes_nothing) changed k.blank;
    work_writes_nothing = subst (WorkWritesNothingAt chip a) (sym e') (busy_order_writes_nothing d.device_work order e
        k.work_writes_nothing);
  }
  advance_keeps_blank d d' (ends order s e e' end changed out) k = record {
    blank = changed_byte_stays_blank (CarriesOut order) d.memory d'.memory (busy_order_writes_nothing d.device_work order e
        k.work_writes_nothing) changed k.blank;
    work_writes_nothing = subst (WorkWritesNothingAt chip a) (sym e') tt;
  }
  advance_keeps_blank d d' (fails order e e' changed) k = record {
    blank = changed_byte_stays_blank (CarriesOut order) d.memory d'.memory (busy_order_writes_nothing d.device_work order e
        k.work_writes_nothing) changed k.blank;
    work_writes_nothing = subst (WorkWritesNothingAt chip a) (sym e') tt;
  }

  -- A blank byte stays blank when the device restarts, if the device's work writes nothing at the byte's address.
  pub restart_keeps_blank : (d d' : Device) (s : State) → d'.device_work ≡ RestsInState s →
      ChangedBy chip d.device_work d.memory d'.memory →
      StaysBlankAt chip a d → StaysBlankAt chip a d'
  restart_keeps_blank d d' s rests changed k = record {
    blank = changed_byte_stays_blank d.device_work d.memory d'.memory k.work_writes_nothing changed k.blank;
    work_writes_nothing = subst (WorkWritesNothingAt chip a) (sym rests) tt;
  }

  started_order_writes_nothing : (device_work : DeviceWork) → WorkWritesNothingAt chip a device_work →
      WorkWritesNothingAt chip a (work_with_order_started device_work)
  started_order_writes_nothing device_work k = started_order_keeps_fact (WorkWritesNothingAt chip a) (λ order h. h) device_work k

  work_after_status_writes_nothing : (device_work : DeviceWork) → WorkWritesNothingAt chip a device_work →
      WorkWritesNothingAt chip a (work_after_status device_work)
  work_after_status_writes_nothing device_work k = told_status_keeps_fact (WorkWritesNothingAt chip a) (λ s t h. h) device_work k

  status_keeps_blank : (d mid : Device) → (mid ≡ record d { device_work = work_with_order_started d.device_work })
      ⊎ DeviceAdvances chip (record d { device_work = work_with_order_started d.device_work }) mid →
      StaysBlankAt chip a d → StaysBlankAt chip a mid
  status_keeps_blank d mid (inl e) k =
      subst (λ (x : Device). StaysBlankAt chip a x) (sym e) (record {
        blank = k.blank;
        work_writes_nothing = started_order_writes_nothing
            d.device_work k.work_writes_nothing;
      })
  status_keeps_blank d mid (inr w) k =
      advance_keeps_blank (record d { device_work = work_with_order_started d.device_work }) mid w (record {
        blank = k.blank;
        work_writes_nothing = started_order_writes_nothing d.device_work k.work_writes_nothing;
      })

  reaction_keeps_blank : (d : Device) (q : Request) (body : List ℕ) (r : Reaction) (d' : Device) → Reacts chip d q body r d' →
      RequestWritesNothingAt chip a q body d.pointer → StaysBlankAt chip a d → StaysBlankAt chip a d'
      × RequestWritesNothingAt chip a q body d'.pointer
  reaction_keeps_blank d _ _ _ _ (stalls q body device_work may is) new k = (
    stall_keeps_fact (λ (t : DeviceWork). StaysBlankAt chip a (record d { device_work = t })) d.device_work device_work is k
        (record { blank = k.blank; work_writes_nothing = tt }),
    new,
  )
  reaction_keeps_blank d _ _ _ _ (takes block n body may some) new k = (record { blank = k.blank; work_writes_nothing = new }, new)
  reaction_keeps_blank d _ _ _ _ (closes block n may) new k = (record { blank = k.blank; work_writes_nothing = tt }, new)
  reaction_keeps_blank d _ _ _ _ (gives block n body bytes s may from most stands is) new k = (
    record {
      blank = k.blank;
      work_writes_nothing = tt;
    },
    tt,
  )
  reaction_keeps_blank d _ _ _ _ (gives_other_bytes block n body bytes may low) new k = (
    record {
      blank = k.blank;
      work_writes_nothing = tt;
    },
    tt,
  )
  reaction_keeps_blank d _ _ _ _ (tells n body bytes status mid way is same) new k =
      let m = status_keeps_blank d mid way k in
      (record { blank = m.blank; work_writes_nothing = work_after_status_writes_nothing mid.device_work m.work_writes_nothing }, tt)
  reaction_keeps_blank d _ _ _ _ (shows n body) new k = (k, new)
  reaction_keeps_blank d _ _ _ _ (aborts body may) new k = (record { blank = k.blank; work_writes_nothing = tt }, new)
  reaction_keeps_blank d _ _ _ _ (clears_error body e) new k = (record { blank = k.blank; work_writes_nothing = tt }, new)

  arriving_request_keeps_blank : (q : Request) (body : List ℕ) (d : Device) (r : Option Reaction) (d' : Device) →
      RequestArrives chip q body d r d' →
      RequestWritesNothingAt chip a q body d.pointer → StaysBlankAt chip a d → StaysBlankAt chip a d'
      × RequestWritesNothingAt chip a q body d'.pointer
  arriving_request_keeps_blank q body d _ _ never new k = (k, new)
  arriving_request_keeps_blank q body d _ d' (again {before = before} {mid = mid} {reaction = reaction} first last) new k =
      let m = arriving_request_keeps_blank q body d before mid first new k in
      reaction_keeps_blank mid q body reaction d' last m.1 m.0

  -- The request that a session sends gives the device no order that writes at the address `a`.
  abbrev pub DeedWritesNothingAt : DfuseDeed → (pointer : ℕ) → Type 0
  DeedWritesNothingAt (Send q body) pointer = RequestWritesNothingAt chip a q body pointer
  DeedWritesNothingAt (Wait ms) pointer = Unit {0}
  DeedWritesNothingAt (Done report) pointer = Unit {0}

  deed_keeps_blank : (x : DfuseDeed) (d : Device) (r : Option Reaction) (d' : Device) → DeedArrives chip x d r d' →
      DeedWritesNothingAt x d.pointer →
      StaysBlankAt chip a d → StaysBlankAt chip a d'
  deed_keeps_blank (Send q body) d r d' comes new k = (arriving_request_keeps_blank q body d r d' comes new k).0
  deed_keeps_blank (Wait ms) d r d' comes new k = absurd comes
  deed_keeps_blank (Done report) d r d' comes new k = absurd comes

  module _ (s : Session) (Q : Work → Type 0) (work_writes_nothing : (w : Work) (p : Place) (at : Step) (d : Device) → Q w →
      DeviceFitsStep chip s.plan w p at d → DeedWritesNothingAt (deed_of_step s.plan w p at) d.pointer) where
    phase_request_keeps_blank : (p : Phase) (d : Device) (r : Option Reaction) (d' : Device) → HoldsInPhase Q p →
        DeviceFitsPhase chip s.plan p d →
        DeedArrives chip (dfuse_deed s.plan p) d r d' → StaysBlankAt chip a d → StaysBlankAt chip a d'
    phase_request_keeps_blank (On at) d r d' q k comes h =
        deed_keeps_blank (deed_of_step s.plan at.work at.place at.step) d r d' comes (work_writes_nothing at.work at.place at.step d q k) h
    phase_request_keeps_blank (Over rep) d r d' q k comes h = absurd comes

    request_under_way_keeps_blank : (d mid : Device) → RequestUnderWay chip s d mid → HoldsInPhase Q s.phase →
        DeviceFitsPhase chip s.plan s.phase d → StaysBlankAt chip a d →
        StaysBlankAt chip a mid
    request_under_way_keeps_blank d _ none q k h = h
    request_under_way_keeps_blank d mid (request {reaction = reaction} asked body is comes) q k h =
        phase_request_keeps_blank s.phase d reaction mid q k (subst (λ (x : DfuseDeed). DeedArrives chip x d reaction mid) (sym is) comes) h

  -- Suppose that `Q` holds for the session's work, and that no request of a work for which `Q` holds writes at the address `a`. Then a turn
  -- leaves a blank byte at `a` blank.
  pub turn_keeps_blank : (Q : Work → Type 0) (l l' : DeviceAndSession) → ((w : Work) (p : Place) (at : Step) (d : Device) → Q w →
      DeviceFitsStep chip l.session.plan w p at d → DeedWritesNothingAt (deed_of_step l.session.plan w p at) d.pointer) → (x : Seen) →
      IsTurnOfBoth chip l x l' →
      HoldsInPhase Q l.session.phase → DeviceFitsPhase chip l.session.plan l.session.phase l.device → StaysBlankAt chip a l.device →
      StaysBlankAt chip a l'.device
  turn_keeps_blank Q l l' work_writes_nothing x (sent asked body reaction is comes seen row) q k h =
      phase_request_keeps_blank l.session Q work_writes_nothing l.session.phase l.device reaction l'.device q k
      (subst (λ (y : DfuseDeed). DeedArrives chip y l.device reaction l'.device) (sym is) comes) h
  turn_keeps_blank Q l l' work_writes_nothing x (waited ms is same seen row) q k h = subst (λ (d : Device). StaysBlankAt chip a d) (sym
      same) h
  turn_keeps_blank Q l l' work_writes_nothing x (restarted mid any way rests changed seen row) q k h =
      restart_keeps_blank mid l'.device any rests changed (request_under_way_keeps_blank l.session Q work_writes_nothing l.device mid way q
      k h)
