-- A byte stays unchanged if no order of the device may change it.
use Rattle.std.proofs.Common.{◌≡◌, ℕ, ◌-◌, ◌%◌, ◌^◌, ◌≤◌, ◌⊎◌, inl, inr, Bool, true, false, cond, eqb, List, [], length, take, drop, Option, Some, None, refl, sym, ◌∙◌, subst, arith, length-take}
use Rattle.std.proofs.lemmas.Bool.{eqb-true}
use Rattle.dfu_wire.specs.declared.states.State.{State}
use Rattle.dfu_wire.specs.declared.states.State.TheVariants as state
use Rattle.dfu_wire.specs.declared.requests.Request.{Request}
use Rattle.dfu_wire.specs.declared.requests.Request.TheVariants as request
use Rattle.dfu_formats.specs.declared.dfuse.element.Element.{Element}
use Rattle.dfuse_host.specs.declared.plan.Plan.{Plan}
use Rattle.dfuse_host.specs.declared.work.Work.{Work}
use Rattle.dfuse_host.specs.declared.work.Work.TheVariants as work
use Rattle.dfuse_host.specs.declared.place.Place.{Place}
use Rattle.dfuse_host.specs.declared.place.Place.TheVariants as place
use Rattle.dfuse_host.specs.declared.step.Step.{Step}
use Rattle.dfuse_host.specs.declared.step.Step.TheVariants as step
use Rattle.dfuse_host.specs.Images.{element_at}
use Rattle.dfuse_host.specs.Plans.{front_end, write_end}
use Rattle.dfuse_host.specs.Commands.{write_command, bytes_in}
use Rattle.dfuse_host.specs.Deeds.{DfuseDeed, Send, Wait, Done, command_deed, deed_of_step}
use Rattle.dfuse_host.specs.ReadBack.{WasReadInWork}
use Rattle.dfuse_host.proofs.ForCallers.{set_address, write_bytes_at}
use Rattle.dfuse_link.specs.Chips.{Chip, Order, DeviceWork, RestsInState, Pending, CarriesOut, Device, ChangedBy, DeviceAdvances, goes_on, ends, fails}
use Rattle.dfuse_link.specs.Reactions.{Reaction, order_of, work_with_order_started, work_after_status, Reacts, stalls, takes, closes, gives, gives_other_bytes, tells, shows, aborts, clears_error}
use Rattle.dfuse_link.specs.Histories.{RequestArrives, never, again}
use Rattle.dfuse_link.proofs.Changes.{OrderMayChange, byte_stays_if_safe, stall_keeps_fact, started_order_keeps_fact, told_status_keeps_fact}
use Rattle.dfuse_link.proofs.Claims.{KnowsPointer, DeviceFitsStep}
use Rattle.dfuse_link.proofs.SentClaims.{set_address_order}

-- The device's order may change the byte at `a` now, or once it is started.
abbrev pub WorkMayChange : Chip → DeviceWork → (a : ℕ) → Type 0
WorkMayChange chip (RestsInState s) a = ⊥
WorkMayChange chip (Pending order) a = OrderMayChange chip order a
WorkMayChange chip (CarriesOut order) a = OrderMayChange chip order a

-- The device's order may not change the byte at `a`, now or once it is started.
abbrev pub IsSafeAt : Chip → (a : ℕ) → DeviceWork → Type 0
IsSafeAt chip a device_work = WorkMayChange chip device_work a → ⊥

-- The request gives the device no order that may change the byte at `a`.
abbrev pub RequestLeavesByte : Chip → (a : ℕ) → Request → List ℕ → (pointer : ℕ) → Type 0
RequestLeavesByte chip a (request.Dnload block n) body pointer = OrderMayChange chip (order_of chip pointer block body) a → ⊥
RequestLeavesByte chip a q body pointer = Unit {0}

-- The byte at `a` stays unchanged, and afterwards the device's order may not change it.
pub record KeepsByte (chip : Chip) (a : ℕ) (d d' : Device) : Type 0 where
  pub byte : d'.memory a ≡ d.memory a
  pub safe : IsSafeAt chip a d'.device_work

module _ (chip : Chip) (a : ℕ) where
  started_order_is_safe : (device_work : DeviceWork) → IsSafeAt chip a device_work → IsSafeAt chip a (work_with_order_started device_work)
  started_order_is_safe device_work safe = started_order_keeps_fact (IsSafeAt chip a) (λ order h. h) device_work safe

  work_after_status_is_safe : (device_work : DeviceWork) → IsSafeAt chip a device_work → IsSafeAt chip a (work_after_status device_work)
  work_after_status_is_safe device_work safe = told_status_keeps_fact (IsSafeAt chip a) (λ s t h. h) device_work safe

  busy_order_changes_nothing : (device_work : DeviceWork) (order : Order) → device_work ≡ CarriesOut order →
      IsSafeAt chip a device_work → OrderMayChange chip order a → ⊥
  busy_order_changes_nothing device_work order e safe = subst (IsSafeAt chip a) e safe

  pub advance_keeps_byte : (d d' : Device) → DeviceAdvances chip d d' → IsSafeAt chip a d.device_work → KeepsByte chip a d d'
  advance_keeps_byte d d' (goes_on order e e' changed) safe = record {
    byte = byte_stays_if_safe chip a (CarriesOut order) d.memory d'.memory changed (busy_order_changes_nothing d.device_work order e safe);
    safe = subst (IsSafeAt chip a) (sym e') (busy_order_changes_nothing d.device_work order e safe);
  }
  advance_keeps_byte d d' (ends order s e e' end changed set_address_order) safe = record {
    byte = byte_stays_if_safe chip a (CarriesOut order) d.memory d'.memory changed (busy_order_changes_nothing d.device_work order e safe);
    safe = subst (IsSafeAt chip a) (sym e') (λ x. x);
  }
  advance_keeps_byte d d' (fails order e e' changed) safe = record {
    byte = byte_stays_if_safe chip a (CarriesOut order) d.memory d'.memory changed (busy_order_changes_nothing d.device_work order e safe);
    safe = subst (IsSafeAt chip a) (sym e') (λ x. x);
  }

  safe_work_leaves_byte : (device_work : DeviceWork) (memory memory' : ℕ → ℕ) → ChangedBy chip device_work memory memory' →
      IsSafeAt chip a device_work →
      memory' a ≡ memory a
  safe_work_leaves_byte (RestsInState s) memory memory' changed safe = changed a
  safe_work_leaves_byte (Pending order) memory memory' changed safe = changed a
  safe_work_leaves_byte (CarriesOut order) memory memory' changed safe = byte_stays_if_safe chip a (CarriesOut order) memory memory'
      changed safe

  -- A restart leaves a byte unchanged if the device's order may not change it.
  pub restart_keeps_byte : (d d' : Device) (s : State) → d'.device_work ≡ RestsInState s →
      ChangedBy chip d.device_work d.memory d'.memory →
      IsSafeAt chip a d.device_work → KeepsByte chip a d d'
  restart_keeps_byte d d' s rests changed safe = record {
    byte = safe_work_leaves_byte d.device_work d.memory d'.memory changed safe;
    safe = subst (IsSafeAt chip a) (sym rests) (λ x. x);
  }

  status_keeps_byte : (d mid : Device) → (mid ≡ record d { device_work = work_with_order_started d.device_work })
      ⊎ DeviceAdvances chip (record d { device_work = work_with_order_started d.device_work }) mid →
      IsSafeAt chip a d.device_work →
      KeepsByte chip a d mid
  status_keeps_byte d mid (inl e) safe =
      subst (λ (x : Device). KeepsByte chip a d x) (sym e) (record { byte = refl; safe = started_order_is_safe d.device_work safe })
  status_keeps_byte d mid (inr w) safe =
      let k = advance_keeps_byte (record d { device_work = work_with_order_started d.device_work }) mid w (started_order_is_safe
      d.device_work safe) in
      record { byte = k.byte; safe = k.safe }

  reaction_keeps_byte : (d : Device) (q : Request) (body : List ℕ) (r : Reaction) (d' : Device) → Reacts chip d q body r d' →
      RequestLeavesByte chip a q body d.pointer →
      IsSafeAt chip a d.device_work → KeepsByte chip a d d' × RequestLeavesByte chip a q body d'.pointer
  reaction_keeps_byte d _ _ _ _ (stalls q body device_work may is) new safe = (
    stall_keeps_fact (λ (t : DeviceWork). KeepsByte chip a d (record d { device_work = t })) d.device_work device_work is (record {
      byte =
          refl;
      safe = safe;
    })
        (record { byte = refl; safe = λ x. x }),
    new,
  )
  reaction_keeps_byte d _ _ _ _ (takes block n body may some) new safe = (record { byte = refl; safe = new }, new)
  reaction_keeps_byte d _ _ _ _ (closes block n may) new safe = (record { byte = refl; safe = λ x. x }, new)
  reaction_keeps_byte d _ _ _ _ (gives block n body bytes s may from most stands is) new safe = (
    record {
      byte = refl;
      safe = λ x. x;
    },
    tt,
  )
  reaction_keeps_byte d _ _ _ _ (gives_other_bytes block n body bytes may low) new safe = (record { byte = refl; safe = λ x. x }, tt)
  reaction_keeps_byte d _ _ _ _ (tells n body bytes status mid way is same) new safe =
      let k = status_keeps_byte d mid way safe in
      (record { byte = k.byte; safe = work_after_status_is_safe mid.device_work k.safe }, tt)
  reaction_keeps_byte d _ _ _ _ (shows n body) new safe = (record { byte = refl; safe = safe }, tt)
  reaction_keeps_byte d _ _ _ _ (aborts body may) new safe = (record { byte = refl; safe = λ x. x }, tt)
  reaction_keeps_byte d _ _ _ _ (clears_error body e) new safe = (record { byte = refl; safe = λ x. x }, tt)

  arriving_request_keeps_byte : (q : Request) (body : List ℕ) (d : Device) (r : Option Reaction) (d' : Device) →
      RequestArrives chip q body d r d' →
      RequestLeavesByte chip a q body d.pointer → IsSafeAt chip a d.device_work → KeepsByte chip a d d'
      × RequestLeavesByte chip a q body d'.pointer
  arriving_request_keeps_byte q body d _ _ never new safe = (record { byte = refl; safe = safe }, new)
  arriving_request_keeps_byte q body d _ d' (again {before = before} {mid = mid} {reaction = reaction} first last) new safe =
      let k = arriving_request_keeps_byte q body d before mid first new safe in
      let l = reaction_keeps_byte mid q body reaction d' last k.1 k.0.safe in
      (record { byte = l.0.byte ∙ k.0.byte; safe = l.0.safe }, l.1)

  -- A request leaves a byte unchanged if neither the device's order nor the order that the request gives may change the byte.
  pub harmless_request_keeps_byte : (q : Request) (body : List ℕ) (d : Device) (r : Option Reaction) (d' : Device) →
      RequestArrives chip q body d r d' →
      RequestLeavesByte chip a q body d.pointer → IsSafeAt chip a d.device_work → KeepsByte chip a d d'
  harmless_request_keeps_byte q body d r d' comes new safe = (arriving_request_keeps_byte q body d r d' comes new safe).0

-- The request that a session sends gives the device no order that may change the byte at `a`.
abbrev pub DeedLeavesByte : Chip → (a : ℕ) → DfuseDeed → (pointer : ℕ) → Type 0
DeedLeavesByte chip a (Send q body) pointer = RequestLeavesByte chip a q body pointer
DeedLeavesByte chip a (Wait ms) pointer = Unit {0}
DeedLeavesByte chip a (Done report) pointer = Unit {0}

module _ (chip : Chip) (plan : Plan) (a pointer : ℕ) where
  pub set_address_leaves_byte : (w : Work) (at : ℕ) → DeedLeavesByte chip a (command_deed plan w (set_address at)) pointer
  set_address_leaves_byte w at = subst (λ (o : Order). OrderMayChange chip o a → ⊥) (sym (set_address_order chip pointer at)) (λ x. x)

  part_no_longer_than_range : (o : Option Element) (at end : ℕ) →
      length (elim o as (λ _. List ℕ) [ None ↦ [] | Some e ↦ take (end - at) (drop (at - e.address) e.bytes.now) ]) ≤ end - at
  part_no_longer_than_range None at end = omega arith
  part_no_longer_than_range (Some e) at end = omega (arith, length-take (end - at) (drop (at - e.address) e.bytes.now))

  pub bytes_in_within_range : (at end : ℕ) → length (bytes_in plan at end) ≤ end - at
  bytes_in_within_range at end = part_no_longer_than_range (element_at at plan.image.now) at end

  write_end_not_after_end : (at end : ℕ) → write_end plan at end ≤ end
  unfolding write_end
  write_end_not_after_end at end = omega arith

  front_write_leaves_byte : (at : ℕ) → pointer ≤ at → front_end plan ≤ a
      → DeedLeavesByte chip a (command_deed plan (work.WriteFront at) (write_bytes_at at)) pointer
  front_write_leaves_byte at low behind = λ may.
      omega (
        arith,
        may.0,
        may.1,
        low,
        behind,
        bytes_in_within_range at (write_end plan at (front_end plan)),
        write_end_not_after_end at
            (front_end plan),
      )

  front_command_leaves_by_pointer : (p : ℕ) (at : ℕ) (t : Bool) → eqb p at ≡ t → pointer ≡ p % 2 ^ 32 → front_end plan ≤ a →
      DeedLeavesByte chip a (command_deed plan (work.WriteFront at) (cond t (write_bytes_at at) (set_address at))) pointer
  front_command_leaves_by_pointer p at true e k behind = front_write_leaves_byte at (omega (arith, k, eqb-true p at e)) behind
  front_command_leaves_by_pointer p at false e k behind = set_address_leaves_byte (work.WriteFront at) at

  front_command_leaves_byte : (p : Place) (at : ℕ) → KnowsPointer p pointer → front_end plan ≤ a →
      DeedLeavesByte chip a (command_deed plan (work.WriteFront at) (write_command p at)) pointer
  front_command_leaves_byte place.Lost at k behind = set_address_leaves_byte (work.WriteFront at) at
  front_command_leaves_byte (place.At p) at k behind = front_command_leaves_by_pointer p at (eqb p at) refl k behind
  front_command_leaves_byte (place.Reading p) at k behind = set_address_leaves_byte (work.WriteFront at) at

  send_leaves_read_byte : (w : Work) (p : Place) → WasReadInWork plan w a → KnowsPointer p pointer →
      DeedLeavesByte chip a (deed_of_step plan w p step.Send) pointer
  send_leaves_read_byte (work.Erase at) p was k = absurd was
  send_leaves_read_byte (work.EraseAgain page end) p was k = absurd was
  send_leaves_read_byte (work.Write at end) p was k = absurd was
  send_leaves_read_byte (work.Compare at) p was k = set_address_leaves_byte (work.Compare at) at
  send_leaves_read_byte (work.WriteFront at) p was k = front_command_leaves_byte p at k was
  send_leaves_read_byte (work.CompareFront at) p was k = set_address_leaves_byte (work.CompareFront at) at
  send_leaves_read_byte work.Leave p was k = set_address_leaves_byte work.Leave plan.start

-- No request of a session may change a byte that the session has read back.
pub deed_leaves_read_byte : (chip : Chip) (plan : Plan) (a : ℕ) (w : Work) (p : Place) (s : Step) (d : Device) → WasReadInWork plan w a →
    DeviceFitsStep chip plan w p s d →
    DeedLeavesByte chip a (deed_of_step plan w p s) d.pointer
deed_leaves_read_byte chip plan a w p step.Send d was stands = send_leaves_read_byte chip plan a d.pointer w p was stands.1
deed_leaves_read_byte chip plan a w p step.Close d was stands = λ may. omega (arith, may.0, may.1)
deed_leaves_read_byte chip plan a w p s d was stands = tt
