-- Effects of requests on a device, and facts about a command that has reached it.
use Rattle.std.proofs.Common.{◌≡◌, ℕ, List, [], Option, Some, ◌⊎◌, inl, inr, refl, sym, subst}
use Rattle.dfu_wire.specs.declared.states.State.{State}
use Rattle.dfu_wire.specs.declared.states.State.TheVariants as state
use Rattle.dfu_wire.specs.declared.requests.Request.{Request}
use Rattle.dfu_wire.specs.declared.requests.Request.TheVariants as request
use Rattle.dfuse_host.specs.declared.place.Place.{Place}
use Rattle.dfuse_host.proofs.ForCallers.{AnyCommand, commands_have_fact}
use Rattle.dfuse_link.specs.Chips.{Chip, Order, DeviceWork, RestsInState, Pending, CarriesOut, state_in, Device, OrderCarriedOut, DeviceAdvances, goes_on, ends, fails}
use Rattle.dfuse_link.specs.Reactions.{Reaction, Acks, order_of, work_with_order_started, work_after_status, Reacts, stalls, takes, closes, gives, gives_other_bytes, tells, shows, aborts}
use Rattle.dfuse_link.specs.Histories.{RequestArrives, never, again}
use Rattle.dfuse_link.proofs.Changes.{stall_keeps_fact}
use Rattle.dfuse_link.proofs.Claims.{IsQuiet, KnowsPointer, IsOrderOfCommand, IsCommandDone, MayHaveCommand, HasCommand}

pub quiet_work_is_not_busy : (device_work : DeviceWork) (order : Order) → device_work ≡ CarriesOut order → IsQuiet device_work → ⊥
quiet_work_is_not_busy device_work order e h = subst IsQuiet e h

pub idle_work_is_quiet : (device_work : DeviceWork) → state_in device_work ≡ state.DfuIdle → IsQuiet device_work
idle_work_is_quiet (RestsInState s) e = subst (λ (t : State). IsQuiet (RestsInState t)) (sym e) tt
idle_work_is_quiet (Pending order) e = cc
idle_work_is_quiet (CarriesOut order) e = cc

pub quiet_work_may_have_command : (c : AnyCommand) (device_work : DeviceWork) → IsQuiet device_work → MayHaveCommand c device_work
quiet_work_may_have_command c (RestsInState s) h = h
quiet_work_may_have_command c (Pending order) h = absurd h
quiet_work_may_have_command c (CarriesOut order) h = h

-- The pointer stays unchanged, and a quiet device stays quiet.
pub record KeepsQuiet (d d' : Device) : Type 0 where
  pub quiet : IsQuiet d.device_work → IsQuiet d'.device_work
  pub pointer : d'.pointer ≡ d.pointer

module _ (chip : Chip) where
  abort_keeps_quiet : (d d' : Device) (body : List ℕ) (r : Reaction) → Reacts chip d request.Abort body r d' → KeepsQuiet d d'
  abort_keeps_quiet d _ body _ (stalls _ _ device_work may is) =
      stall_keeps_fact (λ (t : DeviceWork). KeepsQuiet d (record d { device_work = t })) d.device_work device_work is (record {
        quiet = λ
            h. h;
        pointer = refl;
      })
      (record { quiet = λ h. tt; pointer = refl })
  abort_keeps_quiet d _ body _ (aborts _ may) = record { quiet = λ h. tt; pointer = refl }

  reading_state_is_quiet : (s : State) → (s ≡ state.DfuIdle) ⊎ (s ≡ state.UploadIdle) → IsQuiet (RestsInState s)
  reading_state_is_quiet s (inl e) = subst (λ (t : State). IsQuiet (RestsInState t)) (sym e) tt
  reading_state_is_quiet s (inr e) = subst (λ (t : State). IsQuiet (RestsInState t)) (sym e) tt

  upload_keeps_quiet : (d d' : Device) (block n : ℕ) (body : List ℕ) (r : Reaction) → Reacts chip d (request.Upload block n) body r d' →
      KeepsQuiet d d'
  upload_keeps_quiet d _ block n body _ (stalls _ _ device_work may is) =
      stall_keeps_fact (λ (t : DeviceWork). KeepsQuiet d (record d { device_work = t })) d.device_work device_work is (record {
        quiet = λ
            h. h;
        pointer = refl;
      })
      (record { quiet = λ h. tt; pointer = refl })
  upload_keeps_quiet d _ block n body _ (gives _ _ _ bytes s may from most stands is) =
      record { quiet = λ h. reading_state_is_quiet s is; pointer = refl }
  upload_keeps_quiet d _ block n body _ (gives_other_bytes _ _ _ bytes may low) = record { quiet = λ h. tt; pointer = refl }

  -- If each single reaction preserves a fact, the fact still holds after the request has arrived any number of times.
  pub arrivals_keep_reaction_fact : (P : Device → Type 0) (q : Request) (body : List ℕ) → ((d d' : Device) (r : Reaction) →
      Reacts chip d q body r d' → P d →
      P d') →
      (d d' : Device) (r : Option Reaction) → RequestArrives chip q body d r d' → P d → P d'
  arrivals_keep_reaction_fact P q body keeps d _ _ never h = h
  arrivals_keep_reaction_fact P q body keeps d d' _ (again {before = before} {mid = mid} {reaction = reaction} first last) h =
      keeps mid d' reaction last (arrivals_keep_reaction_fact P q body keeps d mid before first h)

  kept_quiet_keeps_pointer : (p : Place) (d d' : Device) → KeepsQuiet d d' → IsQuiet d.device_work × KnowsPointer p d.pointer →
      IsQuiet d'.device_work × KnowsPointer p d'.pointer
  kept_quiet_keeps_pointer p d d' k h = (k.quiet h.0, subst (λ (x : ℕ). KnowsPointer p x) (sym k.pointer) h.1)

  pub arriving_aborts_keep_quiet : (p : Place) (d d' : Device) (body : List ℕ) (r : Option Reaction) →
      RequestArrives chip request.Abort body d r d' →
      IsQuiet d.device_work × KnowsPointer p d.pointer → IsQuiet d'.device_work × KnowsPointer p d'.pointer
  arriving_aborts_keep_quiet p d d' body r comes h =
      arrivals_keep_reaction_fact (λ x. IsQuiet x.device_work × KnowsPointer p x.pointer) request.Abort body
      (λ x y reaction step k. kept_quiet_keeps_pointer p x y (abort_keeps_quiet x y body reaction step) k) d d' r comes h

  pub arriving_uploads_keep_quiet : (p : Place) (d d' : Device) (block n : ℕ) (body : List ℕ) (r : Option Reaction) →
      RequestArrives chip (request.Upload block n) body d r d' →
      IsQuiet d.device_work × KnowsPointer p d.pointer → IsQuiet d'.device_work × KnowsPointer p d'.pointer
  arriving_uploads_keep_quiet p d d' block n body r comes h =
      arrivals_keep_reaction_fact (λ x. IsQuiet x.device_work × KnowsPointer p x.pointer) (request.Upload block n) body
      (λ x y reaction step k. kept_quiet_keeps_pointer p x y (upload_keeps_quiet x y block n body reaction step) k) d d' r comes h

  module _ (c : AnyCommand) (p : Place) where
    get_state_keeps_command : (d d' : Device) (n : ℕ) (body : List ℕ) (r : Reaction) → Reacts chip d (request.GetState n) body r d' →
        MayHaveCommand c d.device_work × KnowsPointer p d.pointer → MayHaveCommand c d'.device_work × KnowsPointer p d'.pointer
    get_state_keeps_command d _ n body _ (stalls _ _ device_work may is) h =
        stall_keeps_fact (λ (t : DeviceWork). MayHaveCommand c t × KnowsPointer p d.pointer) d.device_work device_work is h (tt, h.1)
    get_state_keeps_command d _ n body _ (shows _ _) h = h

    pub arriving_get_states_keep_command : (d d' : Device) (n : ℕ) (body : List ℕ) (r : Option Reaction) →
        RequestArrives chip (request.GetState n) body d r d' →
        MayHaveCommand c d.device_work × KnowsPointer p d.pointer → MayHaveCommand c d'.device_work × KnowsPointer p d'.pointer
    arriving_get_states_keep_command d d' n body r comes h =
        arrivals_keep_reaction_fact (λ x. MayHaveCommand c x.device_work × KnowsPointer p x.pointer) (request.GetState n) body
        (λ x y reaction step k. get_state_keeps_command x y n body reaction step k) d d' r comes h

    -- If the pointer holds the address that the session knows, a DNLOAD with this block and body gives the device the order of the command.
    abbrev pub IsDnloadOfCommand : (block : ℕ) → (body : List ℕ) → Type 0
    IsDnloadOfCommand block body = (pointer : ℕ) → KnowsPointer p pointer → IsOrderOfCommand c (order_of chip pointer block body)

    dnload_may_bring_command : (d : Device) (block n : ℕ) (body : List ℕ) (r : Reaction) (d' : Device) → IsDnloadOfCommand block body →
        Reacts chip d (request.Dnload block n) body r d' →
        MayHaveCommand c d.device_work × KnowsPointer p d.pointer → MayHaveCommand c d'.device_work × KnowsPointer p d'.pointer
    dnload_may_bring_command d block n body _ _ is (stalls _ _ device_work may so) h =
        stall_keeps_fact (λ (t : DeviceWork). MayHaveCommand c t × KnowsPointer p d.pointer) d.device_work device_work so h (tt, h.1)
    dnload_may_bring_command d block n body _ _ is (takes _ _ _ may some) h = (is d.pointer h.1, h.1)
    dnload_may_bring_command d block n _ _ _ is (closes _ _ may) h = (tt, h.1)

    pub dnloads_arriving_keep_command : (d d' : Device) (block n : ℕ) (body : List ℕ) (r : Option Reaction) → IsDnloadOfCommand block body →
        RequestArrives chip (request.Dnload block n) body d r d' → MayHaveCommand c d.device_work × KnowsPointer p d.pointer →
        MayHaveCommand c d'.device_work
        × KnowsPointer p d'.pointer
    dnloads_arriving_keep_command d d' block n body r is comes h =
        arrivals_keep_reaction_fact (λ x. MayHaveCommand c x.device_work × KnowsPointer p x.pointer) (request.Dnload block n) body
        (λ x y reaction step k. dnload_may_bring_command x block n body reaction y is step k) d d' r comes h

    -- A device that acknowledges the DNLOAD of a command has the command.
    acked_dnload_brings_command : (d : Device) (block n : ℕ) (body : List ℕ) (r : Reaction) (d' : Device) → r ≡ Acks →
        IsDnloadOfCommand block body →
        ((pointer : ℕ) (memory : ℕ → ℕ) → body ≡ [] → IsCommandDone chip c pointer memory) →
        Reacts chip d (request.Dnload block n) body r d' → KnowsPointer p d.pointer → HasCommand chip c d'.device_work d'.pointer d'.memory
    acked_dnload_brings_command d block n body _ _ e is some (stalls _ _ device_work may so) h = cc
    acked_dnload_brings_command d block n body _ _ e is some (takes _ _ _ may any) h = is d.pointer h
    acked_dnload_brings_command d block n _ _ _ e is some (closes _ _ may) h = some d.pointer d.memory refl

    pub acked_dnloads_have_command : (d d' : Device) (block n : ℕ) (body : List ℕ) → IsDnloadOfCommand block body →
        ((pointer : ℕ) (memory : ℕ → ℕ) → body ≡ [] →
        IsCommandDone chip c pointer memory) →
        RequestArrives chip (request.Dnload block n) body d (Some Acks) d' → MayHaveCommand c d.device_work × KnowsPointer p d.pointer →
        HasCommand chip c d'.device_work d'.pointer d'.memory
    acked_dnloads_have_command d d' block n body is some (again {before = before} {mid = mid} first last) h =
        acked_dnload_brings_command mid block n body Acks d' refl is some last (dnloads_arriving_keep_command d mid block n body before is
        first h).1

    device_at_rest_has_done_command : (s : State) (pointer : ℕ) (memory : ℕ → ℕ) → IsCommandDone chip c pointer memory →
        HasCommand chip c (RestsInState s) pointer memory
    device_at_rest_has_done_command state.Error pointer memory h = tt
    device_at_rest_has_done_command s pointer memory h = h

    started_order_keeps_command : (device_work : DeviceWork) (pointer : ℕ) (memory : ℕ → ℕ) → HasCommand chip c device_work pointer memory →
        HasCommand chip c (work_with_order_started device_work) pointer memory
    started_order_keeps_command (RestsInState s) pointer memory h = h
    started_order_keeps_command (Pending order) pointer memory h = h
    started_order_keeps_command (CarriesOut order) pointer memory h = h

    told_status_keeps_command : (device_work : DeviceWork) (pointer : ℕ) (memory : ℕ → ℕ) → HasCommand chip c device_work pointer memory
        → HasCommand chip c (work_after_status device_work) pointer memory
    told_status_keeps_command (RestsInState state.DownloadSync) pointer memory h = h
    told_status_keeps_command (RestsInState state.DownloadBusy) pointer memory h = h
    told_status_keeps_command (RestsInState state.ManifestSync) pointer memory h = h
    told_status_keeps_command device_work pointer memory h = h

    carried_order_is_done : (order : Order) (pointer : ℕ) (memory : ℕ → ℕ) → IsOrderOfCommand c order →
        OrderCarriedOut chip order pointer memory →
        IsCommandDone chip c pointer memory
    carried_order_is_done order pointer memory =
        commands_have_fact (λ v. IsOrderOfCommand v order → OrderCarriedOut chip order pointer memory →
        IsCommandDone chip v pointer memory)
        (λ at e h. subst (λ (x : Order). OrderCarriedOut chip x pointer memory) e h)
        (λ at e h. subst (λ (x : Order). OrderCarriedOut chip x pointer memory) e h) (λ at e h. tt) c

    busy_order_is_of_command : (device_work : DeviceWork) (order : Order) (pointer : ℕ) (memory : ℕ → ℕ) → device_work
        ≡ CarriesOut order → HasCommand chip c device_work pointer memory →
        IsOrderOfCommand c order
    busy_order_is_of_command device_work order pointer memory e h = subst (λ (x : DeviceWork). HasCommand chip c x pointer memory) e h

    pub advance_keeps_command : (d d' : Device) → DeviceAdvances chip d d' → HasCommand chip c d.device_work d.pointer d.memory →
        HasCommand chip c d'.device_work d'.pointer d'.memory
    advance_keeps_command d d' (goes_on order e e' changed) h =
        subst (λ (x : DeviceWork). HasCommand chip c x d'.pointer d'.memory) (sym e') (busy_order_is_of_command d.device_work order
        d.pointer d.memory e h)
    advance_keeps_command d d' (ends order s e e' end changed set_address_order) h =
        subst (λ (x : DeviceWork). HasCommand chip c x d'.pointer d'.memory) (sym e')
        (device_at_rest_has_done_command s d'.pointer d'.memory (carried_order_is_done order d'.pointer d'.memory (busy_order_is_of_command
        d.device_work order d.pointer d.memory e h) set_address_order))
    advance_keeps_command d d' (fails order e e' changed) h = subst (λ (x : DeviceWork). HasCommand chip c x d'.pointer d'.memory)
        (sym e') tt

    status_keeps_command : (d mid : Device) → (mid ≡ record d { device_work = work_with_order_started d.device_work })
        ⊎ DeviceAdvances chip (record d { device_work = work_with_order_started d.device_work }) mid →
        HasCommand chip c d.device_work d.pointer d.memory →
        HasCommand chip c mid.device_work mid.pointer mid.memory
    status_keeps_command d mid (inl e) h =
        subst (λ (x : Device). HasCommand chip c x.device_work x.pointer x.memory) (sym e) (started_order_keeps_command d.device_work
        d.pointer d.memory h)
    status_keeps_command d mid (inr a) h = advance_keeps_command (record d { device_work = work_with_order_started d.device_work }) mid a
        (started_order_keeps_command d.device_work d.pointer d.memory h)

    get_status_keeps_command : (d d' : Device) (n : ℕ) (body : List ℕ) (r : Reaction) → Reacts chip d (request.GetStatus n) body r d' →
        HasCommand chip c d.device_work d.pointer d.memory → HasCommand chip c d'.device_work d'.pointer d'.memory
    get_status_keeps_command d _ n body _ (stalls _ _ device_work may is) h =
        stall_keeps_fact (λ (t : DeviceWork). HasCommand chip c t d.pointer d.memory) d.device_work device_work is h tt
    get_status_keeps_command d _ n body _ (tells _ _ bytes status mid way is same) h = told_status_keeps_command mid.device_work
        mid.pointer mid.memory (status_keeps_command d mid way h)

    pub arriving_statuses_keep_command : (d d' : Device) (n : ℕ) (body : List ℕ) (r : Option Reaction)
        → RequestArrives chip (request.GetStatus n) body d r d' →
        HasCommand chip c d.device_work d.pointer d.memory → HasCommand chip c d'.device_work d'.pointer d'.memory
    arriving_statuses_keep_command d d' n body r comes h =
        arrivals_keep_reaction_fact (λ x. HasCommand chip c x.device_work x.pointer x.memory) (request.GetStatus n) body
        (λ x y reaction step k. get_status_keeps_command x y n body reaction step k) d d'
        r comes h

    -- A device that has the command and reports dfuDNLOAD-IDLE is quiet, and its command is done.
    pub idle_status_means_done : (device_work : DeviceWork) (pointer : ℕ) (memory : ℕ → ℕ) → state_in device_work ≡ state.DownloadIdle →
        HasCommand chip c device_work pointer memory → IsQuiet device_work × IsCommandDone chip c pointer memory
    idle_status_means_done (RestsInState s) pointer memory e h =
        let k = subst (λ (t : State). HasCommand chip c (RestsInState t) pointer memory) e h in
        (subst (λ (t : State). IsQuiet (RestsInState t)) (sym e) tt, k)
    idle_status_means_done (Pending order) pointer memory e h = cc
    idle_status_means_done (CarriesOut order) pointer memory e h = cc

    -- A device that may have the command and reports dfuDNLOAD-SYNC has the command.
    pub sync_state_has_command : (device_work : DeviceWork) (pointer : ℕ) (memory : ℕ → ℕ) → state_in device_work ≡ state.DownloadSync →
        MayHaveCommand c device_work →
        HasCommand chip c device_work pointer memory
    sync_state_has_command (RestsInState s) pointer memory e h = absurd (subst (λ (t : State). IsQuiet (RestsInState t)) e h)
    sync_state_has_command (Pending order) pointer memory e h = h
    sync_state_has_command (CarriesOut order) pointer memory e h = absurd h
