-- The state that a session decodes from an answer is the state that the device sent.
use Rattle.std.proofs.Common.{◌≡◌, ℕ, List, [], ◌∷◌, Option, Some, None, slice_index_or, refl, sym, ap, ◌∙◌, subst}
use Rattle.dfu_wire.specs.declared.states.State.{State}
use Rattle.dfu_wire.specs.declared.requests.Request.TheVariants as request
use Rattle.dfu_wire.specs.State.{state_byte}
use Rattle.dfu_wire.specs.Status.{StatusFields, IsStatus}
use Rattle.dfu_wire.specs.OneValue.{state_byte_is_injective}
use Rattle.dfu_wire.specs.OneValue.{bytes_encode_one_status}
use Rattle.dfuse_host.specs.declared.plan.Plan.{Plan}
use Rattle.dfuse_host.specs.declared.work.Work.{Work}
use Rattle.dfuse_host.specs.declared.step.Step.{Step}
use Rattle.dfuse_host.specs.declared.seen.Seen.{Seen}
use Rattle.dfuse_host.specs.declared.seen.Seen.TheVariants as seen
use Rattle.dfuse_host.specs.Wire.{DfuseReadsStatus, DfuseReadsState, DfuseBytesMeaning, DfuseSeenMeaning}
use Rattle.dfuse_host.proofs.ForCallers.{AnyHeard, heards_have_fact}
use Rattle.dfuse_link.specs.Chips.{Chip, state_in, Device}
use Rattle.dfuse_link.specs.Reactions.{Reaction, Acks, Data, Stalls, Reacts, stalls, tells, shows}
use Rattle.dfuse_link.specs.Histories.{RequestArrives, never, again, SeenOfReaction}
use Rattle.dfuse_link.proofs.Claims.{HeardSaysState}

-- If the device answers with bytes, they are a single byte: the number of its state.
abbrev pub AnswerIsState : Option Reaction → Device → Type 0
AnswerIsState (Some (Data bytes)) d = bytes ≡ state_byte (state_in d.device_work) ∷ []
AnswerIsState r d = Unit {0}

-- The bytes encode a status that names the state of the device.
pub record SpellsStatusOf (bytes : List ℕ) (d : Device) : Type 0 where
  -- Status that the bytes encode.
  pub status : StatusFields
  pub is : IsStatus status bytes
  pub same : status.state ≡ state_in d.device_work

-- If the device answers with bytes, they encode a status that names the device's state.
abbrev pub AnswerIsStatus : Option Reaction → Device → Type 0
AnswerIsStatus (Some (Data bytes)) d = SpellsStatusOf bytes d
AnswerIsStatus r d = Unit {0}

module _ (chip : Chip) where
  reaction_answers_state : (d : Device) (n : ℕ) (body : List ℕ) (r : Reaction) (d' : Device) →
      Reacts chip d (request.GetState n) body r d' →
      AnswerIsState (Some r) d'
  reaction_answers_state d n body _ _ (stalls _ _ device_work may is) = tt
  reaction_answers_state d n body _ _ (shows _ _) = refl

  pub arrived_request_answers_state : (d : Device) (n : ℕ) (body : List ℕ) (r : Option Reaction) (d' : Device) →
      RequestArrives chip (request.GetState n) body d r d' → AnswerIsState r d'
  arrived_request_answers_state d n body _ _ never = tt
  arrived_request_answers_state d n body _ d' (again {before = before} {mid = mid} {reaction = reaction} first last) =
      reaction_answers_state mid n body reaction d' last

  reaction_answers_status : (d : Device) (n : ℕ) (body : List ℕ) (r : Reaction) (d' : Device) →
      Reacts chip d (request.GetStatus n) body r d' →
      AnswerIsStatus (Some r) d'
  reaction_answers_status d n body _ _ (stalls _ _ device_work may is) = tt
  reaction_answers_status d n body _ _ (tells _ _ bytes status mid way is same) = record { status = status; is = is; same = same }

  pub arrived_request_answers_status : (d : Device) (n : ℕ) (body : List ℕ) (r : Option Reaction) (d' : Device) →
      RequestArrives chip (request.GetStatus n) body d r d' → AnswerIsStatus r d'
  arrived_request_answers_status d n body _ _ never = tt
  arrived_request_answers_status d n body _ d' (again {before = before} {mid = mid} {reaction = reaction} first last) =
      reaction_answers_status mid n body reaction d' last

heard_state_is_sent : (bytes : List ℕ) (h : AnyHeard) (t : State) → DfuseReadsState bytes h → bytes ≡ state_byte t ∷ [] → HeardSaysState h t
heard_state_is_sent bytes h t =
    heards_have_fact (λ x. DfuseReadsState bytes x → bytes ≡ state_byte t ∷ [] → HeardSaysState x t) (λ r e. tt) (λ s r e. absurd r)
    (λ s r e. state_byte_is_injective t s (ap (λ (xs : List ℕ). slice_index_or xs 0 0) (sym e
    ∙ r))) (λ b r e. tt) (λ r e. tt) (λ r e. tt) (λ r e. tt)
    (λ r e. tt) h

heard_status_is_sent : (bytes : List ℕ) (h : AnyHeard) (d : Device) → DfuseReadsStatus bytes h → SpellsStatusOf bytes d →
    HeardSaysState h (state_in d.device_work)
heard_status_is_sent bytes h d =
    heards_have_fact (λ x. DfuseReadsStatus bytes x → SpellsStatusOf bytes d → HeardSaysState x (state_in d.device_work)) (λ r e. tt)
    (λ s r e. sym e.same ∙ ap (λ (z : StatusFields). z.state) (bytes_encode_one_status e.status s bytes e.is r)) (λ s r e. absurd r)
    (λ b r e. tt) (λ r e. tt) (λ r e. tt) (λ r e. tt) (λ r e. tt) h

module _ (plan : Plan) (w : Work) (s : Step) (h : AnyHeard) (d : Device) where
  -- If every answer with bytes names the state of the device, a result that the session decodes as a state or a status names this state
  -- too.
  heard_says_state_of_bytes : (P : Option Reaction → Type 0) → ((bytes given : List ℕ) → P (Some (Data bytes)) → given ≡ bytes →
      DfuseBytesMeaning plan w s given h → HeardSaysState h (state_in d.device_work)) → (r : Option Reaction) (x : Seen) →
      SeenOfReaction r x → P r →
      DfuseSeenMeaning plan w s x h → HeardSaysState h (state_in d.device_work)
  heard_says_state_of_bytes P says r seen.Ack is sent e = subst (λ x. HeardSaysState x (state_in d.device_work)) (sym e) tt
  heard_says_state_of_bytes P says r seen.Stall is sent e = subst (λ x. HeardSaysState x (state_in d.device_work)) (sym e) tt
  heard_says_state_of_bytes P says r seen.Nothing is sent e = subst (λ x. HeardSaysState x (state_in d.device_work)) (sym e) tt
  heard_says_state_of_bytes P says r seen.Waited is sent e = subst (λ x. HeardSaysState x (state_in d.device_work)) (sym e) tt
  heard_says_state_of_bytes P says r seen.Restarted is sent e = subst (λ x. HeardSaysState x (state_in d.device_work)) (sym e) tt
  heard_says_state_of_bytes P says (Some (Data bytes)) (seen.Bytes given) is sent e = says bytes given.now sent is e
  heard_says_state_of_bytes P says (Some Acks) (seen.Bytes given) is sent e = absurd is
  heard_says_state_of_bytes P says (Some Stalls) (seen.Bytes given) is sent e = absurd is
  heard_says_state_of_bytes P says None (seen.Bytes given) is sent e = absurd is

  -- If the session decodes a state after GETSTATE, the device is in this state.
  pub get_state_says_state : ((bytes : List ℕ) → DfuseBytesMeaning plan w s bytes h → DfuseReadsState bytes h) →
      (r : Option Reaction) (x : Seen) →
      SeenOfReaction r x →
      AnswerIsState r d → DfuseSeenMeaning plan w s x h → HeardSaysState h (state_in d.device_work)
  get_state_says_state reads r x is sent e =
      heard_says_state_of_bytes (λ y. AnswerIsState y d) (λ bytes given sends same heard.
      heard_state_is_sent given h (state_in d.device_work) (reads given heard) (same ∙ sends)) r x is sent e

  -- If the session decodes a status after GETSTATUS, the device is in the state that this status names.
  pub get_status_says_state : ((bytes : List ℕ) → DfuseBytesMeaning plan w s bytes h → DfuseReadsStatus bytes h) →
      (r : Option Reaction) (x : Seen) →
      SeenOfReaction r x →
      AnswerIsStatus r d → DfuseSeenMeaning plan w s x h → HeardSaysState h (state_in d.device_work)
  get_status_says_state reads r x is sent e =
      heard_says_state_of_bytes (λ y. AnswerIsStatus y d) (λ bytes given sends same heard.
      heard_status_is_sent given h d (reads given heard) (subst (λ (xs : List ℕ). SpellsStatusOf xs d) (sym same) sends)) r x is sent e
