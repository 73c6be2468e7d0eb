-- The answer of a device fits the request, and the host reads it with the meaning that the device gave it.
use Rattle.std.proofs.Common.{◌≡◌, ℕ, ◌==◌, Bool, true, false, List, [], ◌∷◌, length, take, Option, Some, None, sym, ap, ◌∙◌, subst, arith, inl, inr}
use Rattle.std.proofs.lemmas.Bool.Decides.{nat_tests}
use Rattle.dfu_device.specs.declared.objection.Objection.{Objection}
use Rattle.dfu_device.specs.Stage.{Request as Meant, Reply, Ack, StatusOf, StateOf, Data, Stall, Profile, Stage}
use Rattle.dfu_device.specs.Table.{Plan, plan}
use Rattle.dfu_device.specs.Outcome.{Luck, plan_outcome}
use Rattle.dfu_device.specs.Cases.{holds_in_both_branches}
use Rattle.dfu_host.specs.Phases.{Task, Phase, Enter, Deed, Send, Heard, Part}
use Rattle.dfu_host.specs.Table.{deed}
use Rattle.dfu_sim.specs.Play.{heard_of_reply, heard_with_room, request_closes, plan_with_refusal}
use Rattle.dfu_wire.specs.declared.requests.Request.{Request as Asked}
use Rattle.dfu_wire.specs.declared.requests.Request.TheVariants as request
use Rattle.dfu_wire.specs.declared.setups.Setup.{Setup}
use Rattle.dfu_wire.specs.Request.{SetupAsksFor}
use Rattle.dfu_wire.specs.Status.{IsStatus}
use Rattle.dfu_wire.specs.State.{state_byte}
use Rattle.dfu_device.specs.declared.answer.Answer.{Answer}
use Rattle.dfu_device.specs.declared.answer.Answer.TheVariants as answer
use Rattle.dfu_device.specs.Rows.{request_for_table, asked_length, ReplyAnswer, body_length, is_served}
use Rattle.dfu_device.specs.PlanOutcomes.{status_read_back}
use Rattle.dfu_device.specs.RowForms.{reply_of_plan, ReplyMatches, row_form, row_reply_matches_request}
use Rattle.dfu_host.specs.Wire.{ReadsState}
use Rattle.dfu_host.specs.WireLaws.{status_understood, state_understood}
use Rattle.dfu_sim.specs.Bytes.{HeardOfAnswer}
use Rattle.dfu_sim.specs.Understood.{ResponsesUnderstood}

-- The request and its body are ones that a host sends.
abbrev pub IsHostRequest : Asked → List ℕ → Type 0
IsHostRequest (request.GetStatus len) body = (len ≡ 6) × (body ≡ [])
IsHostRequest (request.GetState len) body = (len ≡ 1) × (body ≡ [])
IsHostRequest (request.Dnload block len) body = len ≡ length body
IsHostRequest (request.Detach timeout) body = body ≡ []
IsHostRequest (request.Upload block len) body = body ≡ []
IsHostRequest request.ClrStatus body = body ≡ []
IsHostRequest request.Abort body = body ≡ []
IsHostRequest q body = ⊥

-- The deed is a request that hosts send, a wait, a reset of the bus, or the end of a session.
abbrev pub IsHostDeed : Deed → Type 0
IsHostDeed (Send q body) = IsHostRequest q body
IsHostDeed d = Unit {0}

-- Each deed of the host's table satisfies `IsHostDeed`.
pub phase_has_host_deed : (task : Task) (phase : Phase) → IsHostDeed (deed task phase)
phase_has_host_deed task Enter = holds_in_both_branches IsHostDeed task.will_detach _ _ tt tt
phase_has_host_deed task phase = search

-- Each request of the host's table satisfies `IsHostRequest`.
pub host_request_is_known : (task : Task) (phase : Phase) (q : Asked) (body : List ℕ) → deed task phase ≡ Send q body → IsHostRequest q body
host_request_is_known task phase q body e = subst IsHostDeed e (phase_has_host_deed task phase)

-- Equal answers have equal meanings.
equal_answers_mean_same : (d : Deed) (a x : Answer) (out : List ℕ) (heard : Heard) → a ≡ x → HeardOfAnswer d a out heard →
    HeardOfAnswer d x out heard
equal_answers_mean_same d a x out heard e h = subst (λ (y : Answer). HeardOfAnswer d y out heard) e h

-- The received meaning is that of the reply, or NoRoom for a part without memory.
abbrev HeardAsReply : Reply → Heard → Type 0
HeardAsReply reply heard = (room : Bool) × (heard ≡ heard_with_room (heard_of_reply reply) room)

-- The host receives the meaning of a reply that fits its request.
pub reply_answer_is_heard : (most : ℕ) (q : Asked) (body : List ℕ) (reply : Reply) (a : Answer) (out : List ℕ) (heard : Heard) →
    IsHostRequest q body
    → ReplyMatches most reply (request_for_table q body)
    → ReplyAnswer (asked_length q) reply a out → HeardOfAnswer (Send q body) a out heard → HeardAsReply reply heard
reply_answer_is_heard most q body Stall a out heard i f says h = (
  true,
  equal_answers_mean_same (Send q body) a answer.Stall out heard says.0
      h,
)
reply_answer_is_heard most q body Ack a out heard i f says h = (true, equal_answers_mean_same (Send q body) a answer.Ack out heard says.0 h)
reply_answer_is_heard most (request.GetStatus len) body (StatusOf code poll state) a out heard i f says h =
    let whole : (a ≡ answer.Bytes) × IsStatus (record { code = code; poll_ms = poll; state = state }) out = status_read_back len code poll
    state
    a out (omega (arith, i.0)) says in (
      true,
      status_understood (record { code = code; poll_ms = poll; state = state }) out heard whole.1
          (equal_answers_mean_same (Send (request.GetStatus len) body) a answer.Bytes out heard whole.0 h),
    )
reply_answer_is_heard most (request.GetState len) body (StateOf state) a out heard i f says h =
    let whole : out ≡ state_byte state ∷ [] = says.1 ∙ ap (λ n. take n (state_byte state ∷ [])) i.0 in (
      true,
      state_understood state heard (subst (λ l. ReadsState l heard) whole
          (equal_answers_mean_same (Send (request.GetState len) body) a answer.Bytes out heard says.0 h)),
    )
reply_answer_is_heard most (request.Upload block len) body (Data bytes) a out heard i f says h =
    elim (equal_answers_mean_same (Send (request.Upload block len) body) a answer.Bytes out heard says.0 h) [
      | inl part ↦ (true, part ∙ ap Part says.1)
      | inr (none, needs) ↦ (false, none)
    ]
reply_answer_is_heard most q body reply a out heard i f says h = search

-- For each luck of the medium, the reply of a request's plan fits the request, even if the program refuses an image.
plan_reply_fits_request : (x : Option Objection) (c : Profile) (i : List ℕ) (st : Stage) (r : Meant) (luck : Luck)
    → ReplyMatches c.transfer (plan_outcome i (plan_with_refusal x c i st r) luck).reply r
plan_reply_fits_request None c i st r luck =
    reply_of_plan (λ reply. ReplyMatches c.transfer reply r) i (plan c i st r) luck (row_reply_matches_request c i st r (plan c i st r)
    (row_form c i st r))
plan_reply_fits_request (Some why) c i st r luck =
    holds_in_both_branches (λ (p : Plan). ReplyMatches c.transfer (plan_outcome i p luck).reply r) (request_closes c.least st r) _ _ tt
    (reply_of_plan (λ reply. ReplyMatches c.transfer reply r) i (plan c i st r) luck (row_reply_matches_request c i st r (plan c i st r)
    (row_form c i st r)))

-- The host receives the meaning of the reply of a plan, even if the program refuses an image.
pub plan_answer_is_heard : (x : Option Objection) (q : Asked) (body : List ℕ) (c : Profile) (i : List ℕ) (st : Stage) (luck : Luck) (a :
    Answer)
    (out : List ℕ) (heard : Heard) → IsHostRequest q body → let reply = (plan_outcome i (plan_with_refusal x c i st (request_for_table q
    body)) luck).reply in
    ReplyAnswer (asked_length q) reply a out → HeardOfAnswer (Send q body) a out heard → HeardAsReply reply heard
plan_answer_is_heard x q body c i st luck a out heard is says h =
    reply_answer_is_heard c.transfer q body _ a out heard is (plan_reply_fits_request x c i st (request_for_table q body) luck) says h

-- A host receives each answer of a device with the meaning that the device gave it, or NoRoom for a part of an upload without memory.
pub understood : ResponsesUnderstood
understood task phase q body c image stage luck a out heard e says h =
    plan_answer_is_heard None q body c image stage luck a out heard (host_request_is_known task phase q body e) says h

-- A body of wLength bytes has the length that a host-to-device request requires.
host_write_fits_its_body : (p : Setup) (body : List ℕ) → p.kind ≡ 0x21 → length body ≡ p.length → (length body == body_length p) ≡ true
host_write_fits_its_body p body k e = let f : (p.kind == 0x21) ≡ true = grind (arith, nat_tests) in
    let g : (length body == p.length) ≡ true = grind (arith, nat_tests) in rw f g

-- An empty body has the length that each device-to-host request requires.
empty_body_fits_host_read : (p : Setup) (body : List ℕ) → p.kind ≡ 0xa1 → length body ≡ 0 → (length body == body_length p) ≡ true
empty_body_fits_host_read p body k e = let f : (p.kind == 0x21) ≡ false = grind (arith, nat_tests) in
    let g : (length body == 0) ≡ true = grind (arith, nat_tests) in rw f g

-- Each request that a host sends is one of the DFU class, and its body has the length that the setup packet requires.
pub served : (p : Setup) (q : Asked) (body : List ℕ) → IsHostRequest q body → SetupAsksFor p q → is_served p q body ≡ true
served p (request.Dnload block len) body i a = host_write_fits_its_body p body a.0.kind (sym i ∙ a.2)
served p (request.Upload block len) body i a = empty_body_fits_host_read p body a.0.kind (ap length i)
served p (request.GetStatus len) body i a = empty_body_fits_host_read p body a.0.kind (ap length i.1)
served p (request.GetState len) body i a = empty_body_fits_host_read p body a.0.kind (ap length i.1)
served p request.OtherClass body i a = elim i [ ]
served p request.NotDfu body i a = elim i [ ]
served p q body i a = host_write_fits_its_body p body a.0.kind (ap length i ∙ sym a.1)
