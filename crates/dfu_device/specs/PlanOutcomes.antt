-- Each row of a device leads to an outcome of its plan. The medium's writes (Luck) determine which one.
use Rattle.std.specs.Prelude.{◌≡◌, ℕ, ◌≤◌, true, false, List, [], ◌∷◌, length}
use Rattle.std.proofs.Common.{refl, sym, ap, ◌∙◌, inl, inr, subst, arith}
use Rattle.std.proofs.lemmas.List.{take_all}
use Rattle.dfu_wire.specs.declared.setups.Setup.{Setup}
use Rattle.dfu_wire.specs.declared.requests.Request.{Request as Asked}
use Rattle.dfu_wire.specs.declared.states.State.{State}
use Rattle.dfu_wire.specs.declared.codes.Code.{Code}
use Rattle.dfu_wire.specs.Setup.{IsSetup}
use Rattle.dfu_wire.specs.Status.{IsStatus}
use Rattle.dfu_wire.specs.Request.{SetupAsksFor}
use Rattle.dfu_wire.specs.OneRequest.{setup_asks_for_one_request}
use Rattle.dfu_wire.specs.OneValue.{bytes_encode_one_setup}
use Rattle.dfu_slots.specs.Medium.{CountRose}
use Rattle.dfu_slots.specs.Medium.Fuse.{Whole}
use Rattle.dfu_slots.specs.Unarmed.{whole_fuse_after_calls, whole_fuse_fails_no_call}
use Rattle.dfu_slots.specs.StoreView.{image_of, room_of, Commit}
use Rattle.dfu_device.specs.declared.answer.Answer.{Answer}
use Rattle.dfu_device.specs.declared.answer.Answer.TheVariants as answer
use Rattle.dfu_device.specs.Stage.{Reply, StatusOf, Stall, Stage}
use Rattle.dfu_device.specs.Table.{Plan, Sure, Writes, Commits, plan, time_plan}
use Rattle.dfu_device.specs.Outcome.{Luck, Works, FailsOld, FailsNew, Outcome, plan_outcome}
use Rattle.dfu_device.specs.DeviceView.{DeviceView, profile_of, profile, situation}
use Rattle.dfu_device.specs.Rows.{request_for_table, asked_length, ReplyAnswer, block_calls, Done, Elapses, is_close, IsCloseSetup, is_served, setup_plan, Handles, handled_by_reading}

-- The luck agrees with the medium: a write had a fault only if the count of failures rose or is at its maximum.
abbrev pub IsLuckOfMedium : Luck → DeviceView → DeviceView → Type 0
IsLuckOfMedium Works w w' = Unit {0}
IsLuckOfMedium luck w w' = CountRose w.slots.medium.failures w'.slots.medium.failures

-- A plan leads to one of its outcomes. If the fuse is `Whole`, each write works, and the fuse stays `Whole`.
pub record PlanOutcome (p : Plan) (len : ℕ) (w : DeviceView) (a : Answer) (out : List ℕ) (w' : DeviceView) : Type 0 where
  pub luck : Luck
  pub reply : Reply
  pub same : plan_outcome (image_of w.slots) p luck ≡ record { reply = reply; after = situation w' }
  pub answers : ReplyAnswer len reply a out
  pub fixed : profile w' ≡ profile w
  pub is_luck_of_medium : IsLuckOfMedium luck w w'
  pub unarmed : w.slots.medium.fuse ≡ Whole → (luck ≡ Works) × (w'.slots.medium.fuse ≡ Whole)

-- Devices with the same settings and capacity have the same profile.
equal_configs_have_equal_profile : (w w' : DeviceView) → w'.config ≡ w.config → room_of w'.slots ≡ room_of w.slots → profile w' ≡ profile w
equal_configs_have_equal_profile w w' config room = λ k. profile_of (config k) (room k)

-- If the image and the stage of an outcome are those of a device, the outcome's situation is that of the device.
outcome_fits_device_view : (reply : Reply) (w' : DeviceView) (image : List ℕ) (stage : Stage) → image_of w'.slots ≡ image → w'.stage ≡ stage
    → ◌≡◌ {A = Outcome} (record { reply = reply; after = record { image = image; stage = stage } })
    (record { reply = reply; after = situation w' })
outcome_fits_device_view reply w' image stage i s = λ k. record { reply = reply; after = record { image = sym i k; stage = sym s k } }

-- Each plan that the device performs leads to one of its outcomes.
abbrev pub PlansHaveOutcomes : Type 0
PlansHaveOutcomes = (p : Plan) (len : ℕ) (w : DeviceView) (a : Answer) (out : List ℕ) (w' : DeviceView) → Done p len w a out w'
    → PlanOutcome p len w a out w'

pub came : PlansHaveOutcomes
came (Sure reply stage) len w a out w' (says, is) = record {
  luck = Works;
  reply = reply;
  same = ap (λ (z : DeviceView). record { reply = reply; after = situation z }) (sym is);
  answers = says;
  fixed = ap profile is;
  is_luck_of_medium = tt;
  unarmed = λ e. (refl, ap (λ (z : DeviceView). z.slots.medium.fuse) is ∙ e);
}
came (Writes before block reply stage bad) len w a out w' (inl (says, h)) = record {
  luck = Works;
  reply = reply;
  same = outcome_fits_device_view reply w' (image_of w.slots) stage h.image h.stage_is;
  answers = says;
  fixed = equal_configs_have_equal_profile w w' h.config_is h.room;
  is_luck_of_medium = tt;
  unarmed = λ e. (refl, whole_fuse_after_calls w.slots w'.slots (block_calls before block) e h.calls);
}
came (Writes before block reply stage bad) len w a out w' (inr (fault, says, h)) = record {
  luck = FailsOld fault;
  reply = bad fault;
  same = outcome_fits_device_view (bad fault) w' (image_of w.slots) _ h.image h.stage_is;
  answers = says;
  fixed = equal_configs_have_equal_profile w w' h.config_is h.room;
  is_luck_of_medium = h.failed;
  unarmed = λ e. absurd (whole_fuse_fails_no_call fault w.slots w'.slots (block_calls before block) e h.calls);
}
came (Commits taken reply stage bad) len w a out w' (inl (says, h)) = record {
  luck = Works;
  reply = reply;
  same = outcome_fits_device_view reply w' taken stage h.image h.stage_is;
  answers = says;
  fixed = equal_configs_have_equal_profile w w' h.config_is h.room;
  is_luck_of_medium = tt;
  unarmed = λ e. (refl, whole_fuse_after_calls w.slots w'.slots (Commit (length taken) ∷ []) e h.calls);
}
came (Commits taken reply stage bad) len w a out w' (inr (fault, says, h)) = elim (h.image) [
  | inl old ↦ record {
    luck = FailsOld fault;
    reply = bad fault;
    same = outcome_fits_device_view (bad fault) w' (image_of w.slots) _ old h.stage_is;
    answers = says;
    fixed = equal_configs_have_equal_profile w w' h.config_is h.room;
    is_luck_of_medium = h.failed;
    unarmed = λ e. absurd (whole_fuse_fails_no_call fault w.slots w'.slots (Commit (length taken) ∷ []) e h.calls);
  }
  | inr new ↦ record {
    luck = FailsNew fault;
    reply = bad fault;
    same = outcome_fits_device_view (bad fault) w' taken _ new h.stage_is;
    answers = says;
    fixed = equal_configs_have_equal_profile w w' h.config_is h.room;
    is_luck_of_medium = h.failed;
    unarmed = λ e. absurd (whole_fuse_fails_no_call fault w.slots w'.slots (Commit (length taken) ∷ []) e h.calls);
  }
]

-- If a setup packet encodes the request q, the device performs the plan of q.
abbrev pub RowByReading : Type 0
RowByReading = (p : Setup) (q : Asked) (setup body : List ℕ) (w : DeviceView) (a : Answer) (out : List ℕ) (w' : DeviceView) →
    IsSetup p setup
    → SetupAsksFor p q
    → Handles setup body w a out w'
    → Done (setup_plan w p q body) (asked_length q) w a out w'

-- The row of a setup packet is that of its request q, because the packet encodes only one request.
pub row_follows_reading : RowByReading
row_follows_reading p q setup body w a out w' reads asks (handled_by_reading p2 q2 reads2 asks2 done) =
    let same : p2 ≡ p = bytes_encode_one_setup p2 p setup reads2 reads in
    let one : q2 ≡ q = setup_asks_for_one_request p q2 q (subst (λ (x : Setup). SetupAsksFor x q2) same asks2) asks in
    subst (λ (y : Asked). Done (setup_plan w p y body) (asked_length y) w a out w') one
    (subst (λ (x : Setup). Done (setup_plan w x q2 body) (asked_length q2) w a out w') same done)

-- Each setup packet that has a row in the table leads to an outcome of the row's plan.
abbrev pub SetupsHaveOutcomes : Type 0
SetupsHaveOutcomes = (p : Setup) (q : Asked) (setup body : List ℕ) (w : DeviceView) (a : Answer) (out : List ℕ) (w' : DeviceView)
    → IsSetup p setup
    → SetupAsksFor p q
    → is_served p q body ≡ true
    → Handles setup body w a out w' → PlanOutcome (plan (profile w) (image_of w.slots) w.stage (request_for_table q body))
    (asked_length q) w a out w'

pub setups_have_outcomes : SetupsHaveOutcomes
setups_have_outcomes p q setup body w a out w' reads asks on h =
    let row = row_follows_reading p q setup body w a out w' reads asks h in
    came (plan (profile w) (image_of w.slots) w.stage (request_for_table q body)) (asked_length q) w a out w' (rw on at row)

-- A setup packet without a row in the table is stalled and changes nothing.
abbrev pub NotServedIsStalled : Type 0
NotServedIsStalled = (p : Setup) (q : Asked) (setup body : List ℕ) (w : DeviceView) (a : Answer) (out : List ℕ) (w' : DeviceView) →
    IsSetup p setup
    → SetupAsksFor p q
    → is_served p q body ≡ false
    → Handles setup body w a out w' → (a ≡ answer.Stall) × (w' ≡ w)

pub not_served_is_stalled : NotServedIsStalled
not_served_is_stalled p q setup body w a out w' reads asks off h =
    let row : Done (setup_plan w p q body) (asked_length q) w a out w' = row_follows_reading p q setup body w a out w' reads asks h in
    stalled (rw off at row)
  where
    stalled : Done (Sure Stall w.stage) (asked_length q) w a out w' → (a ≡ answer.Stall) × (w' ≡ w)
    stalled x = (x.0.0, x.1)

-- Each elapsed time leads to an outcome of the plan of its row.
abbrev pub TimesHaveOutcomes : Type 0
TimesHaveOutcomes = (ms : ℕ) (w w' : DeviceView) → Elapses ms w w' → PlanOutcome (time_plan (profile w) w.stage ms) 0 w answer.Ack [] w'

pub times_have_outcomes : TimesHaveOutcomes
times_have_outcomes ms w w' row = came (time_plan (profile w) w.stage ms) 0 w answer.Ack [] w' row

-- An answer to a GETSTATUS with wLength 6 or more decodes to the status of the reply.
abbrev pub StatusReadBack : Type 0
StatusReadBack = (len : ℕ) (code : Code) (poll : ℕ) (state : State) (a : Answer) (out : List ℕ) → 6 ≤ len
    → ReplyAnswer len (StatusOf code poll state) a out
    → (a ≡ answer.Bytes) × IsStatus (record { code = code; poll_ms = poll; state = state }) out

pub status_read_back : StatusReadBack
status_read_back len code poll state a out room (is, bytes, status, string, front) = (
  is,
  subst (λ (l : List ℕ). IsStatus (record { code = code; poll_ms = poll; state = state }) l)
      (sym (front ∙ take_all len bytes (omega (arith, room, status.length)))) status,
)

-- If IsCloseSetup holds for a setup packet, each request that it encodes is a DNLOAD with wLength 0.
pub close_setup_asks_for_close : (setup : List ℕ) (p : Setup) (q : Asked) → IsSetup p setup → SetupAsksFor p q → IsCloseSetup setup →
    is_close q ≡ true
close_setup_asks_for_close setup p q reads asks (p2, q2, reads2, asks2, close) =
    let same : p2 ≡ p = bytes_encode_one_setup p2 p setup reads2 reads in
    subst (λ (r : Asked). is_close r ≡ true)
    (setup_asks_for_one_request p q2 q (subst (λ (x : Setup). SetupAsksFor x q2) same asks2) asks) close
