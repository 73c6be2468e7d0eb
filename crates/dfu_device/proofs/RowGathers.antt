-- Lemmas about the bytes that the rows of a history gather. The accepted bytes and the sent bytes are two instances.
use Rattle.std.specs.Prelude.{◌≡◌, ℕ, Bool, true, if◌then◌else◌, List, [], ◌∷◌, ◌++◌}
use Rattle.std.proofs.Common.{sym, ap, ◌∙◌, subst}
use Rattle.dfu_wire.specs.declared.setups.Setup.{Setup}
use Rattle.dfu_wire.specs.declared.requests.Request.{Request as Asked}
use Rattle.dfu_wire.specs.declared.states.State.{State}
use Rattle.dfu_wire.specs.Setup.{IsSetup}
use Rattle.dfu_wire.specs.Request.{SetupAsksFor}
use Rattle.dfu_slots.specs.StoreView.{store_on, image_of}
use Rattle.dfu_device.specs.declared.answer.Answer.{Answer}
use Rattle.dfu_device.specs.declared.answer.Answer.TheVariants as answer
use Rattle.dfu_device.specs.declared.objection.Objection.{Objection}
use Rattle.dfu_device.specs.Stage.{Request, OtherRequest, Reply, Profile, Stage, InAppIdle, InError, state_of}
use Rattle.dfu_device.specs.Table.{Plan, plan, time_plan, reset_stage, objection_code, refuse_stage}
use Rattle.dfu_device.specs.Outcome.{Luck, Outcome, plan_outcome}
use Rattle.dfu_device.specs.DeviceView.{DeviceView, profile}
use Rattle.dfu_device.specs.Rows.{request_for_table, asked_length, ReplyAnswer, is_served, Handles, handled_by_reading, Elapses, Cause, Transfer, Passing, BusReset, RefusingClose, Refusing, PowerOn, Row}
use Rattle.dfu_device.specs.PlanOutcomes.{PlanOutcome, setups_have_outcomes, not_served_is_stalled, times_have_outcomes}
use Rattle.dfu_device.specs.RowForms.{ReplyMatches, reply_of_plan, RowForm, row_form, time_plan_has_form, row_reply_matches_request}
use Rattle.dfu_device.specs.History.{HistoryStep, IsTableRow, IsHistory, Gathered, from_start}
use Rattle.dfu_device.proofs.History.{one_more_step_gathers, history_gathers}
use Rattle.dfu_device.proofs.Cases.{bool_has_two_cases}

-- If a setup packet has a row in the table, the reply satisfies ReplyMatches for the packet's request.
pub served_reply_matches_request : (q : Asked) (body : List ℕ) (len : ℕ) (w : DeviceView) (a : Answer) (out : List ℕ) (w' : DeviceView)
    (x : PlanOutcome (plan (profile w) (image_of w.slots) w.stage (request_for_table q body)) len w a out w')
    → ReplyMatches (profile w).transfer x.reply (request_for_table q body)
served_reply_matches_request q body len w a out w' x =
    let p : Plan = plan (profile w) (image_of w.slots) w.stage (request_for_table q body) in
    subst (λ (o : Outcome). ReplyMatches (profile w).transfer o.reply (request_for_table q body)) x.same
    (reply_of_plan (λ (reply : Reply). ReplyMatches (profile w).transfer reply (request_for_table q body)) (image_of w.slots) p x.luck
    (row_reply_matches_request (profile w) (image_of w.slots) w.stage (request_for_table q body) p
    (row_form (profile w) (image_of w.slots) w.stage (request_for_table q body))))

-- Four functions define what is gathered: the states in which bytes are held, the bytes held by image and stage, the bytes after a reply,
-- and the bytes that a cause and its answer add.
module _ (inside : State → Bool) (held : List ℕ → Stage → List ℕ) (joined : List ℕ → Request → Reply → List ℕ)
    (own : Cause → Answer → List ℕ → List ℕ) where
  -- Bytes that a device still holds in a state: all of them if `inside` is true for the state, otherwise none.
  abbrev left : State → List ℕ → List ℕ
  left state bytes = if inside state then bytes else []

  -- Bytes that a device holds in its stage.
  abbrev held_by : DeviceView → List ℕ
  held_by w = held (image_of w.slots) w.stage

  -- After an outcome the device holds the bytes that it held before, joined with those that the reply adds, or none if `inside` is false
  -- for the new state.
  abbrev JoinsHeldBytes : List ℕ → Request → Outcome → Type 0
  JoinsHeldBytes before r o = held o.after.image o.after.stage ≡ left (state_of o.after.stage) (joined before r o.reply)

  -- Facts about the four functions from which the lemmas of this file follow.
  pub record GatheringFacts : Type 0 where
    -- After a row of each form the held bytes are joined with those that the reply adds.
    pub form : (c : Profile) (i : List ℕ) (st : Stage) (r : Request) (p : Plan) → RowForm c i st r p → (luck : Luck)
        → JoinsHeldBytes (held i st) r (plan_outcome i p luck)
    -- The bytes that a reply adds are the bytes that the setup packet and its answer add.
    pub answered : (p : Setup) (q : Asked) (setup body before : List ℕ) (most len : ℕ) (reply : Reply) (a : Answer) (out : List ℕ)
        → IsSetup p setup → SetupAsksFor p q → is_served p q body ≡ true → ReplyMatches most reply (request_for_table q body)
        → ReplyAnswer len reply a out
        → joined before (request_for_table q body) reply ≡ before ++ own (Transfer setup body) a out
    -- A stalled setup packet adds no bytes.
    pub stalled : (setup body out : List ℕ) → own (Transfer setup body) answer.Stall out ≡ []
    pub waits : (ms : ℕ) (before : List ℕ) (reply : Reply) (a : Answer) (out : List ℕ)
        → joined before OtherRequest reply ≡ before ++ own (Passing ms) a out
    -- A device that stays in its stage holds the same bytes, and after a reset of the bus it holds none.
    pub stays : (i : List ℕ) (st : Stage) → held i st ≡ left (state_of st) (held i st ++ [])
    pub resets : (i bytes : List ℕ) (st : Stage) → held i (reset_stage st) ≡ left (state_of (reset_stage st)) bytes
    -- A device in dfuERROR holds no bytes, and a refusal of an image adds none.
    pub error_leaves_no_bytes : (why : Objection) (i bytes : List ℕ)
        → held i (InError (objection_code why)) ≡ left (state_of (InError (objection_code why))) bytes
    pub refuses : (why : Objection) (i : List ℕ) (st : Stage) (a : Answer) (out : List ℕ)
        → held i (refuse_stage why st) ≡ left (state_of (refuse_stage why st)) (held i st ++ own (Refusing why) a out)

  module _ (known : GatheringFacts) where
    -- If a setup packet has a row in the table, the held bytes grow by those that the packet and its answer add.
    served : (p : Setup) (q : Asked) (setup body : List ℕ) (w : DeviceView) (a : Answer) (out : List ℕ) (w' : DeviceView) → IsSetup p setup
        → SetupAsksFor p q → is_served p q body ≡ true → Handles setup body w a out w'
        → held_by w' ≡ left (state_of w'.stage) (held_by w ++ own (Transfer setup body) a out)
    served p q setup body w a out w' reads asks on h =
        let x : PlanOutcome (plan (profile w) (image_of w.slots) w.stage (request_for_table q body)) (asked_length q) w a out w' =
        setups_have_outcomes p q setup body w a out w' reads asks on h in
        subst (JoinsHeldBytes (held_by w) (request_for_table q body)) x.same
        (known.form (profile w) (image_of w.slots) w.stage (request_for_table q body)
        (plan (profile w) (image_of w.slots) w.stage (request_for_table q body))
        (row_form (profile w) (image_of w.slots) w.stage (request_for_table q body)) x.luck)
        ∙ ap (left (state_of w'.stage)) (known.answered p q setup body (held_by w) (profile w).transfer (asked_length q) x.reply a out
        reads asks on (served_reply_matches_request q body (asked_length q) w a out w' x) x.answers)

    -- A setup packet that is stalled and changes nothing adds no bytes.
    unserved : (setup body : List ℕ) (w : DeviceView) (a : Answer) (out : List ℕ) (w' : DeviceView) → (a ≡ answer.Stall) × (w' ≡ w)
        → held_by w' ≡ left (state_of w'.stage) (held_by w ++ own (Transfer setup body) a out)
    unserved setup body w a out w' (stall, same) =
        subst (λ (z : DeviceView). held_by z ≡ left (state_of z.stage) (held_by w ++ own (Transfer setup body) a out)) (sym same)
        (known.stays (image_of w.slots) w.stage ∙ ap (λ (l : List ℕ). left (state_of w.stage) (held_by w ++ l))
        (sym (ap (λ (x : Answer). own (Transfer setup body) x out) stall ∙ known.stalled setup body out)))

    -- A row of elapsed time adds to the held bytes those that its cause adds.
    waited : (ms : ℕ) (w : DeviceView) (a : Answer) (out : List ℕ) (w' : DeviceView) → Elapses ms w w'
        → held_by w' ≡ left (state_of w'.stage) (held_by w ++ own (Passing ms) a out)
    waited ms w a out w' row =
        let x : PlanOutcome (time_plan (profile w) w.stage ms) 0 w answer.Ack [] w' = times_have_outcomes ms w w' row in
        subst (JoinsHeldBytes (held_by w) OtherRequest) x.same
        (known.form (profile w) (image_of w.slots) w.stage OtherRequest (time_plan (profile w) w.stage ms)
        (time_plan_has_form (profile w) (image_of w.slots) w.stage ms) x.luck)
        ∙ ap (left (state_of w'.stage)) (known.waits ms (held_by w) x.reply a out)

    -- A row adds to the held bytes those that its cause and answer add. None are left if `inside` is false for the state after the row.
    pub row_adds_own_bytes : (w : DeviceView) (cause : Cause) (a : Answer) (out : List ℕ) (w' : DeviceView) → Row w cause a out w'
        → held_by w' ≡ left (state_of w'.stage) (held_by w ++ own cause a out)
    row_adds_own_bytes w (Transfer setup body) a out w' (handled_by_reading p q reads asks done) =
        bool_has_two_cases (is_served p q body)
        (λ on. served p q setup body w a out w' reads asks on (handled_by_reading p q reads asks done))
        (λ off. unserved setup body w a out w'
        (not_served_is_stalled p q setup body w a out w' reads asks off (handled_by_reading p q reads asks
        done)))
    row_adds_own_bytes w (Passing ms) a out w' (is, none, row) = waited ms w a out w' row
    row_adds_own_bytes w BusReset a out w' (is, none, same) =
        subst (λ (z : DeviceView). held_by z ≡ left (state_of z.stage) (held_by w ++ own BusReset a out)) (sym same)
        (known.resets (image_of w.slots) (held_by w ++ own BusReset a out) w.stage)
    row_adds_own_bytes w (RefusingClose setup why) a out w' (is, none, closes, same) =
        subst (λ (z : DeviceView). held_by z ≡ left (state_of z.stage) (held_by w ++ own (RefusingClose setup why) a out)) (sym same)
        (known.error_leaves_no_bytes why (image_of w.slots) (held_by w ++ own (RefusingClose setup why) a out))
    row_adds_own_bytes w (Refusing why) a out w' (is, none, same) =
        subst (λ (z : DeviceView). held_by z ≡ left (state_of z.stage) (held_by w ++ own (Refusing why) a out)) (sym same)
        (known.refuses why (image_of w.slots) w.stage a out)
    row_adds_own_bytes w PowerOn a out w' (is, none, same) =
        subst (λ (z : DeviceView). held_by z ≡ left (state_of z.stage) (held_by w ++ own PowerOn a out)) (sym same)
        (known.resets (image_of (store_on w.slots.medium)) (held_by w ++ own PowerOn a out) InAppIdle)

    -- True if the step ends in a state in which bytes are held.
    abbrev ends_inside : HistoryStep → Bool
    ends_inside s = inside (state_of s.after.stage)

    -- Bytes that a step's cause and answer add.
    abbrev own_bytes_of_step : HistoryStep → List ℕ
    own_bytes_of_step s = own s.cause s.answer s.out

    -- After one more step a history also gathers the bytes that the step adds.
    pub step_adds_own_bytes : (h : List HistoryStep) (s : HistoryStep) → Gathered ends_inside own_bytes_of_step h (held_by s.before) →
        IsTableRow s
        → Gathered ends_inside own_bytes_of_step (h ++ s ∷ []) (held_by s.after)
    step_adds_own_bytes h s gathered row =
        let both : List ℕ = held_by s.before ++ own_bytes_of_step s in
        let now : held_by s.after ≡ left (state_of s.after.stage) both = row_adds_own_bytes s.before s.cause s.answer s.out s.after row in
        one_more_step_gathers ends_inside own_bytes_of_step h s (held_by s.before) (held_by s.after) gathered
        (λ on. now ∙ ap (λ (b : Bool). if b then both else []) on) (λ off. now ∙ ap (λ (b : Bool). if b then both else []) off)

    -- After any number of more steps a history also gathers the bytes that the steps add.
    pub history_adds_own_bytes : (g h : List HistoryStep) (w w' : DeviceView) → Gathered ends_inside own_bytes_of_step g (held_by w) →
        IsHistory w h w'
        → Gathered ends_inside own_bytes_of_step (g ++ h) (held_by w')
    history_adds_own_bytes g h w w' gathered run = history_gathers ends_inside own_bytes_of_step held_by step_adds_own_bytes g h w w'
        gathered run

    -- If a device held no bytes at first, it holds exactly the bytes that its history gathers.
    pub history_from_start_gathers : (h : List HistoryStep) (w w' : DeviceView) → held_by w ≡ [] → IsHistory w h w'
        → Gathered ends_inside own_bytes_of_step h (held_by w')
    history_from_start_gathers h w w' none run = history_adds_own_bytes [] h w w' (from_start tt none) run
