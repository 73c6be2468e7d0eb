-- A performed decision leads to the row of its plan.
use Rattle.std.proofs.Common.{◌≡◌, ◌&&◌, Bool, inl, inr, IsTrue, true, if◌then◌else◌, ℕ, List, [], length, refl, sym, ◌∙◌, ap, subst, arith, Result, Ok, Err, OnOk, IfErr}
use Rattle.std.proofs.lemmas.Grind.{common_steps}
use Rattle.std.proofs.lemmas.List.{length-take-le}
use Rattle.dfu_wire.specs.declared.requests.Request.{Request as Asked}
use Rattle.dfu_wire.specs.declared.requests.Request.TheVariants as asked
use Rattle.dfu_slots.specs.declared.fault.WriteFault.{WriteFault}
use Rattle.dfu_slots.specs.StoreView.{SlotsState, image_of, spare_of, room_of, is_shaped}
use Rattle.dfu_device.specs.declared.answer.Answer.{Answer}
use Rattle.dfu_device.specs.declared.answer.Answer.TheVariants as answer
use Rattle.dfu_device.specs.declared.decision.Reply.{Reply as ReplyRead}
use Rattle.dfu_device.specs.declared.decision.Reply.TheVariants as reply
use Rattle.dfu_device.specs.declared.config.Profile.{Profile as ProfileRead}
use Rattle.dfu_device.specs.declared.decision.Decision.{Decision}
use Rattle.dfu_device.specs.declared.answer.PendingAnswer.{PendingAnswer}
use Rattle.dfu_device.specs.declared.answer.PendingAnswer.TheVariants as pending_answer
use Rattle.dfu_device.specs.declared.device_state.DeviceState.{DeviceState}
use Rattle.dfu_device.specs.declared.device_state.DeviceState.TheVariants as device_state
use Rattle.dfu_device.specs.Stage.{Reply, Stall, Profile, Stage, InError}
use Rattle.dfu_device.specs.Table.{Plan, Sure, Writes, Commits, write_code, commit_code, plan, time_plan}
use Rattle.dfu_device.specs.DeviceView.{DeviceView, profile, profile_of}
use Rattle.dfu_device.specs.Parts.{stage_of, is_put, is_filled, are_device_parts}
use Rattle.dfu_device.specs.Rows.{ReplyAnswer, Done, Handles, handled_by_reading, Elapses, request_for_table, asked_length, is_served, setup_plan, Committed, FailedCommit, WroteBlock, FailedBlock}
use Rattle.dfu_device.specs.Decision.{table_profile_of, table_reply_of, plan_of, HasWrittenBytes, HasTimeInputs, HasBodyLength, DecidesTime, AllowsDecision, AllowsRequest}
use Rattle.dfu_device.specs.SetupDecision.{DecidesSetup}
use Rattle.dfu_device.specs.inside.PendingAnswer.{pending_answer_of, AnswersPending, CarriedOutPending}

-- If a pending answer was made from a reply, its answer is that of the reply.
pub pending_answer_is_reply : (r : ReplyRead) (asked : ℕ) (w : DeviceView) (a : Answer) (out : List ℕ)
    → AnswersPending (pending_answer_of asked r) w a out
    → ReplyAnswer asked (table_reply_of (profile w) w.stage r) a out
pending_answer_is_reply reply.Ack asked w a out says = says
pending_answer_is_reply reply.Status asked w a out says = says
pending_answer_is_reply reply.State asked w a out says = says
pending_answer_is_reply reply.Stall asked w a out says = says

-- If the settings and the capacity stay, a pending answer in the new stage gives the answer of its reply in that stage.
pending_answer_of_stage : (r : ReplyRead) (asked : ℕ) (w w' : DeviceView) (stage : Stage) (a : Answer) (out : List ℕ) → w'.config ≡ w.config
    → room_of w'.slots ≡ room_of w.slots → w'.stage ≡ stage → AnswersPending (pending_answer_of asked r) w' a out
    → ReplyAnswer asked (table_reply_of (profile w) stage r) a out
pending_answer_of_stage r asked w w' stage a out config room is says =
    subst (λ (x : Reply). ReplyAnswer asked x a out) (λ k. table_reply_of (profile_of (config k) (room k)) (is k) r)
    (pending_answer_is_reply r asked w' a out says)

-- If C follows from the fact that holds after Ok, and from the fact that holds after each fault, C holds for every result.
follows_from_either_result : {T A C : Type 0} {B : WriteFault → Type 0} (r : Result T WriteFault) → OnOk r A → IfErr r B → (A → C)
    → ((fault : WriteFault) → B fault → C) → C
follows_from_either_result (Ok x) a b f g = f a
follows_from_either_result (Err fault) a b f g = g fault b

-- If a block was written, or its write had a fault, the plan that writes it was performed.
pub block_write_carries_out_plan : {T : Type 0} (w w' : DeviceView) (before block : List ℕ) (next : Stage) (r : ReplyRead) (asked : ℕ)
    (result : Result T WriteFault)
    → OnOk result (WroteBlock before block w.config w.slots next w')
    → IfErr result (λ fault. FailedBlock fault before block w.config w.slots w')
    → CarriedOutPending (Writes before block (table_reply_of (profile w) next r) next (λ fault. table_reply_of (profile w) (InError (write_code fault)) r))
    asked w (pending_answer_of asked r) w'
block_write_carries_out_plan w w' before block next r asked result good bad = λ a out says. follows_from_either_result result good bad
    (λ g. inl (pending_answer_of_stage r asked w w' next a out g.config_is g.room g.stage_is says, g))
    (λ fault b. inr (fault, pending_answer_of_stage r asked w w' (InError (write_code fault)) a out b.config_is b.room b.stage_is says, b))

-- If a commit worked, or one of its writes had a fault, the plan that commits was performed.
pub commit_carried_out : {T : Type 0} (w w' : DeviceView) (taken : List ℕ) (next : Stage) (r : ReplyRead) (asked : ℕ)
    (result : Result T WriteFault)
    → OnOk result (Committed taken w.config w.slots next w')
    → IfErr result (λ fault. FailedCommit fault taken w.config w.slots w')
    → CarriedOutPending
    (Commits taken (table_reply_of (profile w) next r) next (λ fault. table_reply_of (profile w) (InError (commit_code fault)) r))
    asked w (pending_answer_of asked r) w'
commit_carried_out w w' taken next r asked result good bad = λ a out says. follows_from_either_result result good bad
    (λ g. inl (pending_answer_of_stage r asked w w' next a out g.config_is g.room g.stage_is says, g))
    (λ fault b. inr (fault, pending_answer_of_stage r asked w w' (InError (commit_code fault)) a out b.config_is b.room b.stage_is says, b))

-- In dfuDNLOAD-IDLE the spare slot of a device holds all written bytes.
pub spare_holds_written : (m : DeviceState) (b : ℕ) (s : SlotsState) → IsTrue (are_device_parts m b s) → HasWrittenBytes m (spare_of s)
spare_holds_written (device_state.DownloadIdle written number) b s sound = length-take-le written (spare_of s) (grind (arith, common_steps))
spare_holds_written m b s sound = tt

-- The parts of a device satisfy HasTimeInputs.
pub parts_have_time_inputs : (m : DeviceState) (b : List ℕ) (s : SlotsState) → IsTrue (are_device_parts m (length b) s)
    → HasTimeInputs m (length b) (spare_of s) b
parts_have_time_inputs (device_state.DownloadBusy written number timer) b s sound =
    (length-take-le written (spare_of s) (grind (arith, common_steps)), refl)
parts_have_time_inputs (device_state.Manifest written timer) b s sound =
    length-take-le written (spare_of s) (grind (arith, common_steps))
parts_have_time_inputs m b s sound = tt

-- The store of a device agrees with its mode.
pub parts_have_mode_bytes : (m : DeviceState) (b : ℕ) (s : SlotsState) → IsTrue (are_device_parts m b s) → IsTrue (is_filled m b s)
parts_have_mode_bytes m b s sound = grind (arith, common_steps)

-- If the store of a device agrees with a mode, that mode and the store are parts of a device.
pub filled_mode_is_device_part : (m n : DeviceState) (b : ℕ) (s : SlotsState) → IsTrue (are_device_parts m b s) → is_filled n b s ≡ true
    → IsTrue (are_device_parts n b s)
filled_mode_is_device_part m n b s sound fills = second_conjunct_is_replaced (is_shaped s) (is_filled m b s) (is_filled n b s) sound fills
  where
    second_conjunct_is_replaced : (p q r : Bool) → IsTrue (p && q) → r ≡ true → IsTrue (p && r)
    second_conjunct_is_replaced p q r t e = grind (arith, common_steps)

-- The decision on a setup packet corresponds to the plan of the packet's row.
pub setup_decision_means_row : (p : ProfileRead) (m : DeviceState) (setup block body : List ℕ) (d : Decision) (asked : ℕ) (w : DeviceView)
    → table_profile_of p ≡ profile w → IsTrue (are_device_parts m (length block) w.slots) → w.stage ≡ stage_of m (spare_of w.slots) block
    → (decides : DecidesSetup p m setup body d asked)
    → plan_of (profile w) (image_of w.slots) (spare_of w.slots) block body d ≡ setup_plan w decides.read decides.request body
setup_decision_means_row p m setup block body d asked w same sound stage decides =
    let image = image_of w.slots in
    let spare = spare_of w.slots in
    let served = is_served decides.read decides.request body in
    let r = request_for_table decides.request body in
    subst (λ (c : Profile). plan_of c image spare block body d
    ≡ (if served then plan c image (stage_of m spare block) r else Sure Stall (stage_of m spare block))) same
    (decides.row image spare block (spare_holds_written m (length block) w.slots sound))
    ∙ ap (λ (st : Stage). if served then plan (profile w) image st r else Sure Stall st) (sym stage)

-- If the decision on a setup packet is performed, it leads to the row of the packet.
pub handled : (p : ProfileRead) (m : DeviceState) (setup block body : List ℕ) (d : Decision) (asked : ℕ) (w : DeviceView)
    → table_profile_of p ≡ profile w → IsTrue (are_device_parts m (length block) w.slots) → w.stage ≡ stage_of m (spare_of w.slots) block
    → DecidesSetup p m setup body d asked → (a : Answer) (out : List ℕ) (w' : DeviceView)
    → Done (plan_of (profile w) (image_of w.slots) (spare_of w.slots) block body d) asked w a out w' → Handles setup body w a out w'
handled p m setup block body d asked w same sound stage decides a out w' done =
    handled_by_reading decides.read decides.request decides.fields decides.asks
    (subst (λ (z : Plan). Done z (asked_length decides.request) w a out w')
    (setup_decision_means_row p m setup block body d asked w same sound stage decides)
    (subst (λ (n : ℕ). Done (plan_of (profile w) (image_of w.slots) (spare_of w.slots) block body d) n w a out w')
    decides.asked_is_request_length done))

-- If the decision on elapsed time is performed, it leads to the row of that time.
pub time_decision_is_row : (p : ProfileRead) (ms : ℕ) (m : DeviceState) (block body : List ℕ) (d : Decision) (w w' : DeviceView)
    (x : PendingAnswer)
    → table_profile_of p ≡ profile w → IsTrue (are_device_parts m (length block) w.slots) → w.stage ≡ stage_of m (spare_of w.slots) block
    → DecidesTime p m (length block) ms d → body ≡ []
    → CarriedOutPending (plan_of (profile w) (image_of w.slots) (spare_of w.slots) block body d) 0 w x w' → x ≡ pending_answer.Ack
    → Elapses ms w w'
time_decision_is_row p ms m block body d w w' x same sound stage decides none done silent =
    let image = image_of w.slots in
    let spare = spare_of w.slots in
    let there : plan_of (table_profile_of p) image spare block [] d ≡ time_plan (table_profile_of p) (stage_of m spare block) ms =
    decides image spare block (parts_have_time_inputs m block w.slots sound) in
    let here : plan_of (profile w) image spare block [] d ≡ time_plan (profile w) w.stage ms =
    subst (λ (c : Profile). plan_of c image spare block [] d ≡ time_plan c (stage_of m spare block) ms) same there
    ∙ ap (λ (st : Stage). time_plan (profile w) st ms) (sym stage) in
    let says : AnswersPending x w' answer.Ack [] =
    subst (λ (y : PendingAnswer). AnswersPending y w' answer.Ack []) (sym silent) (refl, refl) in
    subst (λ (z : Plan). Done z 0 w answer.Ack [] w') here
    (subst (λ (l : List ℕ). Done (plan_of (profile w) image spare block l d) 0 w answer.Ack [] w') none (done answer.Ack [] says))

pub allowed_in_equal_mode : (p : ProfileRead) (q : Asked) (d : Decision) {m n : DeviceState} → m ≡ n → AllowsRequest p n q d
    → AllowsRequest p m q d
allowed_in_equal_mode p q d is can = subst (λ (k : DeviceState). AllowsRequest p k q d) (sym is) can

pub equal_mode_allows_time_decision : (p : ProfileRead) (d : Decision) {m n : DeviceState} → m ≡ n → AllowsDecision p n 0 d →
    AllowsDecision p m 0 d
equal_mode_allows_time_decision p d is can = subst (λ (k : DeviceState). AllowsDecision p k 0 d) (sym is) can

-- If a decision can be performed with a body of `len` bytes, it can be performed on a DNLOAD with wLength `len`.
pub dnload_allows_decision : (p : ProfileRead) (m : DeviceState) (d : Decision) {q : Asked} {block len : ℕ} → q ≡ asked.Dnload block len
    → AllowsDecision p m len d
    → AllowsRequest p m q d
dnload_allows_decision p m d is can = λ body fits.
    subst (λ (n : ℕ). AllowsDecision p m n d) (sym (subst (λ (x : Asked). HasBodyLength x body) is fits)) can

-- In dfuDNLOAD-IDLE all written bytes were put into the spare slot.
pub idle_download_has_put : (n : ℕ) (s : SlotsState) → IsTrue (is_filled (device_state.DownloadIdle n 0) 0 s) → is_put n s ≡ true
idle_download_has_put n s parts_have_mode_bytes = grind (arith, common_steps)
