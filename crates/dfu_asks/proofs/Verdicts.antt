-- A verdict on a setup is given before its body arrives, and holds for every body and every outcome.
use Rattle.std.proofs.Common.{◌≡◌, ◌↔◌, ◌-◌, ◌*◌, ◌/◌, ◌==◌, Bool, true, false, IsTrue, Some, ℕ, List, length, refl, sym, ap, ◌∙◌, subst}
use Rattle.std.proofs.lemmas.Bool.{eq-eqb, true≢false}
use Rattle.dfu_wire.specs.declared.setups.Setup.{Setup}
use Rattle.dfu_wire.specs.declared.requests.Request.{Request as Asked}
use Rattle.dfu_wire.specs.declared.requests.Request.TheVariants as asked
use Rattle.dfu_wire.specs.Setup.{IsSetup}
use Rattle.dfu_wire.specs.Request.{SetupAsksFor}
use Rattle.dfu_slots.specs.Units.{Grain, gate_room}
use Rattle.dfu_slots.specs.StoreView.{image_of, spare_of, room_of}
use Rattle.dfu_device.specs.declared.answer.Answer.{Answer}
use Rattle.dfu_device.specs.declared.answer.Answer.TheVariants as answer
use Rattle.dfu_device.specs.declared.device_state.DeviceState.{DeviceState}
use Rattle.dfu_device.specs.Decision.{HasWrittenBytes, HasBodyLength}
use Rattle.dfu_device.specs.Stage.{Profile, OtherRequest}
use Rattle.dfu_device.specs.Table.{Plan, plan}
use Rattle.dfu_device.specs.Setting.{Setting}
use Rattle.dfu_device.specs.DeviceView.{DeviceView, profile, profile_of}
use Rattle.dfu_device.specs.Parts.{stage_of, are_device_parts}
use Rattle.dfu_device.specs.Rows.{Done, handled_by_reading, request_for_table, asked_length, body_length, setup_plan}
use Rattle.dfu_device.proofs.BodyLengths.{body_length_fits_request}
use Rattle.dfu_device.proofs.PlanRows.{spare_holds_written}
use Rattle.dfu_asks.specs.Lent.{LentDevice}
use Rattle.dfu_asks.specs.Asks.{grain_in, flash_store, device_in}
use Rattle.dfu_asks.specs.InMode.{IsDeviceIn}
use Rattle.dfu_asks.specs.Verdict.{stall_verdict, IsStallVerdict}
use Rattle.dfu_asks.proofs.StallPlans.{stalling_plan_stalls, other_plan_does_not_stall}
use Rattle.dfu_asks.proofs.LongPlans.{other_request_plan_is_stall}

-- For a body of the right length, the verdict on a setup's plan is the verdict on its request's plan.
pub setup_verdict_is_request_verdict : (d : DeviceView) (m : DeviceState) (spare unwritten : List ℕ) (p : Setup) (q : Asked) (body : List ℕ)
    → d.stage ≡ stage_of m spare unwritten
    → (length body == body_length p) ≡ true
    → stall_verdict (setup_plan d p q body) ≡ stall_verdict (plan (profile d) (image_of d.slots) d.stage (request_for_table q body))
setup_verdict_is_request_verdict d m spare unwritten p (asked.Detach timeout) body stage_is fits = rw fits refl
setup_verdict_is_request_verdict d m spare unwritten p (asked.Dnload block len) body stage_is fits = rw fits refl
setup_verdict_is_request_verdict d m spare unwritten p (asked.Upload block len) body stage_is fits = rw fits refl
setup_verdict_is_request_verdict d m spare unwritten p (asked.GetStatus len) body stage_is fits = rw fits refl
setup_verdict_is_request_verdict d m spare unwritten p asked.ClrStatus body stage_is fits = rw fits refl
setup_verdict_is_request_verdict d m spare unwritten p (asked.GetState len) body stage_is fits = rw fits refl
setup_verdict_is_request_verdict d m spare unwritten p asked.Abort body stage_is fits = rw fits refl
setup_verdict_is_request_verdict d m spare unwritten p asked.OtherClass body stage_is fits = rw fits refl
setup_verdict_is_request_verdict d m spare unwritten p asked.NotDfu body stage_is fits =
    sym (ap (λ s. stall_verdict (plan (profile d) (image_of d.slots) s OtherRequest)) stage_is
    ∙ ap stall_verdict (other_request_plan_is_stall (profile d) (image_of d.slots) m spare unwritten))

-- A verdict on the request of a setup is a verdict on the setup.
module _ (setup : List ℕ) (p : Setup) (q : Asked) (b : Bool) (the_setup : (x : Setup) → IsSetup x setup → p ≡ x)
    (the_request : (x : Asked) → SetupAsksFor p x → q ≡ x) where
  -- A verdict on a plan is true exactly if the executed plan answers with a stall.
  stall_verdict_holds_of_answer : (d : DeviceView) (w : Plan) (len : ℕ) (x : Answer) (sent : List ℕ) (d' : DeviceView) →
      Done w len d x sent d' → (e : Bool)
      → b ≡ e → Some b ≡ stall_verdict w → IsTrue b ↔ (x ≡ answer.Stall)
  stall_verdict_holds_of_answer d w len x sent d' done true e is = (
    λ yes. stalling_plan_stalls len d x sent d' w done (sym is ∙ ap Some e),
    λ stall. e,
  )
  stall_verdict_holds_of_answer d w len x sent d' done false e is = (
    λ yes. absurd (true≢false (sym yes ∙ e)),
    λ stall. absurd (other_plan_does_not_stall len d x sent d' w done (sym is ∙ ap Some e) stall),
  )

  -- A verdict on the plans of a setup with every body of the right length is a verdict on the setup.
  pub plan_verdict_is_setup_verdict : (d : DeviceView)
      → ((body : List ℕ) → length body ≡ body_length p → SetupAsksFor p q → Some b ≡ stall_verdict (setup_plan d p q body))
      → IsStallVerdict b setup d
  plan_verdict_is_setup_verdict d said body body_is x sent d' (handled_by_reading y z is asks done) =
      let p_is : p ≡ y = the_setup y is in
      let asks_p : SetupAsksFor p z = subst (λ k. SetupAsksFor k z) (sym p_is) asks in
      let q_is : q ≡ z = the_request z asks_p in
      let fits : length body ≡ body_length p = body_is y is ∙ sym (ap body_length p_is) in
      stall_verdict_holds_of_answer d (setup_plan d p q body) (asked_length q) x sent d'
      (subst (λ k. Done (setup_plan d p k body) (asked_length k) d x sent d') (sym q_is)
      (subst (λ k. Done (setup_plan d k z body) (asked_length z) d x sent d') (sym p_is) done)) b refl
      (said body fits (subst (λ k. SetupAsksFor p k) (sym q_is) asks_p))

-- The room of a store on this flash is half the flash, less a gate and a header.
room_in : (a : LentDevice) (flash : List ℕ) → room_of (flash_store a flash) ≡ length flash / 2 - 2 * gate_room (grain_in a)
unfolding room_of
room_in a flash = refl

-- A verdict for a profile and a mode holds for every device with that setting, in that mode, on flash of that size.
module _ (config : Setting) (grain : Grain) (size : ℕ) (c : Profile) (profile_is : c ≡ profile_of config (size / 2 - 2 * gate_room grain))
    (setup : List ℕ) (p : Setup) (q : Asked) (m : DeviceState) (b : Bool) (the_setup : (x : Setup) → IsSetup x setup → p ≡ x)
    (the_request : (x : Asked) → SetupAsksFor p x → q ≡ x)
    (said : (image spare unwritten body : List ℕ) → HasWrittenBytes m spare → HasBodyLength q body
    → Some b ≡ stall_verdict (plan c image (stage_of m spare unwritten) (request_for_table q body))) where
  -- A verdict for each plan of a request is a verdict on the setup, for every device with that setting, in that mode, on flash of that
  -- size.
  pub stall_verdict_in_mode : (a : LentDevice) (flash : List ℕ) → IsDeviceIn config m a flash → grain_in a ≡ grain → length flash ≡ size
      → IsStallVerdict b setup (device_in a flash)
  stall_verdict_in_mode a flash in_mode grain_is size_is =
      let store = flash_store a flash in
      let d = device_in a flash in
      let stage_is : d.stage ≡ stage_of m (spare_of store) a.block = λ i. stage_of (in_mode.mode_is i) (spare_of store) a.block in
      let room : room_of store ≡ size / 2 - 2 * gate_room grain = room_in a flash
      ∙ (λ i. size_is i / 2 - 2 * gate_room (grain_is i)) in
      let same : c ≡ profile d = profile_is ∙ (λ i. profile_of (sym in_mode.config_is i) (sym room i)) in
      let holds : HasWrittenBytes m (spare_of store) = spare_holds_written m (length a.block) store
      (subst (λ x. IsTrue (are_device_parts x (length a.block) store)) in_mode.mode_is in_mode.device.sound) in
      plan_verdict_is_setup_verdict setup p q b the_setup the_request d (λ body fits asks.
      subst (λ (x : Profile). Some b ≡ stall_verdict
      (plan x (image_of d.slots) (stage_of m (spare_of store) a.block) (request_for_table q body))) same
      (said (image_of d.slots) (spare_of store) a.block body holds (body_length_fits_request p q body asks fits))
      ∙ ap (λ x. stall_verdict (plan (profile d) (image_of d.slots) x (request_for_table q body))) (sym stage_is)
      ∙ sym (setup_verdict_is_request_verdict d m (spare_of store) a.block p q body stage_is (eq-eqb (length body) (body_length p) fits)))
