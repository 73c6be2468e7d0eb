-- A setup whose body is longer than the transfer size is stalled, by the row of a DNLOAD or of an unknown request.
use Rattle.std.proofs.Common.{◌≡◌, ◌≢◌, ◌⊎◌, ◌<◌, ◌==◌, nat_lt, Bool, true, false, ℕ, List, [], length, inl, inr, ⊎_elim, refl, sym, ap, ◌∙◌, subst, arith, if◌then◌else◌}
use Rattle.std.proofs.lemmas.Bool.{eq-eqb, le-leb, leb-true}
use Rattle.std.proofs.lemmas.Bool.Decides.{eqb_tells}
use Rattle.dfu_wire.specs.declared.setups.Setup.{Setup}
use Rattle.dfu_wire.specs.declared.requests.Request.{Request as Asked}
use Rattle.dfu_wire.specs.declared.requests.Request.TheVariants as asked
use Rattle.dfu_wire.specs.Setup.{IsSetup}
use Rattle.dfu_wire.specs.Request.{EncodesNamedRequest}
use Rattle.dfu_slots.specs.StoreView.{SlotsState, image_of}
use Rattle.dfu_device.specs.declared.answer.Answer.TheVariants as answer
use Rattle.dfu_device.specs.declared.device_state.DeviceState.{DeviceState}
use Rattle.dfu_device.specs.declared.device_state.DeviceState.TheVariants as device_state
use Rattle.dfu_device.specs.Stage.{Stage, Stall, OtherRequest, Dnload}
use Rattle.dfu_device.specs.Table.{Plan, Sure, plan}
use Rattle.dfu_device.specs.Setting.{Setting}
use Rattle.dfu_device.specs.DeviceView.{DeviceView, profile}
use Rattle.dfu_device.specs.Parts.{stage_of, is_filled}
use Rattle.dfu_device.specs.Rows.{Done, Handles, handled_by_reading, body_length}
use Rattle.dfu_asks.specs.AfterLong.{after_long, IsLongerThanBlock}
use Rattle.dfu_asks.proofs.LongPlans.{other_request_plan_is_stall, long_dnload_stalls}

-- The mode after a body that is too long needs no bytes in the store.
pub mode_after_long_needs_no_bytes : (m : DeviceState) (n : ℕ) (x : SlotsState) → is_filled (after_long m) n x ≡ true
mode_after_long_needs_no_bytes device_state.AppIdle n x = refl
mode_after_long_needs_no_bytes (device_state.AppDetach timer passed) n x = refl
mode_after_long_needs_no_bytes device_state.DfuIdle n x = refl
mode_after_long_needs_no_bytes (device_state.DownloadSync written number) n x = refl
mode_after_long_needs_no_bytes (device_state.DownloadSyncWritten written number) n x = refl
mode_after_long_needs_no_bytes (device_state.DownloadBusy written number passed) n x = refl
mode_after_long_needs_no_bytes (device_state.DownloadIdle written number) n x = refl
mode_after_long_needs_no_bytes (device_state.ManifestSync written) n x = refl
mode_after_long_needs_no_bytes device_state.ManifestSyncComplete n x = refl
mode_after_long_needs_no_bytes (device_state.Manifest written passed) n x = refl
mode_after_long_needs_no_bytes device_state.ManifestWaitReset n x = refl
mode_after_long_needs_no_bytes (device_state.UploadIdle place number) n x = refl
mode_after_long_needs_no_bytes (device_state.Error code) n x = refl

-- A class request that sends data and is not DNLOAD is none of the requests that the class defines.
sending_setup_is_not_named : (p : Setup) → p.kind ≡ 0x21 → 0 < p.length → p.request ≢ 1 → (q : Asked) → EncodesNamedRequest p q → ⊥
sending_setup_is_not_named p out some not_one (asked.Detach timeout) named = omega (arith, some, named.1)
sending_setup_is_not_named p out some not_one (asked.Dnload block len) named = not_one named.0.request
sending_setup_is_not_named p out some not_one (asked.Upload block len) named = omega (arith, out, named.0.kind)
sending_setup_is_not_named p out some not_one (asked.GetStatus len) named = omega (arith, out, named.0.kind)
sending_setup_is_not_named p out some not_one asked.ClrStatus named = omega (arith, some, named.1)
sending_setup_is_not_named p out some not_one (asked.GetState len) named = omega (arith, out, named.0.kind)
sending_setup_is_not_named p out some not_one asked.Abort named = omega (arith, some, named.1)
sending_setup_is_not_named p out some not_one asked.OtherClass named = named
sending_setup_is_not_named p out some not_one asked.NotDfu named = named

-- A setup with a data stage from the host has bmRequestType 21h and a wLength greater than 0.
sending_setup_has_kind : (p : Setup) → 0 < body_length p → (p.kind ≡ 0x21) × (0 < p.length)
sending_setup_has_kind p some = sending_setup_kind (eqb_tells p.kind 0x21)
  where
    sending_setup_kind : (((p.kind == 0x21) ≡ true) × (p.kind ≡ 0x21)) ⊎ (((p.kind == 0x21) ≡ false) × (p.kind ≢ 0x21)) → (p.kind ≡ 0x21)
        × (0 < p.length)
    sending_setup_kind (inl (is, out)) = (out, subst (λ (b : Bool). 0 < (if b then p.length else 0)) is some)
    sending_setup_kind (inr (is, other)) = absurd (omega (arith, subst (λ (b : Bool). 0 < (if b then p.length else 0)) is some))

-- If the code finds a setup too long, the setup has a body of more bytes than the transfer size.
pub found_setup_is_long : (c : Setting) (setup : List ℕ) (p : Setup) (b : Bool) → ((x : Setup) → IsSetup x setup → p ≡ x)
    → b ≡ nat_lt (c.functional.transfer) (body_length p) → b ≡ true → (c.functional.transfer < body_length p) × IsLongerThanBlock c setup
found_setup_is_long c setup p b only is found =
    let long : c.functional.transfer < body_length p = omega (arith, leb-true _ (body_length p) (sym is ∙ found)) in
    (long, λ x also. subst (λ (y : Setup). c.functional.transfer < body_length y) (only x also) long)

module _ (setup : List ℕ) (p : Setup) (is : IsSetup p setup) (d : DeviceView) where
  -- A request to another interface is stalled and leaves the device unchanged.
  pub long_body_elsewhere_is_stalled : p.index ≢ 0 → (body : List ℕ) → Handles setup body d answer.Stall [] d
  long_body_elsewhere_is_stalled other body = handled_by_reading p asked.NotDfu is (λ us. other us.1) ((refl, refl), refl)

  -- A request to this interface with a body that is too long leads to the same stage as an unknown request.
  module _ (m : DeviceState) (spare block : List ℕ) (stage_is : d.stage ≡ stage_of m spare block)
      (long : d.config.functional.transfer < body_length p) (index : p.index ≡ 0) (body : List ℕ) (fits : length body ≡ body_length p) where
    -- Device in the mode after a body that is too long.
    abbrev after : DeviceView
    after = record d { stage = stage_of (after_long m) spare block }

    -- A plan that stalls the request and enters the mode `after_long` leads to the device `after`.
    long_plan_stalls : (w : Plan) → w ≡ Sure Stall (stage_of (after_long m) spare block) → (len : ℕ) → Done w len d answer.Stall [] after
    long_plan_stalls w is_w len = subst (λ (x : Plan). Done x len d answer.Stall [] after) (sym is_w) ((refl, refl), refl)

    long_setup_is_served : (length body == body_length p) ≡ true
    long_setup_is_served = eq-eqb (length body) (body_length p) fits

    -- A DNLOAD whose body is too long is stalled.
    named : p.request ≡ 1 → Handles setup body d answer.Stall [] after
    named one = handled_by_reading p (asked.Dnload p.value p.length) is
        (record { kind = (sending_setup_has_kind p (omega (arith, long))).0; request = one; index = index }, refl, refl)
        (long_plan_stalls _ (rw long_setup_is_served (ap (λ (x : Stage). plan (profile d) (image_of d.slots) x (Dnload p.value body))
        stage_is
        ∙ long_dnload_stalls (profile d) (image_of d.slots) m _ _ p.value body
        (le-leb _ _ (omega (arith, long, fits))))) _)

    -- Any other request whose body is too long is stalled.
    unknown_request_is_stalled : p.request ≢ 1 → Handles setup body d answer.Stall [] after
    unknown_request_is_stalled not_one =
        let out = sending_setup_has_kind p (omega (arith, long)) in
        handled_by_reading p asked.OtherClass is ((inl out.0, index), sending_setup_is_not_named p out.0 out.1 not_one)
        (long_plan_stalls _ (rw long_setup_is_served (ap (λ (x : Stage). plan (profile d) (image_of d.slots) x OtherRequest) stage_is
        ∙ other_request_plan_is_stall (profile d) (image_of d.slots) m _ _)) _)

    -- Every request to this interface whose body is too long is stalled.
    pub long_body_is_stalled : Handles setup body d answer.Stall [] after
    long_body_is_stalled = ⊎_elim (λ one. named one.1) (λ not_one. unknown_request_is_stalled not_one.1) (eqb_tells p.request 1)
