-- The state of a device changes exactly when the time of its mode has elapsed.
use Rattle.std.proofs.Common.{◌≡◌, ◌≢◌, ◌+◌, ◌-◌, ◌<◌, ◌≤◌, ◌==◌, ◌++◌, max, length, take, nat_le, Bool, true, false, ℕ, List, [], inl, inr, refl, sym, ap, subst, ◌∙◌, arith, if◌then◌else◌}
use Rattle.std.proofs.lemmas.Bool.{eqb-true, eqb-false, leb-true, leb-false}
use Rattle.dfu_device.specs.declared.answer.Answer.TheVariants as answer
use Rattle.dfu_device.specs.declared.device_state.DeviceState.{DeviceState}
use Rattle.dfu_device.specs.declared.device_state.DeviceState.TheVariants as device_state
use Rattle.dfu_device.specs.Stage.{Stage, Ack, InAppIdle, InAppDetach, InDfuIdle, InDownloadSyncWritten, InDownloadBusy, InManifestSyncComplete, InManifest, InManifestWaitReset, state_of}
use Rattle.dfu_device.specs.Table.{Plan, Writes, Commits, ack_plan, time_plan}
use Rattle.dfu_device.specs.DeviceView.{DeviceView, profile}
use Rattle.dfu_device.specs.Parts.{stage_of}
use Rattle.dfu_device.specs.Pace.{block_ms, image_ms}
use Rattle.dfu_device.specs.Decision.{HasTimeInputs}
use Rattle.dfu_device.specs.Rows.{Done}
use Rattle.dfu_asks.specs.Times.{due_of, ChangesOnceDue}

-- A time other than 0 is at least one millisecond.
time_is_at_least_1 : (ms : ℕ) → (ms == 0) ≡ false → 1 ≤ ms
time_is_at_least_1 ms some = grind (arith, eqb-false ms 0 some)

module _ (ms : ℕ) (d d' : DeviceView) where
  -- The executed plan answers with an acknowledgement, and leads from the device d to d'.
  abbrev pub PlanLedToDevice : Plan → Type 0
  PlanLedToDevice p = Done p 0 d answer.Ack [] d'

  -- A device that stays unchanged satisfies `ChangesOnceDue` if no change was due.
  unchanged_device_fits : (due : ℕ) → d' ≡ d → (0 < due → due ≤ ms → ⊥) → ChangesOnceDue due ms d d'
  unchanged_device_fits due is never = record {
    none = λ _. is;
    before = λ _. ap (λ (w : DeviceView). state_of w.stage) is;
    from = λ some past. absurd (never some past);
  }

  -- A device whose state stays the same satisfies `ChangesOnceDue` before a change is due.
  unchanged_state_before_due : (due : ℕ) → ms < due → state_of d'.stage ≡ state_of d.stage → ChangesOnceDue due ms d d'
  unchanged_state_before_due due soon is = record {
    none = λ none. absurd (omega (arith, none, soon));
    before = λ _. is;
    from = λ some past. absurd (omega (arith, past, soon));
  }

  -- A device whose state changes satisfies `ChangesOnceDue` once a change is due.
  changed : (due : ℕ) → 0 < due → due ≤ ms → state_of d'.stage ≢ state_of d.stage → ChangesOnceDue due ms d d'
  changed due some past is = record {
    none = λ none. absurd (omega (arith, none, some));
    before = λ soon. absurd (omega (arith, past, soon));
    from = λ _ _. is;
  }

  -- A device that enters a stage of another state changes its state.
  other_stage_changes_state : (old new : Stage) → d.stage ≡ old → d'.stage ≡ new → state_of new ≢ state_of old →
      state_of d'.stage ≢ state_of d.stage
  other_stage_changes_state old new is is' differ = λ e. differ (sym (ap state_of is') ∙ e ∙ ap state_of is)

  -- A plan that acknowledges and keeps the stage leaves the device unchanged.
  ack_plan_keeps_device : (stage : Stage) → d.stage ≡ stage → PlanLedToDevice (ack_plan stage) → d' ≡ d
  ack_plan_keeps_device stage is done = done.1 ∙ (λ i. record d { stage = sym is i })

  -- In appDETACH, elapsed time changes the state exactly when a change is due.
  app_detach_changes_when_due : (timer passed : ℕ) → d.stage ≡ InAppDetach timer passed → (z w o : Bool) → (ms == 0) ≡ z
      → nat_le (max 1 timer) (passed + ms) ≡ o
      → PlanLedToDevice (if z then ack_plan (InAppDetach timer passed) else if w then ack_plan InDfuIdle else if o then ack_plan InAppIdle
      else ack_plan (InAppDetach timer (passed + ms)))
      → ChangesOnceDue (if w then 1 else max 1 (timer - passed)) ms d d'
  app_detach_changes_when_due timer passed is true true o zero over done =
      unchanged_device_fits 1 (ack_plan_keeps_device (InAppDetach timer passed) is done) (λ some past. omega (
        arith,
        eqb-true ms 0 zero,
        past,
      ))
  app_detach_changes_when_due timer passed is true false o zero over done =
      unchanged_device_fits (max 1 (timer - passed)) (ack_plan_keeps_device (InAppDetach timer passed) is done) (λ some past. omega
      (arith, eqb-true ms 0 zero, past))
  app_detach_changes_when_due timer passed is false true o zero over done =
      changed 1 (omega arith) (omega (arith, time_is_at_least_1 ms zero))
      (other_stage_changes_state (InAppDetach timer passed) InDfuIdle is (ap (λ (w : DeviceView). w.stage) done.1) (λ e. cc))
  app_detach_changes_when_due timer passed is false false true zero over done =
      changed (max 1 (timer - passed)) (omega arith) (omega (arith, time_is_at_least_1 ms zero, leb-true (max 1 timer) (passed + ms) over))
      (other_stage_changes_state (InAppDetach timer passed) InAppIdle is (ap (λ (w : DeviceView). w.stage) done.1) (λ e. cc))
  app_detach_changes_when_due timer passed is false false false zero over done =
      unchanged_state_before_due (max 1 (timer - passed)) (omega (
        arith,
        time_is_at_least_1 ms zero,
        leb-false (max 1 timer) (passed + ms)
            over,
      ))
      (ap (λ (w : DeviceView). state_of w.stage) done.1 ∙ sym (ap state_of is))

  -- In dfuDNBUSY, elapsed time changes the state exactly when a change is due.
  dnbusy_changes_when_due : (limit : ℕ) (before block : List ℕ) (number passed : ℕ) → d.stage ≡ InDownloadBusy before block number passed
      → (z o : Bool) → (ms == 0) ≡ z → nat_le limit (passed + ms) ≡ o
      → PlanLedToDevice (if z then ack_plan (InDownloadBusy before block number passed)
      else if o then Writes before block Ack (InDownloadSyncWritten (before ++ block) number) (λ fault. Ack)
      else ack_plan (InDownloadBusy before block number (passed + ms)))
      → ChangesOnceDue (max 1 (limit - passed)) ms d d'
  dnbusy_changes_when_due limit before block number passed is true o zero over done =
      unchanged_device_fits (max 1 (limit - passed)) (ack_plan_keeps_device (InDownloadBusy before block number passed) is done)
      (λ some past. omega (arith, eqb-true ms 0 zero, past))
  dnbusy_changes_when_due limit before block number passed is false true zero over (inl (says, done)) =
      changed (max 1 (limit - passed)) (omega arith) (omega (arith, time_is_at_least_1 ms zero, leb-true limit (passed + ms) over))
      (other_stage_changes_state (InDownloadBusy before block number passed) _ is done.stage_is (λ e. cc))
  dnbusy_changes_when_due limit before block number passed is false true zero over (inr (fault, says, done)) =
      changed (max 1 (limit - passed)) (omega arith) (omega (arith, time_is_at_least_1 ms zero, leb-true limit (passed + ms) over))
      (other_stage_changes_state (InDownloadBusy before block number passed) _ is done.stage_is (λ e. cc))
  dnbusy_changes_when_due limit before block number passed is false false zero over done =
      unchanged_state_before_due (max 1 (limit - passed)) (omega (arith, time_is_at_least_1 ms zero, leb-false limit (passed + ms) over))
      (ap (λ (w : DeviceView). state_of w.stage) done.1 ∙ sym (ap state_of is))

  -- In dfuMANIFEST, elapsed time changes the state exactly when a change is due.
  manifest_changes_when_due : (limit : ℕ) (taken : List ℕ) (passed : ℕ) → d.stage ≡ InManifest taken passed
      → (z o t : Bool) → (ms == 0) ≡ z → nat_le limit (passed + ms) ≡ o
      → PlanLedToDevice (if z then ack_plan (InManifest taken passed)
      else if o then Commits taken Ack (if t then InManifestSyncComplete else InManifestWaitReset) (λ fault. Ack)
      else ack_plan (InManifest taken (passed + ms)))
      → ChangesOnceDue (max 1 (limit - passed)) ms d d'
  manifest_changes_when_due limit taken passed is true o t zero over done =
      unchanged_device_fits (max 1 (limit - passed)) (ack_plan_keeps_device (InManifest taken passed) is done) (λ some past. omega (
        arith,
        eqb-true ms 0 zero,
        past,
      ))
  manifest_changes_when_due limit taken passed is false true true zero over (inl (says, done)) =
      changed (max 1 (limit - passed)) (omega arith) (omega (arith, time_is_at_least_1 ms zero, leb-true limit (passed + ms) over))
      (other_stage_changes_state (InManifest taken passed) InManifestSyncComplete is done.stage_is (λ e. cc))
  manifest_changes_when_due limit taken passed is false true false zero over (inl (says, done)) =
      changed (max 1 (limit - passed)) (omega arith) (omega (arith, time_is_at_least_1 ms zero, leb-true limit (passed + ms) over))
      (other_stage_changes_state (InManifest taken passed) InManifestWaitReset is done.stage_is (λ e. cc))
  manifest_changes_when_due limit taken passed is false true t zero over (inr (fault, says, done)) =
      changed (max 1 (limit - passed)) (omega arith) (omega (arith, time_is_at_least_1 ms zero, leb-true limit (passed + ms) over))
      (other_stage_changes_state (InManifest taken passed) _ is done.stage_is (λ e. cc))
  manifest_changes_when_due limit taken passed is false false t zero over done =
      unchanged_state_before_due (max 1 (limit - passed)) (omega (arith, time_is_at_least_1 ms zero, leb-false limit (passed + ms) over))
      (ap (λ (w : DeviceView). state_of w.stage) done.1 ∙ sym (ap state_of is))

  -- In every mode, elapsed time changes the state exactly when a change is due.
  pub each_mode_changes_when_due : (m : DeviceState) (n : ℕ) (spare block : List ℕ) → HasTimeInputs m n spare block → d.stage
      ≡ stage_of m spare block
      → PlanLedToDevice (time_plan (profile d) (stage_of m spare block) ms) → ChangesOnceDue (due_of d.config m n) ms d d'
  each_mode_changes_when_due (device_state.AppDetach timer passed) n spare block holds is done =
      app_detach_changes_when_due timer passed is (ms == 0) d.config.functional.will_detach
      (nat_le (max 1 timer) (passed + ms)) refl refl done
  each_mode_changes_when_due (device_state.DownloadBusy written number passed) n spare block holds is done =
      let c = d.config in
      let limit = block_ms c.pace c.busy_ms (length (take written spare)) (length block) in
      subst (λ (k : ℕ). ChangesOnceDue (max 1 (k - passed)) ms d d') (λ i. block_ms c.pace c.busy_ms (holds.0 i) (holds.1 i))
      (dnbusy_changes_when_due limit _ block number passed is (ms == 0) (nat_le limit (passed + ms)) refl refl done)
  each_mode_changes_when_due (device_state.Manifest written passed) n spare block holds is done =
      let c = d.config in
      let limit = image_ms c.pace c.manifest_ms (length (take written spare)) in
      subst (λ (k : ℕ). ChangesOnceDue (max 1 (k - passed)) ms d d') (λ i. image_ms c.pace c.manifest_ms (holds i))
      (manifest_changes_when_due limit _ passed is (ms == 0) (nat_le limit (passed + ms)) c.functional.tolerant refl refl done)
  each_mode_changes_when_due device_state.AppIdle n spare block holds is done =
      unchanged_device_fits 0 (ack_plan_keeps_device _ is done) (λ some
      past. omega (arith, some))
  each_mode_changes_when_due device_state.DfuIdle n spare block holds is done =
      unchanged_device_fits 0 (ack_plan_keeps_device _ is done) (λ some
      past. omega (arith, some))
  each_mode_changes_when_due (device_state.DownloadSync written number) n spare block holds is done = unchanged_device_fits 0
      (ack_plan_keeps_device _ is done) (λ some past. omega (arith, some))
  each_mode_changes_when_due (device_state.DownloadSyncWritten written number) n spare block holds is done =
      unchanged_device_fits 0 (ack_plan_keeps_device _ is done) (λ some past. omega (arith, some))
  each_mode_changes_when_due (device_state.DownloadIdle written number) n spare block holds is done = unchanged_device_fits 0
      (ack_plan_keeps_device _ is done) (λ some past. omega (arith, some))
  each_mode_changes_when_due (device_state.ManifestSync written) n spare block holds is done =
      unchanged_device_fits 0 (ack_plan_keeps_device _ is
      done) (λ some past. omega (arith, some))
  each_mode_changes_when_due device_state.ManifestSyncComplete n spare block holds is done =
      unchanged_device_fits 0 (ack_plan_keeps_device _ is
      done) (λ some past. omega (arith, some))
  each_mode_changes_when_due device_state.ManifestWaitReset n spare block holds is done =
      unchanged_device_fits 0 (ack_plan_keeps_device _ is
      done) (λ some past. omega (arith, some))
  each_mode_changes_when_due (device_state.UploadIdle place number) n spare block holds is done =
      unchanged_device_fits 0 (ack_plan_keeps_device _
      is done) (λ some past. omega (arith, some))
  each_mode_changes_when_due (device_state.Error code) n spare block holds is done =
      unchanged_device_fits 0 (ack_plan_keeps_device _ is done) (λ
      some past. omega (arith, some))
