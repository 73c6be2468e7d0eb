-- The device fits the phase of the session after each row of the table.
use Rattle.std.proofs.Common.{◌≡◌, ℕ, Bool, true, false}
use Rattle.dfu_wire.specs.declared.codes.Code.{Code}
use Rattle.dfu_wire.specs.declared.codes.Code.TheVariants as code
use Rattle.dfu_wire.specs.declared.states.State.{State}
use Rattle.dfu_wire.specs.declared.states.State.TheVariants as state
use Rattle.dfuse_host.specs.declared.plan.Plan.{Plan}
use Rattle.dfuse_host.specs.declared.work.Work.{Work}
use Rattle.dfuse_host.specs.declared.work.Work.TheVariants as work
use Rattle.dfuse_host.specs.declared.place.Place.{Place}
use Rattle.dfuse_host.specs.declared.place.Place.TheVariants as place
use Rattle.dfuse_host.specs.Commands.{command_of}
use Rattle.dfuse_host.specs.Table.{state_found, phase_after_comparing_fault, phase_after_fault, status_found, on_abort, on_ask_state, on_ask_status, on_clear_wait, on_send, probed, on_probe, phase_if_refused, phase_after_poll, on_poll, on_poll_wait, place_with_reading_begun, place_with_reading_ended, on_begin_reading, on_end_reading, read_on, on_read, on_close, close_probed, on_close_probe, close_polled, on_close_poll}
use Rattle.dfuse_host.proofs.ForCallers.{AnyHeard, heard_comparison, heards_have_fact}
use Rattle.dfuse_link.specs.Chips.{Chip, Device, state_in}
use Rattle.dfuse_link.proofs.Claims.{IsQuiet, KnowsPointer, MayHaveCommand, HasCommand, CanReadWork, DeviceFitsPhase, HeardSaysState}
use Rattle.dfuse_link.proofs.SentClaims.{AckMeansHasCommand}
use Rattle.dfuse_link.proofs.RequestEffects.{idle_work_is_quiet, idle_status_means_done, sync_state_has_command}
use Rattle.dfuse_link.proofs.SettlingClaims.{device_fits_settled_phase, device_fits_after_command, device_fits_unsure_phase}

begun_reading_knows_pointer : (p : Place) (pointer : ℕ) → KnowsPointer p pointer → KnowsPointer (place_with_reading_begun p) pointer
begun_reading_knows_pointer (place.At p) pointer k = k
begun_reading_knows_pointer p pointer k = k

ended_reading_knows_pointer : (p : Place) (pointer : ℕ) → KnowsPointer p pointer → KnowsPointer (place_with_reading_ended p) pointer
ended_reading_knows_pointer (place.Reading p) pointer k = k
ended_reading_knows_pointer p pointer k = k

module _ (chip : Chip) (plan : Plan) (w : Work) (p : Place) (d : Device) where
  pub device_fits_after_abort : (h : AnyHeard) → DeviceFitsPhase chip plan (on_abort w h) d
  device_fits_after_abort h = heards_have_fact (λ x. DeviceFitsPhase chip plan (on_abort w x) d) tt (λ s. tt) (λ s. tt) (λ b. tt) tt tt
      tt tt h

  device_fits_found_state : (t : State) → state_in d.device_work ≡ t → DeviceFitsPhase chip plan (state_found plan w t) d
  device_fits_found_state state.DfuIdle e = device_fits_settled_phase chip plan d (idle_work_is_quiet d.device_work e) w place.Lost tt
  device_fits_found_state state.AppIdle e = tt
  device_fits_found_state state.AppDetach e = tt
  device_fits_found_state t e = tt

  pub device_fits_after_ask_state : (h : AnyHeard) → HeardSaysState h (state_in d.device_work) →
      DeviceFitsPhase chip plan (on_ask_state plan w h) d
  device_fits_after_ask_state h =
      heards_have_fact (λ x. HeardSaysState x (state_in d.device_work) → DeviceFitsPhase chip plan (on_ask_state plan w x) d)
      (λ f. tt) (λ s f. tt) (λ s f. device_fits_found_state s f) (λ b f. tt) (λ f. tt) (λ f. tt) (λ f. tt) (λ f. tt) h

  device_fits_ended_comparison : (v : Work) (c : Code) → DeviceFitsPhase chip plan (phase_after_comparing_fault v c) d
  device_fits_ended_comparison v code.StalledPkt = tt
  device_fits_ended_comparison v c = tt

  device_fits_found_fault : (v : Work) (c : Code) → DeviceFitsPhase chip plan (phase_after_fault v c) d
  device_fits_found_fault (work.Erase at) c = tt
  device_fits_found_fault v code.Vendor = tt
  device_fits_found_fault (work.Compare at) c = device_fits_ended_comparison (work.Compare at) c
  device_fits_found_fault (work.CompareFront at) c = device_fits_ended_comparison (work.CompareFront at) c
  device_fits_found_fault v c = tt

  device_fits_found_status : (c : Code) (poll : ℕ) (t : State) → DeviceFitsPhase chip plan (status_found w c poll t) d
  device_fits_found_status c poll state.Error = device_fits_found_fault w c
  device_fits_found_status c poll t = tt

  pub device_fits_after_ask_status : (h : AnyHeard) → DeviceFitsPhase chip plan (on_ask_status w h) d
  device_fits_after_ask_status h =
      heards_have_fact (λ x. DeviceFitsPhase chip plan (on_ask_status w x) d) tt (λ s. device_fits_found_status s.code s.poll_ms s.state)
      (λ s. tt) (λ b. tt) tt tt tt
      tt h

  pub device_fits_after_clear_wait : (ms : ℕ) (h : AnyHeard) → DeviceFitsPhase chip plan (on_clear_wait w ms h) d
  device_fits_after_clear_wait ms h = heards_have_fact (λ x. DeviceFitsPhase chip plan (on_clear_wait w ms x) d) tt (λ s. tt) (λ s. tt)
      (λ b. tt) tt tt tt tt h

  pub device_fits_after_send : (h : AnyHeard) → AckMeansHasCommand chip (command_of plan w p) d h →
      MayHaveCommand (command_of plan w p) d.device_work × KnowsPointer p d.pointer →
      DeviceFitsPhase chip plan (on_send w p h) d
  device_fits_after_send h f k =
      heards_have_fact (λ x. AckMeansHasCommand chip (command_of plan w p) d x → DeviceFitsPhase chip plan (on_send w p x) d)
      (λ f. f) (λ s f. k) (λ s f. k) (λ b f. k) (λ f. k) (λ f. k) (λ f. k) (λ f. k) h f

  device_fits_probed_state : (t : State) → state_in d.device_work ≡ t → MayHaveCommand (command_of plan w p) d.device_work
      × KnowsPointer p d.pointer →
      DeviceFitsPhase chip plan (probed plan w p t) d
  device_fits_probed_state state.DownloadSync e k = sync_state_has_command chip (command_of plan w p) p d.device_work d.pointer d.memory e
      k.0
  device_fits_probed_state state.DfuIdle e k = k
  device_fits_probed_state state.DownloadIdle e k = k
  device_fits_probed_state state.Error e k = tt
  device_fits_probed_state t e k = device_fits_unsure_phase chip plan d w (command_of plan w p)

  pub device_fits_after_probe : (h : AnyHeard) → HeardSaysState h (state_in d.device_work) →
      MayHaveCommand (command_of plan w p) d.device_work × KnowsPointer p d.pointer →
      DeviceFitsPhase chip plan (on_probe plan w p h) d
  device_fits_after_probe h f k =
      heards_have_fact (λ x. HeardSaysState x (state_in d.device_work) →
      DeviceFitsPhase chip plan (on_probe plan w p x) d) (λ f. k) (λ s f. k)
      (λ s f. device_fits_probed_state s f k)
      (λ b f. k)
      (λ f. device_fits_unsure_phase chip plan d w (command_of plan w p)) (λ f. k) (λ f. k) (λ f. k) h f

  device_fits_after_refusal : (c : Code) → DeviceFitsPhase chip plan (phase_if_refused plan w p c) d
  device_fits_after_refusal code.StalledPkt = device_fits_unsure_phase chip plan d w (command_of plan w p)
  device_fits_after_refusal code.Vendor = tt
  device_fits_after_refusal c = tt

  device_fits_polled_status : (c : Code) (poll : ℕ) (t : State) → state_in d.device_work ≡ t →
      HasCommand chip (command_of plan w p) d.device_work d.pointer d.memory →
      DeviceFitsPhase chip plan (phase_after_poll plan w p c poll t) d
  device_fits_polled_status c poll state.DownloadSync e k = k
  device_fits_polled_status c poll state.DownloadBusy e k = k
  device_fits_polled_status c poll state.DownloadIdle e k =
      let told = idle_status_means_done chip (command_of plan w p) p d.device_work d.pointer d.memory e k in
      device_fits_after_command chip plan d told.0 w (command_of plan w p) told.1
  device_fits_polled_status c poll state.Error e k = device_fits_after_refusal c
  device_fits_polled_status c poll t e k = device_fits_unsure_phase chip plan d w (command_of plan w p)

  pub device_fits_after_poll : (last : ℕ) (h : AnyHeard) → HeardSaysState h (state_in d.device_work) →
      HasCommand chip (command_of plan w p) d.device_work d.pointer d.memory →
      DeviceFitsPhase chip plan (on_poll plan w p last h) d
  device_fits_after_poll last h f k =
      heards_have_fact (λ x. HeardSaysState x (state_in d.device_work) → DeviceFitsPhase chip plan (on_poll plan w p last x) d) (λ f. k)
      (λ s f. device_fits_polled_status s.code s.poll_ms s.state f k) (λ s f. k) (λ b f. k) (λ f. k) (λ f. k) (λ f. k) (λ f. k) h f

  pub device_fits_after_poll_wait : (ms : ℕ) (h : AnyHeard) → HasCommand chip (command_of plan w p) d.device_work d.pointer d.memory →
      DeviceFitsPhase chip plan (on_poll_wait w p ms h) d
  device_fits_after_poll_wait ms h k = heards_have_fact (λ x. DeviceFitsPhase chip plan (on_poll_wait w p ms x) d) k (λ s. k) (λ s. k) (λ
      b. k) k k k k h

  pub device_fits_begun_reading : (h : AnyHeard) → IsQuiet d.device_work × KnowsPointer p d.pointer →
      DeviceFitsPhase chip plan (on_begin_reading plan w p h) d
  device_fits_begun_reading h k =
      heards_have_fact (λ x. DeviceFitsPhase chip plan (on_begin_reading plan w p x) d)
      (device_fits_settled_phase chip plan d k.0 w (place_with_reading_begun p) (begun_reading_knows_pointer p d.pointer k.1))
      (λ s. k) (λ s. k) (λ b. k)
      tt k k k h

  pub device_fits_ended_reading : (h : AnyHeard) → IsQuiet d.device_work × KnowsPointer p d.pointer →
      DeviceFitsPhase chip plan (on_end_reading plan w p h) d
  device_fits_ended_reading h k =
      heards_have_fact (λ x. DeviceFitsPhase chip plan (on_end_reading plan w p x) d)
      (device_fits_settled_phase chip plan d k.0 w (place_with_reading_ended p) (ended_reading_knows_pointer p d.pointer k.1)) (λ s. k)
      (λ s. k) (λ b. k)
      tt k k k h

  device_fits_after_comparison : (b : Bool) → IsQuiet d.device_work × KnowsPointer p d.pointer × CanReadWork plan w p →
      DeviceFitsPhase chip plan (on_read plan w p (heard_comparison b)) d
  device_fits_after_comparison true k = device_fits_settled_phase chip plan d k.0 (read_on plan w) p k.1
  device_fits_after_comparison false k = tt

  pub device_fits_after_read : (h : AnyHeard) → IsQuiet d.device_work × KnowsPointer p d.pointer × CanReadWork plan w p →
      DeviceFitsPhase chip plan (on_read plan w p h) d
  device_fits_after_read h k =
      heards_have_fact (λ x. DeviceFitsPhase chip plan (on_read plan w p x) d) k (λ s. k) (λ s. k)
      (λ b. device_fits_after_comparison b k)
      tt k k k h

  pub device_fits_after_close : (h : AnyHeard) → DeviceFitsPhase chip plan (on_close w p h) d
  device_fits_after_close h = heards_have_fact (λ x. DeviceFitsPhase chip plan (on_close w p x) d) tt (λ s. tt) (λ s. tt) (λ b. tt) tt tt
      tt tt h

  device_fits_close_probed : (t : State) → DeviceFitsPhase chip plan (close_probed w p t) d
  device_fits_close_probed state.DfuIdle = tt
  device_fits_close_probed state.DownloadIdle = tt
  device_fits_close_probed state.Error = tt
  device_fits_close_probed t = tt

  pub device_fits_after_close_probe : (h : AnyHeard) → DeviceFitsPhase chip plan (on_close_probe w p h) d
  device_fits_after_close_probe h =
      heards_have_fact (λ x. DeviceFitsPhase chip plan (on_close_probe w p x) d) tt (λ s. tt) (λ s. device_fits_close_probed s) (λ b. tt)
      tt tt tt tt h

  device_fits_close_polled : (c : Code) (t : State) → DeviceFitsPhase chip plan (close_polled w p c t) d
  device_fits_close_polled c state.DfuIdle = tt
  device_fits_close_polled c state.DownloadIdle = tt
  device_fits_close_polled c state.Error = tt
  device_fits_close_polled code.Ok state.Manifest = tt
  device_fits_close_polled code.Ok state.ManifestWaitReset = tt
  device_fits_close_polled c t = tt

  pub device_fits_after_close_poll : (h : AnyHeard) → DeviceFitsPhase chip plan (on_close_poll w p h) d
  device_fits_after_close_poll h = heards_have_fact (λ x. DeviceFitsPhase chip plan (on_close_poll w p x) d) tt (λ s.
      device_fits_close_polled s.code s.state) (λ s. tt)
      (λ b. tt) tt tt tt tt h
