-- Results of one action of an upload's host, in each phase and with each fate.
use Rattle.std.proofs.Common.{◌≡◌, ℕ, List, refl, sym, ◌∙◌}
use Rattle.dfu_device.specs.Stage.{Profile, Stage, InAppDetach}
use Rattle.dfu_device.specs.Table.{reset_stage}
use Rattle.dfu_device.specs.Outcome.{Situation, Luck, situation_after_ms, after_reset}
use Rattle.dfu_host.specs.Phases.{FetchGoal, Phase, Fetch, LastUploaded, Over, OverUploaded}
use Rattle.dfu_host.specs.Table.{deed, host_row}
use Rattle.dfu_host.specs.Host.{IsLivePhase}
use Rattle.dfu_sim.specs.declared.delivery.Handled.{Handled}
use Rattle.dfu_sim.specs.declared.delivery.Handled.TheVariants.{Late}
use Rattle.dfu_sim.specs.Delivery.{Delivery}
use Rattle.dfu_sim.specs.Opening.{task_for}
use Rattle.dfu_sim.specs.Play.{situation_after_slip, action_result}
use Rattle.dfu_sim.specs.LinkAgreement.{ClosedWasOffered}
use Rattle.dfu_sim.specs.Fact.{FetchFact}
use Rattle.dfu_sim.proofs.Fetch.{fetch_phase_goes_quietly}
use Rattle.dfu_sim.proofs.GoCommon.{GoesQuietly, reset_goes_quietly, common_phase_goes_quietly}

module _ (c : Profile) (offers : List (List ℕ)) where
  -- Time that passes after a reset does not change the image.
  time_after_reset_keeps_image : (image : List ℕ) (stage : Stage) (ms : ℕ) (l : Luck)
      → (situation_after_ms c (record { image = image; stage = reset_stage stage }) ms l).image ≡ image
  time_after_reset_keeps_image image (InAppDetach timer passed) ms l = refl
  time_after_reset_keeps_image image stage ms l = refl

  -- The time of a slip after a reset does not change the image.
  slipped_time_keeps_image : (s : Situation) (how : Handled) (l : Luck) → (situation_after_slip c (after_reset s) how l).image ≡ s.image
  slipped_time_keeps_image s (Late ms) l = time_after_reset_keeps_image s.image s.stage ms l
  slipped_time_keeps_image s how l = refl

  -- If the fact of a live phase of an upload holds, the result of the phase's action is quiet, with any delivery.
  pub upload_phase_goes_quietly : (phase : Phase) (s : Situation) → IsLivePhase phase → FetchFact phase s → ClosedWasOffered offers s.stage
      → (delivery : Delivery) (l k : Luck)
      → GoesQuietly c offers FetchGoal (host_row (task_for c FetchGoal) phase) s
      (action_result c s (deed (task_for c FetchGoal) phase) delivery l k)
  upload_phase_goes_quietly (Fetch n kept) s on h q delivery l k = fetch_phase_goes_quietly c offers n kept s.image s.stage h.0 h.1 q
      delivery l k
  upload_phase_goes_quietly (LastUploaded kept) s on h q delivery l k = reset_goes_quietly c offers FetchGoal (OverUploaded kept)
      (LastUploaded kept) s delivery l
      (h.0 ∙ sym (slipped_time_keeps_image s delivery.handling l))
  upload_phase_goes_quietly (Over report) s on h q delivery l k = elim on [ ]
  upload_phase_goes_quietly (OverUploaded kept) s on h q delivery l k = elim on [ ]
  upload_phase_goes_quietly phase s on h q delivery l k = common_phase_goes_quietly c offers FetchGoal tt phase s h q delivery l k
