-- The fact of the phase that follows each row of a download.
use Rattle.std.proofs.Common.{◌≡◌, ℕ, zero, suc, ◌<◌, ◌==◌, Bool, true, false, IsTrue, List, length, refl, ap, ◌∙◌, arith}
use Rattle.std.proofs.lemmas.Bool.Decides.{nat_tests}
use Rattle.dfu_wire.specs.declared.codes.Code.{Code}
use Rattle.dfu_wire.specs.declared.codes.Code.TheVariants.{Ok as NoFault}
use Rattle.dfu_wire.specs.declared.states.State.{State}
use Rattle.dfu_wire.specs.declared.states.State.TheVariants.{DfuIdle, DownloadSync, DownloadBusy, DownloadIdle, ManifestSync, Manifest as Manifesting, ManifestWaitReset}
use Rattle.dfu_device.specs.Stage.{Profile, Stage, InDfuIdle, InDownloadSync, InDownloadIdle, InManifestSync}
use Rattle.dfu_device.specs.Outcome.{Situation}
use Rattle.dfu_host.specs.Blocks.{blocks, first_blocks}
use Rattle.dfu_host.specs.BlockLaws.{all_first_blocks_are_payload}
use Rattle.dfu_host.specs.Phases.{LoadGoal, Phase, Block}
use Rattle.dfu_host.specs.Table.{phase_in_trouble, polled_phase, manifest_phase, asked_phase, asked_last_phase}
use Rattle.dfu_host.specs.RowLaws.{trouble_gives_property}
use Rattle.dfu_sim.specs.Opening.{task_for}
use Rattle.dfu_sim.specs.Fact.{MayBeAtBlock, BlockAccepted, MayBeAtLastBlock, IsManifesting, PhaseFact}
use Rattle.dfu_sim.proofs.Choices.{choice_has_fact}
use Rattle.dfu_sim.proofs.AnswerFacts.{Tells, ToldByHeard}
use Rattle.dfu_sim.proofs.CommonFacts.{goal_has_common_facts}

module _ (c : Profile) (p : List ℕ) (some : 0 < length (blocks p c.transfer)) (sized : 0 < c.transfer) where
  -- Number of blocks of the payload.
  abbrev b : ℕ
  b = length (blocks p c.transfer)

  -- If the device is in the state that it reported in the phase Trouble, the fact of the next phase holds.
  trouble_phase_has_fact : (code : Code) (poll : ℕ) (state : State) (s : Situation) → Tells state s.stage
      → PhaseFact c p (phase_in_trouble (Block 0) code poll state) s
  trouble_phase_has_fact code poll state s h = trouble_gives_property (task_for c (LoadGoal p)) (λ x. PhaseFact c p x s) (λ x. ToldByHeard x
      s.stage)
      (goal_has_common_facts c (LoadGoal p) some s) code poll state h

  -- If the fact of the phase Poll n holds, and the device is in the state that it reported, the fact of the next phase holds.
  pub poll_gives_phase_fact : (n : ℕ) (code : Code) (poll : ℕ) (state : State) (image : List ℕ) (stage : Stage) → n < b
      → BlockAccepted (first_blocks p c.transfer (suc n)) stage → Tells state stage
      → PhaseFact c p (polled_phase (Block 0) b n code poll state) (record { image = image; stage = stage })
  poll_gives_phase_fact n code poll DownloadSync image stage l h t = (l, h)
  poll_gives_phase_fact n code poll DownloadBusy image stage l h t = (l, h)
  poll_gives_phase_fact n code poll DownloadIdle image (InDownloadIdle taken number) l h t =
      choice_has_fact (λ (x : Phase). PhaseFact c p x (record { image = image; stage = InDownloadIdle taken number })) (suc n == b) _ _
      (λ e. let f : suc n ≡ b = grind (arith, nat_tests) in h ∙ ap (first_blocks p c.transfer) f
      ∙ all_first_blocks_are_payload p c.transfer sized)
      (λ e. (grind (arith, nat_tests), (omega arith, h)))
  poll_gives_phase_fact n code poll DownloadIdle image stage l h t = elim t [ ]
  poll_gives_phase_fact n code poll state image stage l h t = trouble_phase_has_fact code poll state (record {
    image = image;
    stage = stage;
  }) t

  -- If the fact of the phase Manifest holds, and the device is in the state that it reported, the fact of the next phase holds.
  pub manifest_poll_gives_phase_fact : (tolerant : Bool) (code : Code) (poll : ℕ) (state : State) (image : List ℕ) (stage : Stage)
      → (IsTrue tolerant → IsTrue c.tolerant) → IsManifesting p image stage → Tells state stage
      → PhaseFact c p (manifest_phase (Block 0) tolerant code poll state) (record { image = image; stage = stage })
  manifest_poll_gives_phase_fact true code poll ManifestSync image stage f h t = h
  manifest_poll_gives_phase_fact true code poll Manifesting image stage f h t = h
  manifest_poll_gives_phase_fact true NoFault poll DfuIdle image InDfuIdle f h t = (f refl, h, tt)
  manifest_poll_gives_phase_fact true NoFault poll DfuIdle image stage f h t = elim t [ ]
  manifest_poll_gives_phase_fact false code poll ManifestSync image stage f h t = tt
  manifest_poll_gives_phase_fact false code poll Manifesting image stage f h t = tt
  manifest_poll_gives_phase_fact false code poll DfuIdle image stage f h t = tt
  manifest_poll_gives_phase_fact false code poll ManifestWaitReset image stage f h t = tt
  manifest_poll_gives_phase_fact tolerant code poll state image stage f h t =
      trouble_phase_has_fact code poll state (record { image = image; stage = stage }) t

  -- If the fact of the phase Ask n holds, and the device is in the state that it reported, the fact of the next phase holds.
  pub block_question_gives_phase_fact : (n : ℕ) (state : State) (image : List ℕ) (stage : Stage) → n < b →
      MayBeAtBlock p c.transfer n stage → Tells state stage
      → PhaseFact c p (asked_phase n state) (record { image = image; stage = stage })
  block_question_gives_phase_fact n DownloadSync image (InDownloadSync before block number) l h t = (l, h)
  block_question_gives_phase_fact zero DfuIdle image InDfuIdle l h t = (l, h)
  block_question_gives_phase_fact (suc n) DownloadIdle image (InDownloadIdle taken number) l h t = (l, h)
  block_question_gives_phase_fact n state image stage l h t = search

  -- If the fact of the phase AskLast holds, and the device is in the state that it reported, the fact of the next phase holds.
  pub last_question_gives_phase_fact : (state : State) (image : List ℕ) (stage : Stage) → MayBeAtLastBlock p stage → Tells state stage
      → PhaseFact c p (asked_last_phase state) (record { image = image; stage = stage })
  last_question_gives_phase_fact ManifestSync image (InManifestSync taken) h t = h
  last_question_gives_phase_fact DownloadIdle image (InDownloadIdle taken number) h t = h
  last_question_gives_phase_fact state image stage h t = search
