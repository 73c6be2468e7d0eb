-- Results of one action of a download's host, in each phase and with each fate.
use Rattle.std.proofs.Common.{◌≡◌, ℕ, ◌%◌, ◌<◌, List, length}
use Rattle.dfu_device.specs.Stage.{Request, GetStatus, GetState, Profile, Stage, InDfuIdle}
use Rattle.dfu_device.specs.Table.{reset_stage}
use Rattle.dfu_device.specs.Outcome.{Situation, Luck, situation_after_ms, after_reset}
use Rattle.dfu_host.specs.declared.report.Report.{Report}
use Rattle.dfu_host.specs.declared.report.Report.TheVariants.{Installed, Unconfirmed, Verified}
use Rattle.dfu_host.specs.Blocks.{blocks}
use Rattle.dfu_host.specs.Phases.{LoadGoal, Phase, Block, Ask, Poll, WaitPoll, Close, AskLast, Manifest, WaitManifest, WaitLast, Trouble, Last, Over, Heard}
use Rattle.dfu_host.specs.Table.{deed, polled_phase, manifest_phase, asked_phase, asked_last_phase, host_row}
use Rattle.dfu_host.specs.RowLaws.{status_gives_property, state_gives_property}
use Rattle.dfu_host.specs.Host.{IsLivePhase}
use Rattle.dfu_sim.specs.Session.{IsOneOf}
use Rattle.dfu_sim.specs.Delivery.{Delivery}
use Rattle.dfu_sim.specs.declared.delivery.Handled.{Handled}
use Rattle.dfu_sim.specs.Opening.{task_for}
use Rattle.dfu_sim.specs.Play.{ActionResult, wait_by_handling, situation_after_slip, send_result, action_result}
use Rattle.dfu_sim.specs.LinkAgreement.{ClosedWasOffered}
use Rattle.dfu_sim.specs.Fact.{IsDfuIdle, IsAppIdle, ReportMeaning, PhaseFact}
use Rattle.dfu_sim.proofs.MovesWithoutBlocks.{IsBlocklessRequest}
use Rattle.dfu_sim.proofs.AnswerFacts.{ToldByHeard, Asks}
use Rattle.dfu_sim.proofs.Kept.{time_keeps_phase_fact}
use Rattle.dfu_sim.proofs.FateEffects.{PhaseKnows, slipped_time_keeps_phase_fact}
use Rattle.dfu_sim.proofs.Next.{poll_gives_phase_fact, manifest_poll_gives_phase_fact, block_question_gives_phase_fact, last_question_gives_phase_fact}
use Rattle.dfu_sim.proofs.GoCommon.{GoesQuietly, wait_goes_quietly, asking_phase_goes_quietly, reset_goes_quietly, common_phase_goes_quietly}
use Rattle.dfu_sim.proofs.Blocks.{moves_quietly, GoesWell, block_phase_goes_well, close_phase_goes_well}

module _ (c : Profile) (offers : List (List ℕ)) (p : List ℕ) (some : 0 < length (blocks p c.transfer)) (sized : 0 < c.transfer) where
  -- Number of blocks of the payload.
  abbrev b : ℕ
  b = length (blocks p c.transfer)

  -- If an action of a download has a quiet result, the result is correct.
  quiet_download_goes_well : (phase : Phase) {s : Situation} {d : ActionResult} →
      GoesQuietly c offers (LoadGoal p) (host_row (task_for c (LoadGoal p)) phase) s d
      → GoesWell c offers p phase s d
  quiet_download_goes_well phase g = record { moves = moves_quietly g.quiet.moves; sound = g.quiet.sound; next = g.next }

  -- If the facts of a download's phase after its answer imply the fact of the next phase, the result of the phase's request is correct.
  asking_download_goes_well : (r : Request) (phase : Phase) (s : Situation) → IsBlocklessRequest r → Asks r phase →
      PhaseFact c p phase s → ClosedWasOffered offers s.stage
      → (delivery : Delivery) (l k : Luck) → ((d : Situation) (heard : Heard) → PhaseKnows c offers p phase d heard
      → PhaseFact c p (host_row (task_for c (LoadGoal p)) phase heard) d) → GoesWell c offers p phase s (send_result c s r delivery l k)
  asking_download_goes_well r phase s polite a h q delivery l k f =
      quiet_download_goes_well phase (asking_phase_goes_quietly c offers (LoadGoal p) r p phase (host_row (task_for c (LoadGoal p)) phase)
      s polite a h q delivery l k f)

  -- A reset in dfuIDLE leads to appIDLE, and the active image is unchanged.
  reset_keeps_image_in_place : (s : Situation) (stage : Stage) → (s.image ≡ p) × IsDfuIdle stage → (s.image ≡ p)
      × IsAppIdle (reset_stage stage)
  reset_keeps_image_in_place s InDfuIdle h = h
  reset_keeps_image_in_place s stage h = elim h.1 [ ]

  -- A report that has its meaning in dfuIDLE has the same meaning in appIDLE after a reset of the bus.
  reset_keeps_report_meaning : (s : Situation) (stage : Stage) (report : Report)
      → ReportMeaning c p (record { image = s.image; stage = stage }) IsDfuIdle report
      → ReportMeaning c p (record { image = s.image; stage = reset_stage stage }) IsAppIdle report
  reset_keeps_report_meaning s stage Installed h = let x = reset_keeps_image_in_place s stage (h.1, h.2) in (h.0, x.0, x.1)
  reset_keeps_report_meaning s stage Verified h = reset_keeps_image_in_place s stage h
  reset_keeps_report_meaning s stage report h = h

  -- A report that has its meaning in dfuIDLE has the same meaning in appIDLE after the last reset and the time of a slip.
  pub last_reset_keeps_report_meaning : (s : Situation) (report : Report) (how : Handled) (l : Luck) → ReportMeaning c p s IsDfuIdle report
      → ReportMeaning c p (situation_after_slip c (after_reset s) how l) IsAppIdle report
  last_reset_keeps_report_meaning s report how l h = slipped_time_keeps_phase_fact c offers p (Over report) s how l
      (reset_keeps_report_meaning s s.stage report h)

  -- The fact of a phase holds while the time of a wait passes.
  wait_keeps_download_fact : (phase : Phase) (s : Situation) (ms : ℕ) (delivery : Delivery) (l : Luck) → PhaseFact c p phase s
      → PhaseFact c p phase (situation_after_ms c s (wait_by_handling delivery.handling ms) l)
  wait_keeps_download_fact phase s ms delivery l h = time_keeps_phase_fact c s.image p phase (wait_by_handling delivery.handling ms)
      s.stage h l

  -- If the fact of a live phase of a download holds, the result of the phase's action is correct, with any delivery.
  pub download_phase_goes_well : (phase : Phase) (s : Situation) → IsLivePhase phase → PhaseFact c p phase s
      → ClosedWasOffered offers s.stage
      → IsOneOf p offers
      → (delivery : Delivery) (l k : Luck) → GoesWell c offers p phase s
      (action_result c s (deed (task_for c (LoadGoal p)) phase) delivery l k)
  download_phase_goes_well (Block n) s on h q o delivery l k = block_phase_goes_well c sized offers p n s.image s.stage h.0 h.1 q delivery
      l k
  download_phase_goes_well (Ask n) s on h q o delivery l k = asking_download_goes_well GetState (Ask n) s tt tt h q delivery l k
      (λ d heard w. state_gives_property (λ x. PhaseFact c p x d) (λ x. ToldByHeard x d.stage) heard (asked_phase n) Trouble (Ask n)
      (λ state. block_question_gives_phase_fact c p some sized n state d.image d.stage w.fact.0 w.fact.1) tt w.fact w.told)
  download_phase_goes_well (Poll n) s on h q o delivery l k = asking_download_goes_well GetStatus (Poll n) s tt tt h q delivery l k
      (λ d heard w. status_gives_property (λ x. PhaseFact c p x d) (λ x. ToldByHeard x d.stage) heard (polled_phase (Block 0) b n) Trouble
      (Poll n)
      (λ code poll state. poll_gives_phase_fact c p some sized n code poll state d.image d.stage w.fact.0 w.fact.1) tt w.fact w.told)
  download_phase_goes_well (WaitPoll n poll) s on h q o delivery l k = quiet_download_goes_well (WaitPoll n poll)
      (wait_goes_quietly c offers (LoadGoal p) (Poll n) (WaitPoll n poll) s poll delivery l (wait_keeps_download_fact (Poll n) s poll
      delivery l h) q)
  download_phase_goes_well Close s on h q o delivery l k =
      close_phase_goes_well c sized offers p (length (blocks p c.transfer) % 65536) s.image s.stage h q o delivery l k
  download_phase_goes_well AskLast s on h q o delivery l k = asking_download_goes_well GetState AskLast s tt tt h q delivery l k
      (λ d heard w. state_gives_property (λ x. PhaseFact c p x d) (λ x. ToldByHeard x d.stage) heard asked_last_phase Trouble AskLast
      (λ state. last_question_gives_phase_fact c p some sized state d.image d.stage w.fact) tt w.fact w.told)
  download_phase_goes_well Manifest s on h q o delivery l k = asking_download_goes_well GetStatus Manifest s tt tt h q delivery l k
      (λ d heard w. status_gives_property (λ x. PhaseFact c p x d) (λ x. ToldByHeard x d.stage) heard
      (manifest_phase (Block 0) c.tolerant) Trouble Manifest
      (λ code poll state. manifest_poll_gives_phase_fact c p some sized c.tolerant code poll state d.image d.stage (λ x. x) w.fact) tt
      w.fact w.told)
  download_phase_goes_well (WaitManifest poll) s on h q o delivery l k = quiet_download_goes_well (WaitManifest poll)
      (wait_goes_quietly c offers (LoadGoal p) Manifest (WaitManifest poll) s poll delivery l (wait_keeps_download_fact Manifest s poll
      delivery l h) q)
  download_phase_goes_well (WaitLast poll) s on h q o delivery l k = quiet_download_goes_well (WaitLast poll)
      (wait_goes_quietly c offers (LoadGoal p) (Last Unconfirmed) (WaitLast poll) s poll delivery l tt q)
  download_phase_goes_well (Last report) s on h q o delivery l k = quiet_download_goes_well (Last report)
      (reset_goes_quietly c offers (LoadGoal p) (Over report) (Last report) s delivery l
      (last_reset_keeps_report_meaning s report delivery.handling l h))
  download_phase_goes_well (Over report) s on h q o delivery l k = elim on [ ]
  download_phase_goes_well phase s on h q o delivery l k = quiet_download_goes_well phase (common_phase_goes_quietly c offers (LoadGoal p)
      some phase s h q delivery l k)
