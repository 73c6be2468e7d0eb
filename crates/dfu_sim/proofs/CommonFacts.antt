-- The phases that all sessions share assume nothing about the device; the work of a session may begin in dfuIDLE.
use Rattle.std.proofs.Common.{ℕ, List, [], refl, arith}
use Rattle.dfu_wire.specs.declared.states.State.TheVariants.{DfuIdle}
use Rattle.dfu_device.specs.Stage.{Profile, Stage, InDfuIdle}
use Rattle.dfu_device.specs.Outcome.{Situation}
use Rattle.dfu_host.specs.declared.report.Report.{Report}
use Rattle.dfu_host.specs.declared.report.Report.TheVariants.{Installed, Aborted, Refused}
use Rattle.dfu_host.specs.Phases.{Goal, LoadGoal, FetchGoal, VerifyGoal, CompareGoal, Phase, Find, Over}
use Rattle.dfu_host.specs.Table.{work_start}
use Rattle.dfu_host.specs.CommonPhases.{IsCommonPhase, CommonInvariant}
use Rattle.dfu_sim.specs.Opening.{task_for}
use Rattle.dfu_sim.specs.Session.{PromisesNothing}
use Rattle.dfu_sim.specs.Fact.{IsAppIdle, IsAtBlock, ReportMeaning, FetchedSoFar, GoalFact, HasBlocks}
use Rattle.dfu_sim.proofs.AnswerFacts.{Tells, ToldByHeard}

module _ (c : Profile) where
  -- In a common phase the fact of each goal holds in every situation.
  pub common_phase_has_goal_fact : (g : Goal) (d : Situation) (phase : Phase) → IsCommonPhase phase → GoalFact c g phase d
  common_phase_has_goal_fact FetchGoal d Find h = tt
  common_phase_has_goal_fact g d Find h = tt
  common_phase_has_goal_fact g d phase h = search

  -- A device that reports dfuIDLE expects the first block of a download.
  dfu_idle_is_at_first_block : (p : List ℕ) (stage : Stage) → Tells DfuIdle stage → IsAtBlock p c.transfer 0 stage
  dfu_idle_is_at_first_block p InDfuIdle h = refl
  dfu_idle_is_at_first_block p stage h = elim h [ ]

  -- A device that reports dfuIDLE expects the first UPLOAD, and the host has kept no bytes yet.
  dfu_idle_is_at_first_part : (image : List ℕ) (stage : Stage) → Tells DfuIdle stage → FetchedSoFar 0 [] image stage
  dfu_idle_is_at_first_part image InDfuIdle h = (refl, refl)
  dfu_idle_is_at_first_part image stage h = elim h [ ]

  -- In a situation the fact of a goal holds in each common phase, and in the first phase of its work once the host has received dfuIDLE.
  abbrev pub CommonFacts : Goal → Situation → Type 0
  CommonFacts g d = CommonInvariant (task_for c g) (λ phase. GoalFact c g phase d) (λ heard. ToldByHeard heard d.stage)

  -- If a device reports dfuIDLE, the fact of the first phase of the work holds.
  work_start_has_goal_fact : (g : Goal) → HasBlocks c g → (d : Situation) → Tells DfuIdle d.stage → GoalFact c g (work_start g) d
  work_start_has_goal_fact FetchGoal some d t = (omega arith, dfu_idle_is_at_first_part d.image d.stage t)
  work_start_has_goal_fact (CompareGoal p) some d t = (omega arith, dfu_idle_is_at_first_part d.image d.stage t)
  work_start_has_goal_fact (LoadGoal p) some d t = (some, dfu_idle_is_at_first_block p d.stage t)
  work_start_has_goal_fact (VerifyGoal p) some d t = (some, dfu_idle_is_at_first_block p d.stage t)

  -- A report that promises nothing has its meaning in each situation.
  plain_report_has_meaning : (p : List ℕ) (d : Situation) (report : Report) → PromisesNothing report → ReportMeaning c p d IsAppIdle report
  plain_report_has_meaning p d Installed h = elim h [ ]
  plain_report_has_meaning p d report h = search

  -- The fact of a session that ended with a report without a promise holds in each situation.
  plain_end_has_goal_fact : (g : Goal) (d : Situation) (report : Report) → PromisesNothing report → GoalFact c g (Over report) d
  plain_end_has_goal_fact FetchGoal d report h = h
  plain_end_has_goal_fact g d report h = plain_report_has_meaning _ d report h

  -- If the payload of a goal has blocks, its common facts hold in each situation.
  pub goal_has_common_facts : (g : Goal) → HasBlocks c g → (d : Situation) → CommonFacts g d
  goal_has_common_facts g some d = record {
    holds_in_each_phase = common_phase_has_goal_fact g d;
    begins = λ code poll t. work_start_has_goal_fact g some d t;
    refused = λ code. plain_end_has_goal_fact g d (Refused code) tt;
    aborted = plain_end_has_goal_fact g d Aborted tt;
  }
