-- A session, its next action, and the session after a result.
use Rattle.std.specs.Prelude.{◌≡◌, ℕ, zero, suc, pred, max, List, [], ◌∷◌}
use Rattle.dfuse_host.specs.declared.plan.Plan.{Plan}
use Rattle.dfuse_host.specs.declared.phase.Phase.{Phase}
use Rattle.dfuse_host.specs.declared.phase.Phase.TheVariants.{On, Over}
use Rattle.dfuse_host.specs.declared.work.Work.{Work}
use Rattle.dfuse_host.specs.declared.work.Work.TheVariants as work
use Rattle.dfuse_host.specs.declared.place.Place.{Place}
use Rattle.dfuse_host.specs.declared.step.Step.{Step}
use Rattle.dfuse_host.specs.declared.step.Step.TheVariants as step
use Rattle.dfuse_host.specs.declared.heard.Heard.{Heard}
use Rattle.dfuse_host.specs.declared.heard.Heard.TheVariants as heard
use Rattle.dfuse_host.specs.declared.seen.Seen.{Seen}
use Rattle.dfuse_host.specs.declared.action.Action.{Action}
use Rattle.dfuse_host.specs.declared.report.Report.TheVariants as report
use Rattle.dfuse_host.specs.declared.report.Leaving.{Leaving}
use Rattle.dfuse_host.specs.declared.report.Leaving.TheVariants as leaving
use Rattle.dfuse_host.specs.declared.session.Session.{Session}
use Rattle.dfuse_host.specs.declared.limits.Limits.{Limits}
use Rattle.dfuse_host.specs.Images.{image_start}
use Rattle.dfuse_host.specs.Commands.{command_of, phase_to_clear, phase_if_unsure}
use Rattle.dfuse_host.specs.Deeds.{dfuse_deed}
use Rattle.dfuse_host.specs.Table.{row}
use Rattle.dfuse_host.specs.Wire.{DfuseSeenMeaning, DfuseSpells}

-- A new session. It clears the device first and then erases all pages of the image.
abbrev pub initial_dfuse_session : Plan → Limits → Session
initial_dfuse_session plan limits = record {
  plan = plan;
  phase = phase_to_clear (work.Erase (image_start plan.image.now));
  actions = max 1 limits.actions;
  restarts = limits.restarts;
}

-- Leaving in the report of a session that ends at this step: Unknown if it has reached the leave request (a DNLOAD without bytes), and
-- Stayed otherwise.
abbrev pub left_at : Step → Leaving
left_at step.Close = leaving.Unknown
left_at step.CloseProbe = leaving.Unknown
left_at step.ClosePoll = leaving.Unknown
left_at s = leaving.Stayed

-- Phase when no action is left: over as Verified if the whole image was compared, and as GaveUp otherwise.
abbrev pub phase_without_actions : Work → Step → Phase
phase_without_actions work.Leave s = Over (report.Verified (left_at s))
phase_without_actions w s = Over report.GaveUp

-- The phase itself if actions are left or the session is over, and the end of the session otherwise.
abbrev pub phase_within_budget : (left : ℕ) → Phase → Phase
phase_within_budget left (Over r) = Over r
phase_within_budget zero (On s) = phase_without_actions s.work s.step
phase_within_budget (suc left) (On s) = On s

-- Session after an action that leads to this phase, with this number of restarts left.
abbrev pub session_after_action : Session → Phase → (restarts : ℕ) → Session
session_after_action s phase restarts = record {
  plan = s.plan;
  phase = phase_within_budget (pred s.actions) phase;
  actions = pred s.actions;
  restarts = restarts;
}

-- Phase after a restart. A command that was started may have stopped halfway, and the pointer is no longer known.
abbrev pub phase_resumed : Plan → Work → Place → Step → Phase
phase_resumed plan w p (step.Poll last) = phase_if_unsure plan w (command_of plan w p)
phase_resumed plan w p (step.PollWait ms) = phase_if_unsure plan w (command_of plan w p)
phase_resumed plan w p s = phase_to_clear w

-- Session that goes on in this phase after a restart. It is over as RestartsSpent if no restart is left.
abbrev pub session_with_restart_taken : Session → Phase → (restarts : ℕ) → Session
session_with_restart_taken s phase zero = session_after_action s (Over report.RestartsSpent) zero
session_with_restart_taken s phase (suc restarts) = session_after_action s phase restarts

-- Session after a restart of the device during the work Leave. It is over as Verified if it has reached the leave request.
abbrev pub restarted_leaving : Session → Place → Step → Session
restarted_leaving s p step.Close = session_after_action s (Over (report.Verified leaving.Unknown)) s.restarts
restarted_leaving s p step.CloseProbe = session_after_action s (Over (report.Verified leaving.Unknown)) s.restarts
restarted_leaving s p step.ClosePoll = session_after_action s (Over (report.Verified leaving.Unknown)) s.restarts
restarted_leaving s p at = session_with_restart_taken s (phase_resumed s.plan work.Leave p at) s.restarts

-- Session after the device restarted during a work.
abbrev pub session_after_restart : Session → Work → Place → Step → Session
session_after_restart s work.Leave p at = restarted_leaving s p at
session_after_restart s w p at = session_with_restart_taken s (phase_resumed s.plan w p at) s.restarts

-- Session after a result at a step. The table handles every result except a restart.
abbrev pub session_after_step_heard : Session → Work → Place → Step → Heard → Session
session_after_step_heard s w p at heard.Restarted = session_after_restart s w p at
session_after_step_heard s w p at h = session_after_action s (row s.plan w p at h) s.restarts

-- Session after a result in a phase. A session that is over doesn't change.
abbrev pub session_after_phase_heard : Session → Phase → Heard → Session
session_after_phase_heard s (Over r) h = s
session_after_phase_heard s (On at) h = session_after_step_heard s at.work at.place at.step h

-- Session after a result. A session that is over doesn't change.
abbrev pub session_after_heard : Session → Heard → Session
session_after_heard s h = session_after_phase_heard s s.phase h

-- The action encodes the deed of the session's phase as a setup and a body.
abbrev pub DfuseAct : Session → Action → Type 0
DfuseAct s action = DfuseSpells (dfuse_deed s.plan s.phase) action

-- Meaning of a result in a phase. If the session is over, a result may mean anything.
abbrev pub DfuseSeenMeaningIn : Plan → Phase → Seen → Heard → Type 0
DfuseSeenMeaningIn plan (On s) seen h = DfuseSeenMeaning plan s.work s.step seen h
DfuseSeenMeaningIn plan (Over r) seen h = Unit {0}

-- A result leads from the session `s` to `s'`. The meaning of bytes depends on the step, and the table contains the next phase.
pub record SessionRow (s : Session) (seen : Seen) (s' : Session) : Type 0 where
  -- Meaning of the result.
  pub heard : Heard
  -- In this phase the result has this meaning.
  pub hears : DfuseSeenMeaningIn s.plan s.phase seen heard
  -- The new session is the one after a result with this meaning.
  pub same : s' ≡ session_after_heard s heard

-- A session takes the results of a list in order.
pub data SessionRows : Session → List Seen → Session → Type 0 where
  -- Without results the session stays unchanged.
  seen_all : {s : Session} → SessionRows s [] s
  -- The session takes the first result, and then the others.
  sees : {s mid s' : Session} {seen : Seen} {more : List Seen}
      → SessionRow s seen mid → SessionRows mid more s' → SessionRows s (seen ∷ more) s'

-- The session in this phase is over.
abbrev pub DfuseIsOver : Phase → Type 0
DfuseIsOver (Over r) = Unit {0}
DfuseIsOver (On s) = ⊥

-- Largest number of results that a session in this phase takes before it is over: its actions, but at least one. It is 0 if the session is
-- already over.
abbrev pub most_dfuse_inputs_in : Phase → (actions : ℕ) → ℕ
most_dfuse_inputs_in (Over r) actions = 0
most_dfuse_inputs_in (On s) actions = max 1 actions

-- Number of results that a session may still take before it is over.
abbrev pub remaining_dfuse_inputs : Session → ℕ
remaining_dfuse_inputs s = most_dfuse_inputs_in s.phase s.actions
