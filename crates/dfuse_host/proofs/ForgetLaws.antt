-- After a restart a session knows nothing about the address pointer, or is over.
use Rattle.std.proofs.Common.{◌≡◌, refl, sym, subst}
use Rattle.dfuse_host.specs.declared.plan.Plan.{Plan}
use Rattle.dfuse_host.specs.declared.phase.Phase.{Phase}
use Rattle.dfuse_host.specs.declared.phase.Phase.TheVariants.{On, Over}
use Rattle.dfuse_host.specs.declared.work.Work.{Work}
use Rattle.dfuse_host.specs.declared.place.Place.{Place}
use Rattle.dfuse_host.specs.declared.step.Step.{Step}
use Rattle.dfuse_host.specs.declared.step.Step.TheVariants as step
use Rattle.dfuse_host.specs.declared.heard.Heard.TheVariants as heard
use Rattle.dfuse_host.specs.declared.command.Command.{Command}
use Rattle.dfuse_host.specs.declared.command.Command.TheVariants as command
use Rattle.dfuse_host.specs.declared.session.Session.{Session}
use Rattle.dfuse_host.specs.Commands.{command_of, phase_if_unsure}
use Rattle.dfuse_host.specs.Sessions.{phase_resumed, session_after_phase_heard}
use Rattle.dfuse_host.specs.Forgetting.{IsPointerLost, RestartForgetsPointer}
use Rattle.dfuse_host.proofs.Restarts.{restart_keeps_fact}

unsure_phase_loses_pointer : (plan : Plan) (w : Work) (c : Command) → IsPointerLost (phase_if_unsure plan w c)
unsure_phase_loses_pointer plan w (command.SetAddress at) = refl
unsure_phase_loses_pointer plan w (command.ErasePage at) = refl
unsure_phase_loses_pointer plan w (command.Write at) = refl

resumed_phase_loses_pointer : (plan : Plan) (w : Work) (p : Place) (s : Step) → IsPointerLost (phase_resumed plan w p s)
resumed_phase_loses_pointer plan w p (step.Poll last) = unsure_phase_loses_pointer plan w (command_of plan w p)
resumed_phase_loses_pointer plan w p (step.PollWait ms) = unsure_phase_loses_pointer plan w (command_of plan w p)
resumed_phase_loses_pointer plan w p s = refl

restarted_phase_loses_pointer : (s : Session) (p : Phase) → s.phase ≡ p →
    IsPointerLost (session_after_phase_heard s p heard.Restarted).phase
restarted_phase_loses_pointer s (Over r) e = subst IsPointerLost (sym e) tt
restarted_phase_loses_pointer s (On at) e = restart_keeps_fact IsPointerLost (λ r. tt) resumed_phase_loses_pointer s at.work at.place
    at.step

pub restart_loses_pointer : RestartForgetsPointer
restart_loses_pointer s = restarted_phase_loses_pointer s s.phase refl
