use Rattle.dfu_sim.proofs.Chains.{FirstEventsRan}
use Rattle.dfu_sim.proofs.running.run.Given as goal

abbrev pub invariant-loop-i : goal.invariant-loop-i
invariant-loop-i g l = FirstEventsRan l.initial.world l.events l.i l.reports.items l.world
