use Rattle.dfu_laws.proofs.link.InSlots.{trial_end_closes_gate}
use Rattle.dfu_laws.proofs.laws.ends_of_trials_close_a_gate.Goals as goal

pub returns : goal.returns
returns c = trial_end_closes_gate
