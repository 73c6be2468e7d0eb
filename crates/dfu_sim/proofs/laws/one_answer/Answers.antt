use Rattle.dfu_sim.proofs.Refusals.{event_has_one_refusal, refused_event_is_no_play, one_event}
use Rattle.dfu_sim.proofs.HarmedActions.{harmed_action_has_one_result}
use Rattle.dfu_sim.proofs.laws.one_answer.Goals as goal

pub returns : goal.returns
returns g = record {
  fault = event_has_one_refusal;
  no_play = refused_event_is_no_play;
  event = one_event;
  result =
      harmed_action_has_one_result;
}
