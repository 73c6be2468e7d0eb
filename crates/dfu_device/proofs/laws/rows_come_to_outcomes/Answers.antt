use Rattle.dfu_device.specs.PlanOutcomes.{came, row_follows_reading, setups_have_outcomes, not_served_is_stalled, times_have_outcomes, status_read_back}
use Rattle.dfu_device.proofs.laws.rows_come_to_outcomes.Goals as goal

pub returns : goal.returns
returns c = record {
  plan = came;
  row_follows_reading = row_follows_reading;
  asked = setups_have_outcomes;
  not_served_is_stalled = not_served_is_stalled;
  time = times_have_outcomes;
  status = status_read_back;
}
