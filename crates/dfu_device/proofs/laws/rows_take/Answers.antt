use Rattle.dfu_device.specs.AcceptedBytes.{is_downloading, accepted_in, accepted_after_reply, ends_in_download, acknowledged_block}
use Rattle.dfu_device.proofs.History.{gathered_bytes_are_unique}
use Rattle.dfu_device.proofs.RowGathers.{row_adds_own_bytes, step_adds_own_bytes, history_adds_own_bytes, history_from_start_gathers}
use Rattle.dfu_device.proofs.TakenHistory.{setup_accepts_body, time_accepts_nothing, acknowledged_body_of, gathering_of_accepted_bytes}
use Rattle.dfu_device.proofs.laws.rows_take.Goals as goal

pub returns : goal.returns
returns c = record {
  asked = setup_accepts_body;
  time = time_accepts_nothing;
  row = row_adds_own_bytes is_downloading accepted_in accepted_after_reply acknowledged_body_of gathering_of_accepted_bytes;
  step = step_adds_own_bytes is_downloading accepted_in accepted_after_reply acknowledged_body_of gathering_of_accepted_bytes;
  history = history_adds_own_bytes is_downloading accepted_in accepted_after_reply acknowledged_body_of gathering_of_accepted_bytes;
  from_start = history_from_start_gathers is_downloading accepted_in accepted_after_reply acknowledged_body_of gathering_of_accepted_bytes;
  one = gathered_bytes_are_unique ends_in_download acknowledged_block;
}
