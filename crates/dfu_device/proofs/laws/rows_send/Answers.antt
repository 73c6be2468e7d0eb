use Rattle.dfu_device.specs.Sent.{is_uploading, sent_in, sent_piece, ends_in_upload, upload_piece}
use Rattle.dfu_device.proofs.History.{gathered_bytes_are_unique}
use Rattle.dfu_device.proofs.RowGathers.{row_adds_own_bytes, step_adds_own_bytes, history_from_start_gathers}
use Rattle.dfu_device.proofs.SentHistory.{joined, gathering_of_sent_bytes}
use Rattle.dfu_device.proofs.Uploaded.{last_piece_completes_image, uploads_are_images}
use Rattle.dfu_device.proofs.laws.rows_send.Goals as goal

pub returns : goal.returns
returns c = record {
  row = row_adds_own_bytes is_uploading sent_in joined sent_piece gathering_of_sent_bytes;
  step = step_adds_own_bytes is_uploading sent_in joined sent_piece gathering_of_sent_bytes;
  history = history_from_start_gathers is_uploading sent_in joined sent_piece gathering_of_sent_bytes;
  ends = last_piece_completes_image;
  gives = uploads_are_images;
  one = gathered_bytes_are_unique ends_in_upload upload_piece;
}
