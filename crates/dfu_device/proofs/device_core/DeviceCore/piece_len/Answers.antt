use Rattle.std.proofs.Common.{arith}
use Rattle.dfu_slots.specs.StoreView.{image_of}
use Rattle.dfu_device.proofs.Pieces.{next_bytes, count_is_piece_length}
use Rattle.dfu_device.proofs.device_core.DeviceCore.piece_len.Goals as goal

pub returns-clause-bytes : goal.returns-clause-bytes
returns-clause-bytes g c = next_bytes (image_of c.args.self.now.slots) c.args.place c.min.result c.args.len
    (omega (arith, c.min.ensures, c.saturating_sub-rest.ensures, c.active_len.ensures.image))

pub returns-clause-count : goal.returns-clause-count
returns-clause-count g c = count_is_piece_length (image_of c.args.self.now.slots) c.args.place c.min.result c.args.len
    (omega (arith, c.min.ensures, c.saturating_sub-rest.ensures, c.active_len.ensures.image))
