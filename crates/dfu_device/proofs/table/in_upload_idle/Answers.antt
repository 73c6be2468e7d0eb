use Rattle.std.proofs.Common.{length}
use Rattle.dfu_device.proofs.table.in_upload_idle.Goals as goal

pub returns-in-Upload-clause-possible : goal.returns-in-Upload-clause-possible
returns-in-Upload-clause-possible c = λ body fits block s room filled. c.upload.ensures.possible block (length body) s
