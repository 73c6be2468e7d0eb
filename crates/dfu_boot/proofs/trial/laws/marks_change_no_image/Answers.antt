use Rattle.dfu_boot.proofs.UnreadMarks.{marks_are_unread, unread_change_keeps_images}
use Rattle.dfu_boot.proofs.trial.laws.marks_change_no_image.Goals as goal

pub returns : goal.returns
returns c = record { unread = marks_are_unread; image = unread_change_keeps_images }
