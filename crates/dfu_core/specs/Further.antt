-- Progress of a device whose writes are pending.
use Rattle.std.specs.Prelude.{◌≡◌, ◌+◌, length, Some}
use Rattle.dfu_asks.specs.declared.pending_writes.PendingWrites.{PendingWrites}
use Rattle.dfu_asks.specs.declared.reply.Reply.{Reply}
use Rattle.dfu_asks.specs.declared.reply.Reply.TheVariants.{Asks}
use Rattle.dfu_asks.specs.Steps.{Step}
use Rattle.dfu_asks.specs.Carried.{IsStepPiece}
use Rattle.dfu_asks.specs.Asks.{steps_in}
use Rattle.dfu_asks.specs.Lent.{LentDevice}

-- If the reply to a report requests more writes, the next piece follows the piece that was reported.
abbrev pub PiecesAdvance : LentDevice → Reply → LentDevice → Type 0
PiecesAdvance a r a' = r ≡ Asks → (w : PendingWrites) (p : Step) → a.work ≡ Some w → IsStepPiece (steps_in a w) w.done p
    → a'.work ≡ Some (record w { done = w.done + length p.write.bytes })
