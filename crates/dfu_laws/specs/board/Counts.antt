-- Number of writes that a board requests before it answers a call.
use Rattle.std.specs.Prelude.{◌≡◌, ℕ, ◌+◌, ◌-◌, ◌/◌, ◌≤◌, ◌==◌, List, [], ◌∷◌, length, Some, None, if◌then◌else◌}
use Rattle.dfu_asks.specs.declared.pending_writes.PendingWrites.{PendingWrites}
use Rattle.dfu_asks.specs.declared.pending_writes.SlotWrite.{SlotWrite}
use Rattle.dfu_asks.specs.declared.pending_writes.SlotWrite.TheVariants.{Block, Commit}
use Rattle.dfu_asks.specs.Steps.{Step}
use Rattle.dfu_asks.specs.Carried.{IsStepPiece}
use Rattle.dfu_asks.specs.Asks.{steps_in}
use Rattle.dfu_laws.specs.board.Board.{Board, lent_on, Event, Took, Restart, BoardReply, WritesDue, Answers, BoardStep}
use Rattle.dfu_laws.specs.board.Happens.{IsPoweredOn, IsRun}

-- Upper bound of the erases for a block of n bytes: on flash with sectors, one for the gate, and one for each sector that may begin in the
-- block.
abbrev pub block_erases : (n sector : ℕ) → ℕ
block_erases n sector = if sector == 0 then 0 else 1 + (n + sector - 1) / sector

-- Upper bound of the programs for a block of n bytes: one for each 256 bytes, and one more.
abbrev pub block_programs : ℕ → ℕ
block_programs n = (n + 255) / 256 + 1

-- Upper bound of the erases for a commit: on flash with sectors, one each for the last unit, the header and the gate.
abbrev pub commit_erases : (sector : ℕ) → ℕ
commit_erases sector = if sector == 0 then 0 else 3

-- Upper bound of the programs for a commit: one each for the last unit, the header and the gate.
abbrev pub commit_programs : ℕ
commit_programs = 3

-- Upper bound of the writes of a pending job: those of a block of n bytes, or those of a commit.
abbrev pub operation_bound : SlotWrite → (n sector : ℕ) → ℕ
operation_bound (Block spare close) n sector = block_erases n sector + block_programs n
operation_bound (Commit spare gen crc) n sector = commit_erases sector + commit_programs

-- Number of writes that a board requests with this reply: 1 if writes are pending, else 0.
abbrev pub operations_of : BoardReply → ℕ
operations_of WritesDue = 1
operations_of says = 0

-- Number of writes that a board requests in these steps.
abbrev pub operations_in : List BoardStep → ℕ
operations_in [] = 0
operations_in (s ∷ rest) = operations_of s.says + operations_in rest

-- The step gives no answer, and is not a restart.
abbrev pub IsUnanswered : Event → BoardReply → Type 0
IsUnanswered (Restart begins) says = ⊥
IsUnanswered event (Answers a out) = ⊥
IsUnanswered event says = Unit {0}

-- No step gives an answer, and none is a restart.
abbrev pub AreUnanswered : List BoardStep → Type 0
AreUnanswered [] = Unit {0}
AreUnanswered (s ∷ rest) = IsUnanswered s.event s.says × AreUnanswered rest

-- If a report leaves more writes pending, the next piece follows the reported piece directly. This is clause `piece_advances` of `took`.
abbrev pub PieceAdvances : Board → Event → BoardReply → Board → Type 0
PieceAdvances b (Took failed) WritesDue b' = (w : PendingWrites) (p : Step) → b.asking.work ≡ Some w
    → IsStepPiece (steps_in (lent_on b) w) w.done p → b'.asking.work ≡ Some (record w { done = w.done + length p.write.bytes })
PieceAdvances b event says b' = Unit {0}

-- After each report among the steps that leaves more writes pending, the next piece follows the reported piece directly.
abbrev pub AllPiecesAdvance : List BoardStep → Type 0
AllPiecesAdvance [] = Unit {0}
AllPiecesAdvance (s ∷ rest) = PieceAdvances s.before s.event s.says s.after × AllPiecesAdvance rest

-- Let a board have no pending writes after some steps from power on. Let more steps follow, none of which gives an answer or is a restart,
-- and let writes be pending after them. If the next piece always follows the reported piece directly, the board requests at most
-- `operation_bound` writes in these steps. For a block, n is the length of the block in the device's memory.
abbrev pub RunOperationsBounded : Type 0
RunOperationsBounded = (b mid b' : Board) (old steps : List BoardStep) (w : PendingWrites) → IsPoweredOn b → IsRun b old mid
    → mid.asking.work ≡ None → IsRun mid steps b' → AreUnanswered steps → AllPiecesAdvance steps → b'.asking.work ≡ Some w
    → operations_in steps ≤ operation_bound w.job (length (lent_on b').block) b'.asking.sector.size
