-- Number of writes that a board in C requests before it answers a call.
use Rattle.std.specs.Prelude.{◌≡◌, ◌≢◌, ℕ, ◌+◌, ◌≤◌, ◌==◌, ℤ, pos, negsuc, List, [], ◌∷◌, Some, if◌then◌else◌}
use Rattle.dfu_asks.specs.declared.pending_writes.PendingWrites.{PendingWrites}
use Rattle.dfu_core.specs.Config.{transfer_of}
use Rattle.dfu_core.specs.RecordMeaning.{HasWorkNumbers}
use Rattle.dfu_core.specs.Numbers.{STALL_NUMBER}
use Rattle.dfu_core.specs.Board.{CoreBoard, CoreEvent, CoreWrite, CoreRestart}
use Rattle.dfu_core.specs.Happens.{IsCorePoweredOn}
use Rattle.dfu_laws.specs.board.Counts.{operation_bound}
use Rattle.dfu_laws.specs.in_c.Steps.{CoreStep, IsCoreRun}

-- The returned number is not an answer to a call: it is negative, and is not DFU_STALL.
abbrev pub IsUnansweredNumber : ℤ → Type 0
IsUnansweredNumber n = ((k : ℕ) → n ≢ pos k) × (n ≢ STALL_NUMBER)

-- The step gives no answer to a call, and is not a restart.
abbrev pub IsCoreUnanswered : CoreEvent → ℤ → Type 0
IsCoreUnanswered (CoreRestart begins) n = ⊥
IsCoreUnanswered CoreWrite n = Unit {0}
IsCoreUnanswered e n = IsUnansweredNumber n

-- None of the steps gives an answer to a call, and none is a restart.
abbrev pub AreCoreUnanswered : List CoreStep → Type 0
AreCoreUnanswered [] = Unit {0}
AreCoreUnanswered (s ∷ rest) = IsCoreUnanswered s.event s.number × AreCoreUnanswered rest

-- Number of writes that a board in C requests by the returned number: 1 for DFU_WRITE_PENDING, and 0 for any other number.
abbrev pub operations_of_number : ℤ → ℕ
operations_of_number (pos k) = 0
operations_of_number (negsuc k) = if k == 10 then 1 else 0

-- Number of steps that returned DFU_WRITE_PENDING.
abbrev pub core_operations_in : List CoreStep → ℕ
core_operations_in [] = 0
core_operations_in (s ∷ rest) = operations_of_number s.number + core_operations_in rest

-- Let a board in C have no pending writes. Let steps follow without an answer and without a restart, after which writes are pending. While
-- a block is written, DFU_WRITE_PENDING is returned at most DFU_BLOCK_ERASES plus DFU_BLOCK_PROGRAMS times; for a commit, at most
-- DFU_COMMIT_ERASES plus DFU_COMMIT_PROGRAMS times. The bounds are those of the configured transfer size and sector size. Therefore a loop
-- that runs while the number is DFU_WRITE_PENDING ends.
abbrev pub CoreOperationsBounded : Type 0
CoreOperationsBounded = (b mid b' : CoreBoard) (old steps : List CoreStep) (w : PendingWrites) → IsCorePoweredOn b → IsCoreRun b old mid
    → mid.kept.work ≡ 0 → IsCoreRun mid steps b' → AreCoreUnanswered steps → HasWorkNumbers b'.kept (Some w)
    → core_operations_in steps ≤ operation_bound w.job (transfer_of b.config) b.config.sector
