-- Steps of the operations of a sequence.
use Rattle.std.specs.Prelude.{ℕ, zero, suc, ◌+◌, ◌≤◌, List, [], ◌∷◌, ◌++◌, length}
use Rattle.dfu_slots.specs.declared.operation.Op.{Op}
use Rattle.dfu_slots.specs.declared.operation.Op.TheVariants.{Erase, Program}
use Rattle.dfu_asks.specs.declared.pending_writes.WriteInputs.{WriteInputs}
use Rattle.dfu_asks.specs.Steps.{Step, erase_step, write_some_steps}
use Rattle.dfu_asks.specs.Cuts.{source_bytes, range_of_source}

-- Steps of an operation. Its bytes are taken from these inputs or from the header.
abbrev pub op_steps : WriteInputs → List ℕ → Op → List Step
op_steps s front (Erase at) = erase_step at s.sector.size ∷ []
op_steps s front (Program at source skip n) = write_some_steps s.sector.size at (range_of_source source s front skip n)

-- Steps of several operations, one after the other.
abbrev pub ops_steps : WriteInputs → List ℕ → List Op → List Step
ops_steps s front [] = []
ops_steps s front (o ∷ os) = op_steps s front o ++ ops_steps s front os

-- Steps of operation number n; none if the list is shorter.
abbrev pub op_steps_at : WriteInputs → List ℕ → List Op → ℕ → List Step
op_steps_at s front [] n = []
op_steps_at s front (o ∷ os) zero = op_steps s front o
op_steps_at s front (o ∷ os) (suc n) = op_steps_at s front os n

-- A program has at most 4608 bytes, all within its source and the 256 zeros after it. An erase has no bound.
abbrev pub OpHasFewBytes : WriteInputs → List ℕ → Op → Type 0
OpHasFewBytes s front (Erase at) = Unit {0}
OpHasFewBytes s front (Program at source skip n) = (n ≤ 4608) × (skip + n ≤ length (source_bytes source s front) + 256)

-- Each operation of the list satisfies `OpHasFewBytes`.
abbrev pub OpsHaveFewBytes : WriteInputs → List ℕ → List Op → Type 0
OpsHaveFewBytes s front [] = Unit {0}
OpsHaveFewBytes s front (o ∷ os) = OpHasFewBytes s front o × OpsHaveFewBytes s front os
