-- Source, step and bytes of a piece that a search found.
use Rattle.std.specs.Prelude.{◌≡◌, ◌↔◌, Bool, IsTrue, ℕ, ◌+◌, ◌^◌, ◌≤◌, ◌<◌, true, false, List, ◌++◌, length, drop, replicate, slice_range}
use Rattle.dfu_asks.specs.declared.pending_writes.WriteInputs.{WriteInputs}
use Rattle.dfu_asks.specs.declared.cut.Cut.{Cut}
use Rattle.dfu_asks.specs.declared.cut.Runs.{Runs}
use Rattle.dfu_slots.specs.declared.operation.Source.{Source}
use Rattle.dfu_slots.specs.Operations.{source_content}
use Rattle.dfu_asks.specs.Steps.{Step}
use Rattle.dfu_asks.specs.Carried.{IsStepPiece}
use Rattle.dfu_asks.specs.Jobs.{step_of_piece}

-- Bytes of a source, taken from the inputs of the writes or from the header.
abbrev pub source_bytes : Source → WriteInputs → List ℕ → List ℕ
source_bytes source s front = source_content source s.held.now s.block.now front

-- Bytes of a source, with 256 zeros after them.
abbrev pub zero_padded_source : Source → WriteInputs → List ℕ → List ℕ
zero_padded_source source s front = source_bytes source s front ++ replicate 256 0

-- The n bytes of a padded source after its first `skip` bytes.
abbrev pub range_of_source : Source → WriteInputs → List ℕ → ℕ → ℕ → List ℕ
range_of_source source s front skip n = slice_range (zero_padded_source source s front) skip (skip + n)

-- Step of a piece that a search found: its erase or its program, with its bytes.
abbrev pub step_of_cut : Cut → Step
step_of_cut c = step_of_piece c.piece (drop c.from (zero_padded_source c.source c.inputs c.front))

-- Bytes of a piece: its three runs, one after the other.
abbrev pub run_bytes : Runs → List ℕ
run_bytes r = (r.front.now ++ r.back.now) ++ replicate r.rest r.pad

-- The next piece after `done` bytes of these steps has n bytes, and `stands` is true exactly if this flash contains them.
pub record IsNextPiece (steps : List Step) (done : ℕ) (flash : List ℕ) (n : ℕ) (stands : Bool) : Type 0 where
  pub piece : Step
  pub is : IsStepPiece steps done piece
  pub size : length piece.write.bytes ≡ n
  pub within : IsTrue stands → piece.write.at + n ≤ length flash
  pub there : IsTrue stands
      ↔ (slice_range flash piece.write.at (piece.write.at + length piece.write.bytes) ≡ piece.write.bytes)

-- A found piece is bounded: it has at least one byte; a program has at most 256 bytes, all within its padded source, and an erase has at
-- most a sector.
pub record IsFoundPiece (sector : ℕ) (c : Cut) : Type 0 where
  pub some : 0 < c.piece.len
  pub programs : c.piece.erases ≡ false → c.piece.len ≤ 256
  pub erases : c.piece.erases ≡ true → c.piece.len ≤ sector
  pub small : c.piece.at < 2 ^ 43
  pub near : c.piece.erases ≡ false → c.from ≤ 2 ^ 33
  pub within : c.piece.erases ≡ false → c.from + c.piece.len ≤ length (source_bytes c.source c.inputs c.front) + 256
