-- Writes and steps of a job.
use Rattle.std.specs.Prelude.{◌≡◌, ℕ, ◌+◌, ◌-◌, ◌*◌, ◌^◌, ◌<◌, ◌≤◌, true, false, List, [], ◌∷◌, ◌++◌, length, take, replicate, if◌then◌else◌}
use Rattle.dfu_slots.specs.Units.{Grain, gate_room, filled_units}
use Rattle.dfu_slots.specs.Medium.{Write}
use Rattle.dfu_slots.specs.Writes.{closed_gate, put_writes, held_writes, open_writes}
use Rattle.dfu_asks.specs.Mapped.{grain_of}
use Rattle.dfu_asks.specs.Steps.{Step, write_some_steps, put_steps, open_steps, close_step}
use Rattle.dfu_asks.specs.declared.pending_writes.SlotWrite.{SlotWrite}
use Rattle.dfu_asks.specs.declared.pending_writes.SlotWrite.TheVariants.{Block, Commit}
use Rattle.dfu_asks.specs.declared.reply.FlashOp.{FlashOp}
use Rattle.dfu_asks.specs.declared.pending_writes.WriteInputs.{WriteInputs}

-- Offset of the held-back bytes in the medium, if `end` bytes, with these as the last ones, are put into the slot at `spare`.
abbrev pub held_bytes_place : Grain → ℕ → ℕ → List ℕ → ℕ
held_bytes_place grain spare end held = spare + 2 * gate_room grain + (end - length held)

-- Writes of a job on a medium of this grain, if `end` bytes are put so far, `held` is held back, and `block` is the next block.
abbrev pub job_writes : SlotWrite → Grain → ℕ → List ℕ → List ℕ → List Write
job_writes (Block spare close) grain end held block =
    (if close then record { at = spare; bytes = closed_gate grain } ∷ [] else [])
    ++ put_writes grain (held_bytes_place grain spare end held) held block
job_writes (Commit spare gen crc) grain end held block =
    held_writes grain (held_bytes_place grain spare end held) held ++ open_writes grain spare gen end crc

-- Steps of a job: its writes, each marked as an erase or a program.
abbrev pub job_steps : SlotWrite → Grain → ℕ → List ℕ → List ℕ → List Step
job_steps (Block spare close) grain end held block =
    (if close then close_step grain spare ∷ [] else []) ++ put_steps grain (held_bytes_place grain spare end held) held block
job_steps (Commit spare gen crc) grain end held block =
    write_some_steps grain.sector (held_bytes_place grain spare end held) (filled_units grain.unit held)
    ++ open_steps grain spare gen end crc

-- Step of a piece. If the piece programs bytes, they are at the front of the buffer `bytes`.
abbrev pub step_of_piece : FlashOp → List ℕ → Step
step_of_piece p bytes = record {
  erases = p.erases;
  write = record { at = p.at; bytes = if p.erases then replicate p.len 255 else take p.len bytes };
}

-- A piece is bounded: a program has at most 256 bytes, which are at the front of `bytes`, and an erase has at most a sector.
pub record PieceBounds (sector : ℕ) (p : FlashOp) (bytes : List ℕ) : Type 0 where
  pub some : 0 < p.len
  pub programs : p.erases ≡ false → p.len ≤ 256
  pub erases : p.erases ≡ true → p.len ≤ sector
  pub small : p.at < 2 ^ 43
  pub count : length (step_of_piece p bytes).write.bytes ≡ p.len

-- Unit and sector of the flash, from the inputs of its writes.
abbrev pub input_grain : WriteInputs → Grain
input_grain s = grain_of s.unit s.sector

-- Steps of a job with these inputs.
abbrev pub steps_of_job : SlotWrite → WriteInputs → List Step
steps_of_job job s = job_steps job (input_grain s) s.put_end s.held.now s.block.now
