-- The steps of a job contain exactly the writes of the job.
use Rattle.std.proofs.Common.{◌≡◌, ◌==◌, Bool, true, false, if◌then◌else◌, ℕ, ◌+◌, List, [], ◌∷◌, ◌++◌, length, take, drop, refl, ◌∙◌, ap}
use Rattle.dfu_slots.specs.Units.{Grain, gate_size, gate_room, whole_part, filled_units}
use Rattle.dfu_slots.specs.Medium.{Write}
use Rattle.dfu_slots.specs.Layout.{OPEN, gate_unit, header_unit}
use Rattle.dfu_slots.specs.Writes.{sector_erases, closed_gate, erasing_write, write_some, head_write_size, put_writes, open_writes}
use Rattle.dfu_asks.specs.declared.pending_writes.SlotWrite.{SlotWrite}
use Rattle.dfu_asks.specs.declared.pending_writes.SlotWrite.TheVariants as slot_write
use Rattle.dfu_asks.specs.Steps.{Step, step_writes, steps_of_writes, program_step, write_anew_steps, write_some_steps, put_steps, open_steps}
use Rattle.dfu_asks.specs.Jobs.{held_bytes_place, job_writes, job_steps}

-- The writes of two joined lists of steps are those of the first, followed by those of the second.
pub step_writes_append : (xs ys : List Step) → step_writes (xs ++ ys) ≡ step_writes xs ++ step_writes ys
step_writes_append [] ys = refl
step_writes_append (x ∷ xs) ys = ap (λ (ws : List Write). x.write ∷ ws) (step_writes_append xs ys)

-- Marking writes as erases or programs doesn't change the writes.
pub marking_keeps_writes : (b : Bool) (ws : List Write) → step_writes (steps_of_writes b ws) ≡ ws
marking_keeps_writes b [] = refl
marking_keeps_writes b (w ∷ ws) = ap (λ (vs : List Write). w ∷ vs) (marking_keeps_writes b ws)

-- Marking two joined lists of writes equals joining the two marked lists.
pub marking_joins_over_lists : (b : Bool) (xs ys : List Write) → steps_of_writes b (xs ++ ys) ≡ steps_of_writes b xs ++ steps_of_writes b ys
marking_joins_over_lists b [] ys = refl
marking_joins_over_lists b (x ∷ xs) ys = ap (λ (ss : List Step). record { erases = b; write = x } ∷ ss) (marking_joins_over_lists b xs ys)

-- Erases that `erasing_write` makes before it writes the bytes at an offset; none without sectors.
abbrev pub erases_before_write : ℕ → ℕ → List ℕ → List Write
erases_before_write sector at bytes = if sector == 0 then [] else sector_erases sector at (length bytes)

-- The steps of a write with its erases contain exactly its writes.
pub anew_steps_are_writes : (sector at : ℕ) (bytes : List ℕ)
    → step_writes (write_anew_steps sector at bytes) ≡ erasing_write sector at bytes
anew_steps_are_writes sector at bytes =
    step_writes_append (steps_of_writes true (erases_before_write sector at bytes)) (program_step at bytes ∷ [])
    ∙ ap (λ (ws : List Write). ws ++ record { at = at; bytes = bytes } ∷ []) (marking_keeps_writes true (erases_before_write sector at
    bytes))

conditional_step_writes : (b : Bool) (ss : List Step) (ws : List Write) → step_writes ss ≡ ws
    → step_writes (if b then [] else ss) ≡ (if b then [] else ws)
conditional_step_writes true ss ws same = refl
conditional_step_writes false ss ws same = same

-- The steps of `write_some` contain exactly its writes.
pub some_steps_are_writes : (sector at : ℕ) (bytes : List ℕ) → step_writes (write_some_steps sector at bytes) ≡ write_some sector at bytes
some_steps_are_writes sector at bytes =
    conditional_step_writes (length bytes == 0) (write_anew_steps sector at bytes) (erasing_write sector at bytes) (anew_steps_are_writes
    sector at bytes)

-- The steps of a `put` contain exactly its writes.
put_steps_are_writes : (w : Grain) (at : ℕ) (held block : List ℕ) → step_writes (put_steps w at held block) ≡ put_writes w at held block
put_steps_are_writes w at held block =
    let all = held ++ block in
    let head = head_write_size w.unit held block in
    let back = drop head (take (whole_part w.unit (length all)) all) in
    step_writes_append (write_some_steps w.sector at (take head all)) (write_some_steps w.sector (at + head) back)
    ∙ (λ i. some_steps_are_writes w.sector at (take head all) i ++ some_steps_are_writes w.sector (at + head) back i)

-- The steps that open a slot contain exactly the writes that open it.
pub open_steps_are_writes : (w : Grain) (at gen len crc : ℕ) → step_writes (open_steps w at gen len crc) ≡ open_writes w at gen len crc
open_steps_are_writes w at gen len crc =
    let header = header_unit (gate_size w.unit) gen len crc in
    let gate = gate_unit (gate_size w.unit) OPEN in
    step_writes_append (write_anew_steps w.sector (at + gate_room w) header) (write_anew_steps w.sector at gate)
    ∙ (λ i. anew_steps_are_writes w.sector (at + gate_room w) header i ++ anew_steps_are_writes w.sector at gate i)

-- The steps of a job contain exactly its writes.
pub job_steps_are_writes : (j : SlotWrite) (w : Grain) (end : ℕ) (held block : List ℕ)
    → step_writes (job_steps j w end held block) ≡ job_writes j w end held block
job_steps_are_writes (slot_write.Block spare true) w end held block =
    ap (λ (ws : List Write). record { at = spare; bytes = closed_gate w } ∷ ws) (put_steps_are_writes w (held_bytes_place w spare end held)
    held block)
job_steps_are_writes (slot_write.Block spare false) w end held block = put_steps_are_writes w (held_bytes_place w spare end held) held block
job_steps_are_writes (slot_write.Commit spare gen crc) w end held block =
    step_writes_append (write_some_steps w.sector (held_bytes_place w spare end held) (filled_units w.unit held)) (open_steps w spare gen
    end crc)
    ∙ (λ i. some_steps_are_writes w.sector (held_bytes_place w spare end held) (filled_units w.unit held) i
    ++ open_steps_are_writes w spare gen end crc i)
