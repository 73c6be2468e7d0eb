-- Pieces that a search cuts out of the bytes in memory.
use Rattle.std.proofs.Common.{◌≡◌, ◌==◌, Bool, true, false, if◌then◌else◌, ℕ, ◌+◌, ◌-◌, ◌^◌, ◌≤◌, ◌<◌, min, List, [], ◌∷◌, ◌++◌, length, take, drop, replicate, slice_range, refl, sym, ◌∙◌, ap, subst, arith, length-append}
use Rattle.std.proofs.lemmas.Bool.{eq-eqb}
use Rattle.std.proofs.lemmas.List.{length-take-le, length-drop, length-replicate}
use Rattle.dfu_slots.specs.Units.{Grain, gate_size}
use Rattle.dfu_slots.specs.Layout.{gate_unit}
use Rattle.dfu_slots.specs.Writes.{sector_erases}
use Rattle.dfu_slots.proofs.Ranges.{range_within_has_its_length}
use Rattle.dfu_asks.specs.declared.pending_writes.WriteInputs.{WriteInputs}
use Rattle.dfu_asks.specs.declared.pending_writes.SlotWrite.{SlotWrite}
use Rattle.dfu_asks.specs.declared.cut.Cut.{Cut}
use Rattle.dfu_asks.specs.Steps.{Step, step_writes, steps_of_writes, program_step, write_anew_steps, close_step}
use Rattle.dfu_asks.specs.Jobs.{step_of_piece, PieceBounds, steps_of_job}
use Rattle.dfu_asks.specs.declared.formatting.Formatting.{Formatting}
use Rattle.dfu_asks.specs.declared.pending_writes.PendingWrites.{PendingWrites}
use Rattle.dfu_asks.specs.Lent.{LentDevice}
use Rattle.dfu_asks.specs.Asks.{steps_in}
use Rattle.dfu_asks.specs.Phases.{steps_of_part}
use Rattle.dfu_asks.specs.Cuts.{source_bytes, zero_padded_source, step_of_cut, IsFoundPiece}
use Rattle.dfu_asks.specs.Carried.{total, IsPieceOfStep, IsStepPiece}
use Rattle.dfu_asks.proofs.Pieces.{prefix_range_is_list_range, rest_range_is_shifted_range}
use Rattle.dfu_asks.proofs.JobPieces.{close_programs_if_no_sectors}

-- A step made from a piece of n bytes has n bytes.
step_has_piece_length : (b : Bool) (n : ℕ) (ys : List ℕ) → (b ≡ false → n ≤ length ys) →
    length (if b then replicate n 255 else take n ys) ≡ n
step_has_piece_length true n ys within = length-replicate n 255
step_has_piece_length false n ys within = length-take-le n ys (within refl)

-- The source of a cut, padded with zeros, holds all bytes that the piece programs.
cut_lies_in_source : (sector : ℕ) (c : Cut) → IsFoundPiece sector c → c.piece.erases ≡ false
    → c.piece.len ≤ length (drop c.from (zero_padded_source c.source c.inputs c.front))
cut_lies_in_source sector c is e = omega (
  arith,
  length-drop c.from (zero_padded_source c.source c.inputs c.front),
  length-append (source_bytes c.source c.inputs c.front) (replicate 256 0),
  length-replicate {A = ℕ} 256 0,
  is.within e,
)

-- The step of a cut has as many bytes as the cut's piece.
pub cut_step_has_piece_size : (sector : ℕ) (c : Cut) → IsFoundPiece sector c → length (step_of_cut c).write.bytes ≡ c.piece.len
cut_step_has_piece_size sector c is =
    step_has_piece_length c.piece.erases c.piece.len (drop c.from (zero_padded_source c.source c.inputs c.front)) (cut_lies_in_source sector
    c is)

-- The bytes of a step can be taken from a buffer whose front contains the bytes that the step programs. An erase needs no buffer.
buffer_gives_step_bytes : (b : Bool) (n : ℕ) (out ys all : List ℕ) → all ≡ (if b then replicate n 255 else take n ys) → (b ≡ false →
    take n out ≡ all)
    → (if b then replicate n 255 else take n out) ≡ (if b then replicate n 255 else take n ys)
buffer_gives_step_bytes true n out ys all is h = refl
buffer_gives_step_bytes false n out ys all is h = h refl ∙ is

-- A piece, and a buffer whose front contains the bytes that the piece programs, determine the step of the cut.
pub filled_buffer_is_step : (c : Cut) (out all : List ℕ) → all ≡ (step_of_cut c).write.bytes → (c.piece.erases ≡ false →
    take c.piece.len out ≡ all)
    → step_of_piece c.piece out ≡ step_of_cut c
filled_buffer_is_step c out all is h =
    let bytes = buffer_gives_step_bytes c.piece.erases c.piece.len out (drop c.from (zero_padded_source c.source c.inputs c.front)) all is h
    in
    λ i. record { erases = c.piece.erases; write = record { at = c.piece.at; bytes = bytes i } }

-- A found piece whose bytes are in a buffer has at most 256 bytes to program, or at most a sector to erase.
pub found_cut_has_piece_bounds : (sector : ℕ) (c : Cut) (out : List ℕ) → IsFoundPiece sector c → step_of_piece c.piece out ≡ step_of_cut c
    → PieceBounds sector c.piece out
found_cut_has_piece_bounds sector c out is same = record {
  some = is.some;
  programs = is.programs;
  erases = is.erases;
  small = is.small;
  count = ap (λ (s : Step). length s.write.bytes) same ∙ cut_step_has_piece_size sector c is;
}

-- If a write is a range of a source, its next piece is cut out of that source.
pub next_piece_is_cut_of_source : (all : List ℕ) (at skip len from n : ℕ) → from < len → n ≡ min (len - from) 256 → skip + len ≤ length all
    → IsPieceOfStep (program_step at (slice_range all skip (skip + len))) from (program_step (at + from) (take n (drop (skip + from) all)))
next_piece_is_cut_of_source all at skip len from n lt size within =
    let bytes = slice_range all skip (skip + len) in
    let mine = take n (drop (skip + from) all) in
    let k : skip + len - skip ≡ len = omega arith in
    let is : bytes ≡ take len (drop skip all) = ap (λ (j : ℕ). take j (drop skip all)) k in
    let count = range_within_has_its_length all skip len within in
    let own : length mine ≡ n =
    length-take-le n (drop (skip + from) all) (omega (arith, within, lt, size, length-drop (skip + from) all)) in
    let same : n ≡ skip + from + length mine - (skip + from) = omega (arith, own) in
    record {
      kind = refl;
      some = omega (arith, own, size, lt);
      size = omega (arith, own, size, count);
      within = omega (arith, own, size, count, lt);
      place = refl;
      bytes_are = ap (λ (j : ℕ). take j (drop (skip + from) all)) same
          ∙ sym (rest_range_is_shifted_range all skip from (length mine))
          ∙ sym (prefix_range_is_list_range (drop skip all) len from (from + length mine) (omega (arith, own, size, lt)))
          ∙ ap (λ (l : List ℕ). slice_range l from (from + length mine)) (sym is);
    }

-- On flash without sectors, closing a gate programs one gate unit.
pub gate_is_written_without_sectors : (w : Grain) (at : ℕ) → w.sector ≡ 0
    → write_anew_steps w.sector at (gate_unit (gate_size w.unit) 0) ≡ close_step w at ∷ []
gate_is_written_without_sectors w at none =
    let e : (w.sector == 0) ≡ true = eq-eqb w.sector 0 none in
    let unit = gate_unit (gate_size w.unit) 0 in
    (λ i. steps_of_writes true (if e i then [] else sector_erases w.sector at (length unit)) ++ program_step at unit ∷ [])
    ∙ ap (λ (s : Step). s ∷ []) (sym (close_programs_if_no_sectors w at none))

-- Consequences of a search in the steps `ss`.
module _ (job : SlotWrite) (s : WriteInputs) (ss : List Step) (steps : steps_of_job job s ≡ ss) (done : ℕ) (first : Cut)
    (inputs : first.inputs ≡ s) (rest : first.rest ≡ done) where
  -- The inputs of the search give the steps of the job.
  search_steps_are_job_steps : steps_of_job job first.inputs ≡ ss
  search_steps_are_job_steps = ap (λ (x : WriteInputs). steps_of_job job x) inputs ∙ steps

  -- A piece that the search found is a piece of `ss`.
  found_piece_is_in_steps : (p : Step) → IsStepPiece (steps_of_job job first.inputs) first.rest p → IsStepPiece ss done p
  found_piece_is_in_steps p piece =
      subst (λ (n : ℕ). IsStepPiece ss n p) rest (subst (λ (xs : List Step). IsStepPiece xs first.rest p) search_steps_are_job_steps piece)

  -- `ss` has no bytes left if the search found no piece.
  pub none_left_in_steps : total (step_writes (steps_of_job job first.inputs)) ≤ first.rest → total (step_writes ss) ≤ done
  none_left_in_steps le = omega (arith, le, rest, ap (λ (xs : List Step). total (step_writes xs)) search_steps_are_job_steps)

-- A piece that the search found is a piece of the device's pending writes.
pub found_piece_is_in_work : (a : LentDevice) (v : PendingWrites) (s : WriteInputs) → ((w : PendingWrites) → steps_of_job w.job s
    ≡ steps_in a w)
    → (first : Cut) → first.inputs ≡ s → first.rest ≡ v.done → (p : Step) → IsStepPiece (steps_of_job v.job first.inputs) first.rest p
    → IsStepPiece (steps_in a v) v.done p
found_piece_is_in_work a v s steps first inputs rest p found = found_piece_is_in_steps v.job s (steps_in a v) (steps v) v.done first inputs
    rest p found

-- Consequences of a search in one part of a format.
module _ (f : Formatting) (now size : ℕ) (same : now ≡ size) (image : List ℕ) (s : WriteInputs) (block : s.block.now ≡ image) (first : Cut)
    (inputs : first.inputs ≡ s) (rest : first.rest ≡ f.done) where
  searched_image_is_image : first.inputs.block.now ≡ image
  searched_image_is_image = ap (λ (x : WriteInputs). x.block.now) inputs ∙ block

  -- A piece that the search found with its own inputs is the next piece of the format's current part.
  pub found_piece_is_in_part : (p : Step) → IsStepPiece (steps_of_part f now first.inputs.block.now) first.rest p
      → IsStepPiece (steps_of_part f size image) f.done p
  found_piece_is_in_part p piece =
      subst (λ (n : ℕ). IsStepPiece (steps_of_part f n image) f.done p) same
      (subst (λ (n : ℕ). IsStepPiece (steps_of_part f now image) n p) rest
      (subst (λ (l : List ℕ). IsStepPiece (steps_of_part f now l) first.rest p) searched_image_is_image piece))

  -- The current part has no bytes left if the search found no piece.
  pub none_left_in_part : length image ≤ 2 ^ 24
      → (length first.inputs.block.now ≤ 2 ^ 24 → total (step_writes (steps_of_part f now first.inputs.block.now)) ≤ first.rest)
      → total (step_writes (steps_of_part f size image)) ≤ f.done
  none_left_in_part small none = omega (
    arith,
    none (omega (arith, ap length searched_image_is_image, small)),
    rest,
    ap (λ (l : List ℕ). total (step_writes (steps_of_part f now l))) searched_image_is_image,
    ap (λ (n : ℕ). total (step_writes (steps_of_part f n image))) same,
  )
