-- Search for the current position among the erases of a range, sector by sector.
use Rattle.std.proofs.Common.{◌≡◌, ◌≢◌, inl, inr, ◌==◌, Bool, true, false, if◌then◌else◌, ℕ, ◌+◌, ◌-◌, ◌%◌, ◌≤◌, ◌<◌, List, [], ◌∷◌, ◌++◌, length, take, drop, replicate, refl, sym, ◌∙◌, ap, subst, arith}
use Rattle.std.proofs.lemmas.Bool.{cases_eq, cond-true, cond-false, ne_eqb, eq-eqb}
use Rattle.std.proofs.lemmas.List.{append_assoc, append-nil, length-replicate, take-replicate, drop-replicate}
use Rattle.std.proofs.Math.Nat.{mod-lt, mod-add-mod, mod_self}
use Rattle.dfu_slots.specs.Medium.{Write}
use Rattle.dfu_slots.specs.Writes.{erase_write, sector_erases}
use Rattle.dfu_slots.proofs.ErasedTo.{no_erase_to_sector_end, first_sector_is_erased_first}
use Rattle.dfu_slots.proofs.Sectors.{edge_sum_is_edge}
use Rattle.dfu_asks.specs.declared.sector.Position.{Position}
use Rattle.dfu_asks.specs.declared.sector.Position.TheVariants as position
use Rattle.dfu_asks.specs.Steps.{Step, step_writes, steps_of_writes, erase_step, program_step, write_anew_steps, write_some_steps}
use Rattle.dfu_asks.specs.Carried.{total, IsPieceOfStep, IsStepPiece}
use Rattle.dfu_asks.specs.Position.{IsPositionInErases, IsPositionInWrite, IsPositionInPlainWrite}
use Rattle.dfu_asks.proofs.Steps.{erases_before_write, step_writes_append, marking_keeps_writes, marking_joins_over_lists}
use Rattle.dfu_asks.proofs.Pieces.{list_totals_add_up, first_piece_is_in_joined, later_piece_is_in_joined}

-- The sectors of the range that begin before `place` are erased; `rest` of the `done` bytes remain after their erases.
pub record SectorsPassed (sector at n done place rest : ℕ) : Type 0 where
  pub front : List Write
  pub pieces : sector_erases sector at n ≡ front ++ sector_erases sector place (at + n - place)
  pub count : total front + rest ≡ done
  pub span : total front + at ≤ place
  pub edge : place % sector ≡ 0
  pub high : place ≤ at + n + sector

module _ (sector at n done : ℕ) (large : 1 < sector) where
  -- If the range begins at a sector edge, the search begins there, with no sector passed.
  search_begins_at_edge : at % sector ≡ 0 → SectorsPassed sector at n done at done
  search_begins_at_edge begins =
      let all : n ≡ at + n - at = omega arith in
      record {
        front = [];
        pieces = ap (λ (k : ℕ). sector_erases sector at k) all;
        count = omega arith;
        span = omega arith;
        edge = begins;
        high = omega arith;
      }

  -- If the range begins within a sector, the search begins at the next sector, with no sector passed.
  search_begins_at_next_sector : at % sector ≢ 0 → SectorsPassed sector at n done (at + (sector - at % sector)) done
  search_begins_at_next_sector inner =
      let d = sector - at % sector in
      let less : at % sector < sector = mod-lt at (omega (arith, large)) in
      let is : at % sector + d ≡ sector = omega (arith, less) in
      let edge : (at + d) % sector ≡ 0 = sym (mod-add-mod at sector d) ∙ ap (λ (k : ℕ). k % sector) is ∙ mod_self sector in
      let rest : n - d ≡ at + n - (at + d) = omega arith in
      record {
        front = [];
        pieces =
            no_erase_to_sector_end sector d at n (omega (arith, large)) (omega (arith, inner)) is ∙ ap
            (λ (k : ℕ). sector_erases sector (at + d) k) rest;
        count = omega arith;
        span = omega arith;
        edge = edge;
        high = omega (arith, is);
      }

  -- The search begins with no sector passed, whether or not the range begins at a sector edge.
  pub search_begins_at_first_sector : (size behind : ℕ) → size ≡ sector → behind ≡ at % sector → (place : ℕ)
      → (behind ≡ 0 → place ≡ at → SectorsPassed sector at n done place done)
      × (behind ≢ 0 → place ≡ at + (size - behind) → SectorsPassed sector at n done place done)
  search_begins_at_first_sector size behind is far place = (
    λ begins there. subst (λ (p : ℕ). SectorsPassed sector at n done p done) (sym there) (search_begins_at_edge (sym far ∙ begins)),
    λ inner there. subst (λ (p : ℕ). SectorsPassed sector at n done p done) (sym (there ∙ (λ i. at + (is i - far i))))
        (search_begins_at_next_sector (λ e. inner (far ∙ e))),
  )

  module _ (place rest : ℕ) (to : SectorsPassed sector at n done place rest) where
    module _ (more : place < at + n) where
      next_passed_sector : sector_erases sector place (at + n - place) ≡ erase_write sector place ∷ sector_erases sector (place + sector)
          (at + n - place - sector)
      next_passed_sector = first_sector_is_erased_first sector place (at + n - place) large to.edge (omega (arith, more))

      erases_split_at_place : sector_erases sector at n ≡ to.front ++ erase_write sector place ∷ sector_erases sector (place + sector)
          (at + n - place - sector)
      erases_split_at_place = to.pieces ∙ ap (λ (ws : List Write). to.front ++ ws) next_passed_sector

      -- A search passes another sector if all bytes of that sector are erased.
      pub passed_one_sector_more : sector ≤ rest → SectorsPassed sector at n done (place + sector) (rest - sector)
      passed_one_sector_more le =
          let first : List Write = erase_write sector place ∷ [] in
          let left : at + n - place - sector ≡ at + n - (place + sector) = omega arith in
          let size : total (to.front ++ first) ≡ total to.front + sector =
          omega (arith, list_totals_add_up to.front first, length-replicate {A = ℕ} sector 255) in
          record {
            front = to.front ++ first;
            pieces = erases_split_at_place
                ∙ ap (λ (k : ℕ). to.front ++ erase_write sector place ∷ sector_erases sector (place + sector) k) left
                ∙ sym (append_assoc to.front first (sector_erases sector (place + sector) (at + n - (place + sector))));
            count = omega (arith, size, to.count, le);
            span = omega (arith, size, to.span);
            edge = edge_sum_is_edge sector place sector (λ s. to.edge) (λ s. mod_self sector) (omega (arith, large));
            high = omega (arith, more);
          }

      -- Within a sector, the next piece erases the rest of that sector.
      part : rest < sector
          → IsPieceOfStep (record { erases = true; write = erase_write sector place }) rest (erase_step (place + rest) (sector - rest))
      part lt =
          let whole = length-replicate {A = ℕ} sector 255 in
          let back = length-replicate {A = ℕ} (sector - rest) 255 in
          let k : rest + length (replicate {A = ℕ} (sector - rest) 255) - rest ≡ sector - rest = omega (arith, back) in
          record {
            kind = refl;
            some = omega (arith, back, lt);
            size = omega (arith, back, whole);
            within = omega (arith, back, whole, lt);
            place = refl;
            bytes_are = sym (ap (λ (j : ℕ). take j (drop rest (replicate sector 255))) k
                ∙ ap (λ (l : List ℕ). take (sector - rest) l) (drop-replicate {X = ℕ} rest sector 255)
                ∙ take-replicate (sector - rest) (sector - rest) 255 (omega arith));
          }

      pub erase_piece_in_sector : rest < sector → IsStepPiece (steps_of_writes true (sector_erases sector at n)) done
          (erase_step (place + rest) (sector - rest))
      erase_piece_in_sector lt =
          let tail = sector_erases sector (place + sector) (at + n - place - sector) in
          let is : steps_of_writes true (sector_erases sector at n) ≡ steps_of_writes true to.front ++ steps_of_writes true
          (erase_write sector place ∷ tail) =
          ap (λ (ws : List Write). steps_of_writes true ws) erases_split_at_place
          ∙ marking_joins_over_lists true to.front (erase_write sector place ∷ tail) in
          subst (λ (ss : List Step). IsStepPiece ss done (erase_step (place + rest) (sector - rest))) (sym is)
          (later_piece_is_in_joined (steps_of_writes true to.front) (steps_of_writes true (erase_write sector place ∷ tail)) done rest
          (erase_step (place + rest) (sector - rest)) (omega (arith, ap total (marking_keeps_writes true to.front), to.count)) (inl (part
          lt)))

    -- A search has passed all erases once it has reached the end of the range.
    pub search_passed_all_erases : at + n ≤ place → (total (sector_erases sector at n) + rest ≡ done) × (done ≤ rest + n + sector)
    search_passed_all_erases past =
        let none : at + n - place ≡ 0 = omega (arith, past) in
        let all : sector_erases sector at n ≡ to.front =
        to.pieces ∙ ap (λ (k : ℕ). to.front ++ sector_erases sector place k) none ∙ append-nil to.front in
        (omega (arith, ap total all, to.count), omega (arith, to.count, to.span, to.high))

-- For a nonempty list of bytes, `write_some` has the same steps as `erasing_write`.
some_bytes_written_anew : (sector at : ℕ) (bytes : List ℕ) → length bytes ≢ 0 → write_some_steps sector at bytes
    ≡ write_anew_steps sector at bytes
some_bytes_written_anew sector at bytes some = cond-false (length bytes == 0) [] (write_anew_steps sector at bytes) (ne_eqb (length bytes)
    0 some)

no_bytes_no_steps : (sector at : ℕ) (bytes : List ℕ) → length bytes ≡ 0 → write_some_steps sector at bytes ≡ []
no_bytes_no_steps sector at bytes none = cond-true (length bytes == 0) [] (write_anew_steps sector at bytes) (eq-eqb (length bytes) 0 none)

-- For at least one byte, `write_some` has the same steps as `erasing_write`.
pub write_some_steps_are_anew : (sector at : ℕ) (bytes : List ℕ) → 0 < length bytes → write_some_steps sector at bytes
    ≡ write_anew_steps sector at bytes
write_some_steps_are_anew sector at bytes some = some_bytes_written_anew sector at bytes (λ e. omega (arith, some, e))

empty_range_erases_nothing : (sector at : ℕ) → total (if sector == 0 then [] else sector_erases sector at 0) ≡ 0
empty_range_erases_nothing sector at = by_test (sector == 0)
  where
    by_test : (b : Bool) → total (if b then [] else []) ≡ 0
    by_test true = refl
    by_test false = refl

module _ (sector at n done rest : ℕ) (count : total (if sector == 0 then [] else sector_erases sector at n) + rest ≡ done)
    (low : done ≤ rest + n + sector) where
  erases_and_rest_are_done : (bytes : List ℕ) → length bytes ≡ n →
      total (step_writes (steps_of_writes true (erases_before_write sector at bytes))) + rest ≡ done
  erases_and_rest_are_done bytes size = omega (
    arith,
    ap total (marking_keeps_writes true (erases_before_write sector at bytes)),
    ap (λ (k : ℕ). total (if sector == 0 then [] else sector_erases sector at k)) size,
    count,
  )

  -- A position in the program after the erases is the same position in the whole write.
  pub plain_position_is_in_write : (r : Position) → IsPositionInPlainWrite n rest r → IsPositionInWrite sector at n done r
  plain_position_is_in_write (position.Erase place len) none = absurd none
  plain_position_is_in_write (position.Program from) (same, lt) = (
    λ bytes p size part.
        let some : length bytes ≢ 0 = λ e. omega (arith, size, lt, e) in
        subst (λ (ss : List Step). IsStepPiece ss done p) (sym (some_bytes_written_anew sector at bytes some))
        (later_piece_is_in_joined (steps_of_writes true (erases_before_write sector at bytes)) (program_step at bytes ∷ []) done rest p
        (erases_and_rest_are_done bytes size)
        (inl (subst (λ (k : ℕ). IsPieceOfStep (program_step at bytes) k p) same part))),
    lt,
    omega (arith, low, same),
  )
  plain_position_is_in_write (position.Behind left) sum = (
    λ bytes size. elim (cases_eq (length bytes) 0) [
      | inl none ↦
          let erased_none : total (if sector == 0 then [] else sector_erases sector at n) ≡ 0 =
          ap (λ (k : ℕ). total (if sector == 0 then [] else sector_erases sector at k)) (sym size ∙ none)
          ∙ empty_range_erases_nothing sector at in
          omega (
            arith,
            ap (λ (ss : List Step). total (step_writes ss)) (no_bytes_no_steps sector at bytes none),
            erased_none,
            count,
            sum,
            size,
            none,
          )
      | inr some ↦
          omega (
            arith,
            ap (λ (ss : List Step). total (step_writes ss)) (some_bytes_written_anew sector at bytes some),
            ap total (step_writes_append (steps_of_writes true (erases_before_write sector at bytes)) (program_step at bytes ∷ [])),
            list_totals_add_up (step_writes (steps_of_writes true (erases_before_write sector at bytes))) (record {
              at = at;
              bytes = bytes;
            } ∷ []),
            erases_and_rest_are_done bytes size,
            sum,
            size,
          )
    ],
    omega (arith, low, sum),
  )

-- A position in an erase of the range is the same position in the whole write.
pub erase_is_in_write : (sector at n done place len : ℕ) → 0 < sector
    → IsPositionInErases sector at n done (position.Erase place len) → IsPositionInWrite sector at n done (position.Erase place len)
erase_is_in_write sector at n done place len some (piece, least, end, small, most) = (
  λ bytes size. elim (cases_eq n 0) [
    | inl none ↦ absurd (subst (λ (k : ℕ). IsStepPiece (steps_of_writes true (sector_erases sector at k)) done (erase_step place len)) none
        piece)
    | inr more ↦
        let is : erases_before_write sector at bytes ≡ sector_erases sector at n =
        cond-false (sector == 0) [] (sector_erases sector at (length bytes)) (ne_eqb sector 0 (λ e. omega (arith, some, e)))
        ∙ ap (λ (k : ℕ). sector_erases sector at k) size in
        subst (λ (ss : List Step). IsStepPiece ss done (erase_step place len)) (sym (some_bytes_written_anew sector at bytes (λ e. more
        (sym size ∙ e))))
        (first_piece_is_in_joined (steps_of_writes true (erases_before_write sector at bytes)) (program_step at bytes ∷ []) done (erase_step
        place len)
        (subst (λ (ws : List Write). IsStepPiece (steps_of_writes true ws) done (erase_step place len)) (sym is) piece))
  ],
  least,
  end,
  small,
  most,
)

-- A position among the erases of a range is the same position in the whole write, unless all erases are done.
pub position_is_in_write : (sector at n done : ℕ) (r : Position) → 0 < sector → IsPositionInErases sector at n done r
    → ((rest : ℕ) → r ≡ position.Behind rest → ⊥) → IsPositionInWrite sector at n done r
position_is_in_write sector at n done (position.Erase place len) some leads other = erase_is_in_write sector at n done place len some leads
position_is_in_write sector at n done (position.Program from) some leads other = absurd leads
position_is_in_write sector at n done (position.Behind rest) some leads other = absurd (other rest refl)

-- On flash with sectors, as many bytes remain after the erases of a range as after the erases of a write to that range.
pub rest_behind_erases_is_same : (sector at n done rest : ℕ) → 0 < sector → total (sector_erases sector at n) + rest ≡ done
    → total (if sector == 0 then [] else sector_erases sector at n) + rest ≡ done
rest_behind_erases_is_same sector at n done rest some count =
    subst (λ (ws : List Write). total ws + rest ≡ done)
    (sym (cond-false (sector == 0) [] (sector_erases sector at n) (ne_eqb sector 0 (λ e. omega (arith, some, e))))) count
