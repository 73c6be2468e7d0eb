-- Lemmas about writes of bytes in pieces, one piece after the other.
use Rattle.std.proofs.Common.{◌≡◌, inl, inr, ℕ, zero, suc, ◌+◌, ◌≤◌, ◌<◌, List, [], ◌∷◌, ◌++◌, length, take, drop, refl, sym, ◌∙◌, ap, subst, arith, length-drop}
use Rattle.std.proofs.lemmas.List.{length-take, drop_all, append_assoc, append-nil}
use Rattle.std.proofs.lemmas.Bool.{cases_lt}
use Rattle.dfu_slots.specs.declared.fault.WriteFault.{WriteFault}
use Rattle.dfu_slots.specs.Medium.{MediumState, Write, AllWrites, BrokenWrites}
use Rattle.dfu_slots.specs.Writes.{erasing_write, piece_writes}
use Rattle.dfu_slots.proofs.Series.{AllWritesInside, two_lists_work_as_one, first_part_may_break, second_part_may_break, appended_writes_inside}
use Rattle.dfu_slots.proofs.Sectors.{IsSectorEdge}
use Rattle.dfu_slots.proofs.WritesWithErases.{write_with_erases_inside}

-- The empty list has no pieces.
pub no_bytes_no_pieces : (sector n at : ℕ) → piece_writes sector n at [] ≡ []
no_bytes_no_pieces sector zero at = refl
no_bytes_no_pieces sector (suc n) at = refl

-- The writes of all pieces are those of the first piece followed by those of the rest.
pieces_are_first_and_rest : (sector n at : ℕ) (bytes : List ℕ) → 0 < length bytes → length bytes ≤ n
    → (m : ℕ) × (length (drop 4096 bytes) ≤ m)
    × (piece_writes sector n at bytes ≡ erasing_write sector at (take 4096 bytes) ++ piece_writes sector m (at + 4096) (drop 4096 bytes))
pieces_are_first_and_rest sector n at [] some le = absurd (omega (arith, some))
pieces_are_first_and_rest sector zero at (b ∷ bs) some le = absurd (omega (arith, le))
pieces_are_first_and_rest sector (suc m) at (b ∷ bs) some le = (m, omega (arith, le, length-drop 4096 (b ∷ bs)), refl)

-- The pieces before `place` are written, and those of `rest`, which begin at `place`, are not.
pub record PiecesWrittenTo (old mid : MediumState) (sector n at : ℕ) (bytes : List ℕ) (place : ℕ) (rest : List ℕ) : Type 0 where
  pub front : List Write
  pub left : ℕ
  pub all : AllWrites old front mid
  pub enough : length rest ≤ left
  pub pieces : piece_writes sector n at bytes ≡ front ++ piece_writes sector left place rest

-- Before the first write no piece is written.
pub no_piece_written : (s : MediumState) (sector n at : ℕ) (bytes : List ℕ) → length bytes ≤ n →
    PiecesWrittenTo s s sector n at bytes at bytes
no_piece_written s sector n at bytes le = record { front = []; left = n; all = refl; enough = le; pieces = refl }

module _ {old mid : MediumState} {sector n at : ℕ} {bytes : List ℕ} {place : ℕ} {rest : List ℕ}
    (w : PiecesWrittenTo old mid sector n at bytes place rest) (some : 0 < length rest) (now : MediumState) where
  -- After the next piece is written, the pieces up to its end are written.
  pub next_piece_written : AllWrites mid (erasing_write sector place (take 4096 rest)) now
      → PiecesWrittenTo old now sector n at bytes (place + 4096) (drop 4096 rest)
  next_piece_written came =
      let step = pieces_are_first_and_rest sector w.left place rest some w.enough in
      let first : List Write = erasing_write sector place (take 4096 rest) in
      record {
        front = w.front ++ first;
        left = step.0;
        all = two_lists_work_as_one w.front first old mid now w.all came;
        enough = step.1;
        pieces = w.pieces ∙ ap (λ (ws : List Write). w.front ++ ws) step.2
            ∙ sym (append_assoc w.front first (piece_writes sector step.0 (place + 4096) (drop 4096 rest)));
      }

  -- If the write of the next piece fails, its fault interrupts the writes of all pieces.
  pub pieces_broken_at_next : (fault : WriteFault) → BrokenWrites fault mid (erasing_write sector place (take 4096 rest)) now
      → BrokenWrites fault old (piece_writes sector n at bytes) now
  pieces_broken_at_next fault broken =
      let step = pieces_are_first_and_rest sector w.left place rest some w.enough in
      subst (λ (ws : List Write). BrokenWrites fault old ws now) (sym w.pieces)
      (second_part_may_break fault w.front (piece_writes sector w.left place rest) old mid now w.all
      (subst (λ (ws : List Write). BrokenWrites fault mid ws now) (sym step.2)
      (first_part_may_break fault (erasing_write sector place (take 4096 rest)) (piece_writes sector step.0 (place + 4096) (drop 4096 rest))
      mid now broken)))

-- If no byte is left, all pieces are written.
pub all_pieces_written : {old mid : MediumState} {sector n at : ℕ} {bytes : List ℕ} {place : ℕ} {rest : List ℕ}
    → PiecesWrittenTo old mid sector n at bytes place rest → rest ≡ [] → AllWrites old (piece_writes sector n at bytes) mid
all_pieces_written {old} {mid} {sector} {n} {at} {bytes} {place} {rest} w none =
    subst (λ (ws : List Write). AllWrites old ws mid)
    (sym (w.pieces ∙ ap (λ (l : List ℕ). w.front ++ piece_writes sector w.left place l) none
    ∙ ap (λ (ws : List Write). w.front ++ ws) (no_bytes_no_pieces sector w.left place) ∙ append-nil w.front)) w.all

-- The writes of the pieces lie in every range that contains the bytes and ends at a sector edge.
pub piece_writes_lie_inside : (sector n from to at : ℕ) (bytes : List ℕ) → IsSectorEdge sector to → from ≤ at → at + length bytes ≤ to
    → AllWritesInside from to (piece_writes sector n at bytes)
piece_writes_lie_inside sector zero from to at bytes edge low high = tt
piece_writes_lie_inside sector (suc n) from to at [] edge low high = tt
piece_writes_lie_inside sector (suc n) from to at (b ∷ bs) edge low high =
    appended_writes_inside from to (erasing_write sector at (take 4096 (b ∷ bs))) (piece_writes sector n (at + 4096) (drop 4096 (b ∷ bs)))
    (write_with_erases_inside sector from to at (take 4096 (b ∷ bs)) edge low (omega (arith, high, length-take 4096 (b ∷ bs))))
    (elim (cases_lt (length (b ∷ bs)) 4096) [
      | inl short ↦
          subst (λ (l : List ℕ). AllWritesInside from to (piece_writes sector n (at + 4096) l)) (sym (drop_all 4096 (b ∷ bs) (omega arith)))
          (subst (AllWritesInside from to) (sym (no_bytes_no_pieces sector n (at + 4096))) tt)
      | inr long ↦
          piece_writes_lie_inside sector n from to (at + 4096) (drop 4096 (b ∷ bs)) edge (omega (arith, low))
          (omega (arith, high, length-drop 4096 (b ∷ bs)))
    ])
