-- Each program lowers the upper bound of the remaining operations by at least one.
use Rattle.std.proofs.Common.{◌≡◌, ◌≢◌, ◌⊎◌, inl, inr, ◌<◌, ◌≤◌, ◌+◌, ◌*◌, ◌%◌, ℕ, suc, zero, List, length, slice_index, Some, sym, ◌∙◌, subst, arith}
use Rattle.std.proofs.lemmas.Bool.{cases_lt}
use Rattle.dfu_boot.specs.install.Allowed.{ImageByteDiffers}
use Rattle.dfu_boot.specs.install.Area.{RangeMatchesImage, RangeIsBlank, start_of}
use Rattle.dfu_boot.specs.install.Next.{IsNotRefused, IsNextDifference, IsProgramDueAt, search_start}
use Rattle.dfu_boot.specs.install.Operations.{OutsideUnchanged}
use Rattle.dfu_boot.proofs.WholeStarts.{sectors_are_whole_parts, part_start_is_multiple, place_is_before_part_end, part_start_not_before_edge, part_ends_by_edge, part_end_is_multiple}
use Rattle.dfu_boot.proofs.RemainingOperations.{IsTidySector, MustBeErased, HasPiecesLeft, CostsAtMost}

-- The next operation programs this piece. The piece is in the sector of the last operation, and not before it. `at` is the first differing
-- byte of the piece, and the bytes from the last operation's offset up to `at` equal the image.
pub record IsProgramOfPiece (image run : List ℕ) (sector last piece at : ℕ) : Type 0 where
  pub ready : IsNotRefused image run sector
  pub after : last ≤ piece
  pub sector_is : start_of sector last ≡ start_of sector piece
  pub is : piece ≡ start_of 256 at
  pub inside : at < length image
  pub from : last ≤ at
  pub same : RangeMatchesImage image run last at
  pub differs : slice_index run at ≢ slice_index image at

-- The next differing byte is not before the last operation's offset, because the piece that contains the byte begins at or after that
-- offset.
difference_not_before_last_op : (image run : List ℕ) (last piece at : ℕ) → IsNextDifference image run (search_start image (Some last)) at
    → piece ≡ start_of 256 at
    → last ≤ piece → (last ≤ at) × RangeMatchesImage image run last at × (at < length image) × (slice_index run at ≢ slice_index image at)
difference_not_before_last_op image run last piece at (inl d) is le =
    let low : last ≤ at = omega (arith, is, le) in
    let same : RangeMatchesImage image run last at = λ i x y z. d.before i (omega (arith, x)) y z in
    (low, same, d.within, d.differs)
difference_not_before_last_op image run last piece at (inr (same, d)) is le =
    absurd (omega (arith, is, le, d.within))

pub program_due_is_of_piece : (image run : List ℕ) (sector last piece at : ℕ) → IsNotRefused image run sector
    → IsProgramDueAt image run sector (Some last) piece at → IsProgramOfPiece image run sector last piece at
program_due_is_of_piece image run sector last piece at ready p =
    let f = difference_not_before_last_op image run last piece at p.next p.is p.may.0 in record {
      ready = ready;
      after = p.may.0;
      sector_is = p.may.1;
      is = p.is;
      from = f.0;
      same = f.1;
      inside = f.2;
      differs = f.3;
    }

-- The piece ends within its sector.
pub piece_ends_in_its_sector : (image run : List ℕ) (sector last piece at : ℕ) → IsProgramOfPiece image run sector last piece at
    → piece + 256 ≤ start_of sector piece + sector
piece_ends_in_its_sector image run sector last piece at p =
    let edge : ℕ = start_of sector piece + sector in
    let whole : edge % sector ≡ 0 = part_end_is_multiple sector piece in
    part_ends_by_edge 256 piece edge (subst (λ (x : ℕ). x % 256 ≡ 0) (sym p.is) (part_start_is_multiple 256 at))
    (sectors_are_whole_parts 256 sector edge p.ready.area.pieces whole) (place_is_before_part_end sector piece p.ready.area.some)

-- A tidy sector stays tidy when its next piece is programmed.
program_keeps_sector_tidy : (image run run' : List ℕ) (sector last piece at : ℕ) → IsProgramOfPiece image run sector last piece at
    → OutsideUnchanged run run' piece (piece + 256) → RangeMatchesImage image run' piece (piece + 256) → IsTidySector image run sector last
    → IsTidySector image run' sector piece
program_keeps_sector_tidy image run run' sector last piece at p leaves same tidy = record {
  whole = subst (λ (x : ℕ). x % 256 ≡ 0) (sym p.is) (part_start_is_multiple 256 at);
  done = done;
  here = inl same;
  blank = blank;
}
  where
    done : RangeMatchesImage image run' (start_of sector piece) piece
    done i low high inside = leaves.others i (inl high) ∙ in_either_order (cases_lt i last)
      where
        in_either_order : (i < last) ⊎ (last ≤ i) → slice_index run i ≡ slice_index image i
        in_either_order (inl less) = tidy.done i (omega (arith, low, p.sector_is)) less inside
        in_either_order (inr le) = p.same i le (omega (arith, high, p.is)) inside

    blank : RangeIsBlank run' (piece + 256) (start_of sector piece + sector)
    blank i low high =
        leaves.others i (inr low) ∙ tidy.blank i (omega (arith, low, p.after)) (omega (arith, high, p.sector_is))

-- A program adds no difference between the run area and the image.
difference_was_before_program : (image run run' : List ℕ) (sector piece begins : ℕ) → OutsideUnchanged run run' piece (piece + 256)
    → RangeMatchesImage image run' piece (piece + 256) → ImageByteDiffers image run' begins (begins + sector)
    → ImageByteDiffers image run begins (begins + sector)
difference_was_before_program image run run' sector piece begins leaves same off = record {
  at = off.at;
  after = off.after;
  before = off.before;
  inside = off.inside;
  differs = λ e. off.differs (in_either_order (cases_lt off.at piece) e);
}
  where
    in_either_order : (off.at < piece) ⊎ (piece ≤ off.at) → slice_index run off.at ≡ slice_index image off.at
        → slice_index run' off.at ≡ slice_index image off.at
    in_either_order (inl less) e = leaves.others off.at (inl less) ∙ e
    in_either_order (inr le) e = difference_by_piece_end (cases_lt off.at (piece + 256))
      where
        difference_by_piece_end : (off.at < piece + 256) ⊎ (piece + 256 ≤ off.at) → slice_index run' off.at ≡ slice_index image off.at
        difference_by_piece_end (inl less) = same off.at le less off.inside
        difference_by_piece_end (inr beyond) = leaves.others off.at (inr beyond) ∙ e

-- If a sector must be erased after a program, the sector already had to be erased before the program.
program_adds_no_erase : (image run run' : List ℕ) (sector last piece at begins : ℕ) → IsProgramOfPiece image run sector last piece at
    → OutsideUnchanged run run' piece (piece + 256) → RangeMatchesImage image run' piece (piece + 256)
    → MustBeErased image run' sector (Some piece) begins → MustBeErased image run sector (Some last) begins
program_adds_no_erase image run run' sector last piece at begins p leaves same to_erase = record {
  whole = to_erase.whole;
  off = difference_was_before_program image run run' sector piece begins leaves same to_erase.off;
  is_untidy = λ tidy. to_erase.is_untidy (
    sym p.sector_is ∙ tidy.0,
    program_keeps_sector_tidy image run run' sector last piece at p leaves
        same tidy.1,
  );
}

-- The remaining pieces, including this one, reach to the end of the sector.
pieces_left_reach_sector_end : (image run : List ℕ) (sector last piece at left : ℕ) → IsProgramOfPiece image run sector last piece at
    → HasPiecesLeft image run sector (Some last) left → start_of sector piece + sector ≤ piece + 256 * left
pieces_left_reach_sector_end image run sector last piece at left p (inl most) = omega (arith, most, p.sector_is, p.after)
pieces_left_reach_sector_end image run sector last piece at left p (inr (whole, same, most)) =
    in_either_order (cases_lt at (last + 256))
  where
    in_either_order : (at < last + 256) ⊎ (last + 256 ≤ at) → start_of sector piece + sector ≤ piece + 256 * left
    in_either_order (inl less) = absurd (p.differs (same at p.from less p.inside))
    in_either_order (inr le) =
        let later : last + 256 ≤ start_of 256 at = part_start_not_before_edge 256 (last + 256) at (omega arith) (omega (arith, whole)) le in
        omega (arith, most, later, p.sector_is, p.is)

-- A program lowers the upper bound of the remaining operations by at least one.
pub program_costs_one_piece : (image run run' : List ℕ) (sector k last piece at most : ℕ) → IsProgramOfPiece image run sector last piece at
    → OutsideUnchanged run run' piece (piece + 256) → RangeMatchesImage image run' piece (piece + 256)
    → CostsAtMost image run sector k (Some last) most
    → (least : ℕ) × ((suc least ≤ most) × CostsAtMost image run' sector k (Some piece) least)
program_costs_one_piece image run run' sector k last piece at most p leaves same costs =
    pieces_left_bound_cost costs.left (pieces_left_reach_sector_end image run sector last piece at costs.left p costs.has) costs.enough
  where
    pieces_left_bound_cost : (left : ℕ) → start_of sector piece + sector ≤ piece + 256 * left → length costs.sectors * (1 + k) + left ≤ most
        → (least : ℕ) × ((suc least ≤ most) × CostsAtMost image run' sector k (Some piece) least)
    pieces_left_bound_cost zero reaches enough = absurd (omega (arith, reaches, piece_ends_in_its_sector image run sector last piece at p))
    pieces_left_bound_cost (suc left) reaches enough = (
      length costs.sectors * (1 + k) + left,
      (
        omega (arith, enough),
        record {
          sectors = costs.sectors;
          left = left;
          has_each_to_erase = λ i x. costs.has_each_to_erase i (program_adds_no_erase image run run' sector last piece at i p leaves same
              x);
          has = inr (subst (λ (x : ℕ). x % 256 ≡ 0) (sym p.is) (part_start_is_multiple 256 at), same, reaches);
          enough = omega arith;
        },
      ),
    )
