-- Each next operation of a run area is allowed.
use Rattle.std.proofs.Common.{◌≡◌, ◌<◌, ◌+◌, ◌%◌, ℕ, List, length, Option, Some, None, sym, subst, arith}
use Rattle.dfu_boot.specs.declared.install.due.Due.TheVariants.{Refuse, Erase, Program, Start}
use Rattle.dfu_boot.specs.install.Allowed.{ImageByteDiffers, IsInSectorOfLast, DueIsAllowed}
use Rattle.dfu_boot.specs.install.Area.{RangeIsBlank, start_of}
use Rattle.dfu_boot.specs.install.Next.{IsNextDifference, MayProgram, search_start}
use Rattle.dfu_boot.proofs.NextDifference.{next_byte_in_image, next_difference_differs}
use Rattle.dfu_boot.proofs.WholeStarts.{sectors_are_whole_parts, part_start_is_multiple, place_is_before_part_end, part_of_place_ends_by_edge}

-- The sector or piece of the next differing byte differs from the image.
pub part_of_difference_differs : (image run : List ℕ) (part begins at : ℕ) (last : Option ℕ) → 0 < part
    → IsNextDifference image run (search_start image last) at
    → begins ≡ start_of part at → ImageByteDiffers image run begins (begins + part)
part_of_difference_differs image run part begins at last some next is = record {
  at = at;
  after = omega (arith, is);
  before = subst (λ (x : ℕ). at < x + part) (sym is) (place_is_before_part_end part at some);
  inside = next_byte_in_image image run last at next;
  differs = next_difference_differs image run (search_start image last) at next;
}

-- A piece that may be programmed is in the sector of the last operation.
programs_only_in_last_sector : (run : List ℕ) (sector piece : ℕ) (last : Option ℕ) → MayProgram run sector last piece →
    IsInSectorOfLast sector last piece
programs_only_in_last_sector run sector piece None may = may
programs_only_in_last_sector run sector piece (Some last) may = may.1

-- A piece that may be programmed is blank.
pub programmable_piece_is_blank : (run : List ℕ) (sector piece : ℕ) (last : Option ℕ) → MayProgram run sector last piece
    → RangeIsBlank run piece (piece + 256)
programmable_piece_is_blank run sector piece None may = absurd may
programmable_piece_is_blank run sector piece (Some last) may = may.2

pub does_only_allowed : DueIsAllowed
does_only_allowed image run sector last (Refuse refusal) does = _
does_only_allowed image run sector last Start (ready, holds) = (holds, ready.some)
does_only_allowed image run sector last (Erase at) (ready, (d, e)) = (
  subst (λ (x : ℕ). x % sector ≡ 0) (sym e.is) (part_start_is_multiple sector d),
  omega (
    arith,
    e.is,
    part_of_place_ends_by_edge sector d (length run) ready.area.whole
        (omega (arith, ready.fits, next_byte_in_image image run last d e.next)),
  ),
  part_of_difference_differs image run sector at d last ready.area.some e.next e.is,
)
does_only_allowed image run sector last (Program at) (ready, (d, e)) = (
  subst (λ (x : ℕ). x % 256 ≡ 0) (sym e.is) (part_start_is_multiple 256 d),
  omega (
    arith,
    e.is,
    part_of_place_ends_by_edge 256 d (length run) (sectors_are_whole_parts 256 sector (length run) ready.area.pieces ready.area.whole)
        (omega (arith, ready.fits, next_byte_in_image image run last d e.next)),
  ),
  part_of_difference_differs image run 256 at d last (omega arith) e.next e.is,
  programmable_piece_is_blank run sector at last e.may,
  programs_only_in_last_sector run sector at last e.may,
)
