-- Each erase lowers the upper bound of the remaining operations by at least one.
use Rattle.std.proofs.Common.{◌≡◌, ◌≢◌, ◌⊎◌, inl, inr, ◌<◌, ◌≤◌, ◌+◌, ◌*◌, ◌%◌, ℕ, suc, List, length, slice_index, Option, Some, None, sym, ◌∙◌, ap, subst, arith}
use Rattle.std.proofs.lemmas.Bool.{cases_lt}
use Rattle.std.proofs.Math.Nat.{suc-mul}
use Rattle.dfu_boot.specs.install.Allowed.{ImageByteDiffers}
use Rattle.dfu_boot.specs.install.Area.{RangeMatchesImage, RangeIsBlank, start_of}
use Rattle.dfu_boot.specs.install.Next.{IsNotRefused, IsNextDifference, MayProgram, IsEraseDueAt, search_start}
use Rattle.dfu_boot.specs.install.Operations.{OutsideUnchanged}
use Rattle.dfu_boot.proofs.WholeStarts.{sectors_are_whole_parts, part_start_is_multiple, place_is_before_part_end, part_of_place_ends_by_edge, part_start_not_before_edge, place_in_part_has_its_start, sectors_do_not_overlap, part_ends_by_edge, part_end_is_multiple, multiple_begins_its_part}
use Rattle.dfu_boot.proofs.Allowing.{part_of_difference_differs}
use Rattle.dfu_boot.proofs.Members.{member_can_be_taken_away}
use Rattle.dfu_boot.proofs.NextDifference.{next_byte_in_image, next_difference_differs}
use Rattle.dfu_boot.proofs.RemainingOperations.{IsTidySector, WasLeftTidy, MustBeErased, CostsAtMost}

-- If a byte of a tidy sector differs from the image, the piece that contains the byte may be programmed.
tidy_difference_is_programmed : (image run : List ℕ) (sector last at : ℕ) → IsNotRefused image run sector →
    IsTidySector image run sector last
    → at < length image → slice_index run at ≢ slice_index image at → start_of sector last ≤ at → at < start_of sector last + sector
    → MayProgram run sector (Some last) (start_of 256 at)
tidy_difference_is_programmed image run sector last at ready tidy inside differs low high =
    in_either_order (cases_lt at last)
  where
    piece : ℕ
    piece = start_of 256 at

    in_either_order : (at < last) ⊎ (last ≤ at) → MayProgram run sector (Some last) (start_of 256 at)
    in_either_order (inl less) = absurd (differs (tidy.done at low less inside))
    in_either_order (inr le) = (after, sym piece_in_same_sector, blank_piece_by_place (cases_lt at (last + 256)))
      where
        after : last ≤ start_of 256 at
        after = part_start_not_before_edge 256 last at (omega arith) tidy.whole le

        ends : start_of 256 at + 256 ≤ start_of sector last + sector
        ends = part_of_place_ends_by_edge 256 at (start_of sector last + sector)
            (sectors_are_whole_parts 256 sector (start_of sector last + sector) ready.area.pieces (part_end_is_multiple sector last)) high

        piece_in_same_sector : start_of sector (start_of 256 at) ≡ start_of sector last
        piece_in_same_sector = place_in_part_has_its_start sector (start_of sector last) (start_of 256 at) ready.area.some
            (part_start_is_multiple sector last)
            (omega (arith, after)) (omega (arith, ends))

        blank_piece_by_place : (at < last + 256) ⊎ (last + 256 ≤ at) → RangeIsBlank run (start_of 256 at) (start_of 256 at + 256)
        blank_piece_by_place (inl less) = blank_piece_by_content tidy.here
          where
            is_last : start_of 256 at ≡ last
            is_last = place_in_part_has_its_start 256 last at (omega arith) tidy.whole le less

            blank_piece_by_content : RangeMatchesImage image run last (last + 256) ⊎ RangeIsBlank run last (last + 256)
                → RangeIsBlank run (start_of 256 at) (start_of 256 at + 256)
            blank_piece_by_content (inl same) = absurd (differs (same at le less inside))
            blank_piece_by_content (inr blank) = λ i x y. blank i (omega (arith, x, is_last)) (omega (arith, y, is_last))
        blank_piece_by_place (inr beyond) = λ i x y. tidy.blank i
            (omega (arith, x, part_start_not_before_edge 256 (last + 256) at (omega arith) (omega (arith, tidy.whole)) beyond)) (omega
            (arith, y, ends))

-- If the next operation erases a sector, the last operation did not leave the sector tidy.
erased_sector_is_untidy : (image run : List ℕ) (sector begins at : ℕ) (last : Option ℕ) → IsNotRefused image run sector
    → IsEraseDueAt image run sector last begins at → ¬ WasLeftTidy image run sector last begins
erased_sector_is_untidy image run sector begins at None ready e tidy = tidy
erased_sector_is_untidy image run sector begins at (Some last) ready e (is, tidy) =
    e.may_not_program (tidy_difference_is_programmed image run sector last at ready tidy (next_byte_in_image image run (Some last) at
    e.next)
    (next_difference_differs image run (search_start image (Some last)) at e.next) (omega (arith, is, e.is))
    (subst (λ (x : ℕ). at < x + sector) (sym e.is ∙ sym is) (place_is_before_part_end sector at ready.area.some)))

-- If the next operation erases a sector, the sector must be erased (`MustBeErased`).
due_sector_must_be_erased : (image run : List ℕ) (sector begins at : ℕ) (last : Option ℕ) → IsNotRefused image run sector
    → IsEraseDueAt image run sector last begins at → MustBeErased image run sector last begins
due_sector_must_be_erased image run sector begins at last ready e = record {
  whole = subst (λ (x : ℕ). x % sector ≡ 0) (sym e.is) (part_start_is_multiple sector at);
  off = part_of_difference_differs image run sector begins at last ready.area.some e.next e.is;
  is_untidy = erased_sector_is_untidy image run sector begins at last ready e;
}

-- A blank sector is tidy.
blank_sector_is_tidy : (image run : List ℕ) (sector begins : ℕ) → 0 < sector → sector % 256 ≡ 0 → begins % sector ≡ 0
    → RangeIsBlank run begins (begins + sector) → IsTidySector image run sector begins
blank_sector_is_tidy image run sector begins some pieces whole blank = record {
  whole = sectors_are_whole_parts 256 sector begins pieces whole;
  done = λ i low high inside. absurd (omega (arith, low, high, multiple_begins_its_part sector begins whole));
  here = inr (λ i low high. blank i low (omega (arith, high, first_piece_fits_sector)));
  blank = λ i low high. blank i (omega (arith, low)) (omega (arith, high, multiple_begins_its_part sector begins whole));
}
  where
    edge : (begins + sector) % sector ≡ 0
    edge = subst (λ (x : ℕ). (x + sector) % sector ≡ 0) (multiple_begins_its_part sector begins whole) (part_end_is_multiple sector begins)

    first_piece_fits_sector : begins + 256 ≤ begins + sector
    first_piece_fits_sector = part_ends_by_edge 256 begins (begins + sector) (sectors_are_whole_parts 256 sector begins pieces whole)
        (sectors_are_whole_parts 256 sector (begins + sector) pieces edge) (omega (arith, some))

-- If the next differing byte is in another sector than the last operation, the sector of the last operation equals the image from that
-- operation's offset on.
no_difference_in_other_sector : (image run : List ℕ) (sector last begins at other : ℕ) → 0 < sector
    → IsNextDifference image run (search_start image (Some last)) at
    → begins ≡ start_of sector at → ¬ (other ≡ begins) → start_of sector last ≡ other
    → (i : ℕ) → last ≤ i → i < other + sector → i < length image → slice_index run i ≡ slice_index image i
no_difference_in_other_sector image run sector last begins at other some (inr (same, d)) is apart in_other i low high inside =
    same i (omega (arith, low)) inside inside
no_difference_in_other_sector image run sector last begins at other some (inl d) is apart in_other i low high inside =
    in_either_order (cases_lt i at)
  where
    in_either_order : (i < at) ⊎ (at ≤ i) → slice_index run i ≡ slice_index image i
    in_either_order (inl less) = d.before i (omega (arith, low)) less inside
    in_either_order (inr le) =
        let whole : other % sector ≡ 0 = subst (λ (x : ℕ). x % sector ≡ 0) in_other (part_start_is_multiple sector last) in
        let first : other ≤ at = omega (arith, in_other, d.after, low, inside) in
        absurd (apart (sym (place_in_part_has_its_start sector other at some whole first (omega (arith, le, high))) ∙ sym is))

-- If a sector was left tidy, and the next differing byte is in another sector, the tidy sector equals the image.
tidy_sector_not_due_is_done : (image run : List ℕ) (sector begins at other : ℕ) (last : Option ℕ) → 0 < sector
    → IsNextDifference image run (search_start image last) at
    → begins ≡ start_of sector at → ¬ (other ≡ begins) → WasLeftTidy image run sector last other
    → ¬ ImageByteDiffers image run other (other + sector)
tidy_sector_not_due_is_done image run sector begins at other None some next is apart tidy off = tidy
tidy_sector_not_due_is_done image run sector begins at other (Some last) some next is apart (in_other, tidy) off =
    off.differs (in_either_order (cases_lt off.at last))
  where
    in_either_order : (off.at < last) ⊎ (last ≤ off.at) → slice_index run off.at ≡ slice_index image off.at
    in_either_order (inl less) = tidy.done off.at (omega (arith, in_other, off.after)) less off.inside
    in_either_order (inr le) =
        no_difference_in_other_sector image run sector last begins at other some next is apart in_other off.at le off.before off.inside

-- An erase of one sector adds no difference between another sector and the image.
difference_was_before_erase : (image run run' : List ℕ) (sector begins other : ℕ) → begins % sector ≡ 0 → other % sector ≡ 0 → ¬ (other
    ≡ begins)
    → OutsideUnchanged run run' begins (begins + sector) → ImageByteDiffers image run' other (other + sector)
    → ImageByteDiffers image run other (other + sector)
difference_was_before_erase image run run' sector begins other whole whole_other apart leaves off = record {
  at = off.at;
  after = off.after;
  before = off.before;
  inside = off.inside;
  differs = λ e. off.differs (leaves.others off.at (difference_is_beside_erase (sectors_do_not_overlap sector other begins whole_other whole
      apart)) ∙ e);
}
  where
    difference_is_beside_erase : (other + sector ≤ begins) ⊎ (begins + sector ≤ other) → (off.at < begins) ⊎ (begins + sector ≤ off.at)
    difference_is_beside_erase (inl x) = inl (omega (arith, x, off.before))
    difference_is_beside_erase (inr x) = inr (omega (arith, x, off.after))

-- If a sector must be erased after the erase of another sector, the sector already had to be erased before that erase.
erase_adds_no_erase : (image run run' : List ℕ) (sector begins at other : ℕ) (last : Option ℕ) → IsNotRefused image run sector
    → IsEraseDueAt image run sector last begins at → ¬ (other ≡ begins) → OutsideUnchanged run run' begins (begins + sector)
    → MustBeErased image run' sector (Some begins) other → MustBeErased image run sector last other
erase_adds_no_erase image run run' sector begins at other last ready e apart leaves to_erase =
    let whole : begins % sector ≡ 0 = subst (λ (x : ℕ). x % sector ≡ 0) (sym e.is) (part_start_is_multiple sector at) in
    let off = difference_was_before_erase image run run' sector begins other whole to_erase.whole apart leaves to_erase.off in record {
      whole = to_erase.whole;
      off = off;
      is_untidy = λ tidy. tidy_sector_not_due_is_done image run sector begins at other last ready.area.some e.next e.is apart tidy off;
    }

-- An erase lowers the upper bound of the remaining operations by at least one.
pub erase_costs_one_operation : (image run run' : List ℕ) (sector k begins at most : ℕ) (last : Option ℕ) → sector ≡ 256 * k
    → IsNotRefused image run sector
    → IsEraseDueAt image run sector last begins at → OutsideUnchanged run run' begins (begins + sector)
    → RangeIsBlank run' begins (begins + sector) → CostsAtMost image run sector k last most
    → (least : ℕ) × ((suc least ≤ most) × CostsAtMost image run' sector k (Some begins) least)
erase_costs_one_operation image run run' sector k begins at most last size ready e leaves blank costs =
    let whole : begins % sector ≡ 0 = subst (λ (x : ℕ). x % sector ≡ 0) (sym e.is) (part_start_is_multiple sector at) in
    let tidy = blank_sector_is_tidy image run' sector begins ready.area.some ready.area.pieces whole blank in
    let w = member_can_be_taken_away begins costs.sectors (costs.has_each_to_erase begins (due_sector_must_be_erased image run sector begins
    at last ready e)) in
    let other : (i : ℕ) → MustBeErased image run' sector (Some begins) i → ¬ (i ≡ begins) =
    λ i x is. x.is_untidy (multiple_begins_its_part sector begins whole ∙ sym is, tidy) in
    let sum : length costs.sectors * (1 + k) ≡ length w.others * (1 + k) + (1 + k) =
    ap (λ (n : ℕ). n * (1 + k)) w.fewer ∙ suc-mul (length w.others) (1 + k) in (
      length w.others * (1 + k) + k,
      (
        omega (arith, costs.enough, sum),
        record {
          sectors = w.others;
          left = k;
          has_each_to_erase = λ i x. w.keeps i
              (costs.has_each_to_erase i (erase_adds_no_erase image run run' sector begins at i last ready e (other i x) leaves x))
              (other i x);
          has = inl (omega (arith, size, multiple_begins_its_part sector begins whole));
          enough = omega arith;
        },
      ),
    )
