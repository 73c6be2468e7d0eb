-- Upper bound of the number of operations on a medium without failures.
use Rattle.std.proofs.Common.{◌≡◌, inl, ◌<◌, ◌≤◌, ◌+◌, ◌*◌, ◌-◌, ℕ, suc, false, List, [], ◌∷◌, length, slice_index, Option, Some, None, sym, ◌∙◌, ap, refl, subst, arith}
use Rattle.dfu_boot.specs.declared.install.due.Due.{Due}
use Rattle.dfu_boot.specs.declared.install.due.Due.TheVariants.{Refuse, Erase, Program, Start}
use Rattle.dfu_boot.specs.install.Area.{IsRunArea, RangeMatchesImage, RangeIsBlank, program_piece}
use Rattle.dfu_boot.specs.install.Next.{IsProgramDueAt, IsEraseDueAt}
use Rattle.dfu_boot.specs.install.OperationReport.{IsNoteOfDue}
use Rattle.dfu_boot.specs.install.Working.{MediumCarriesOut, AllOperationsWork, FewOperations}
use Rattle.dfu_boot.proofs.PieceBytes.{piece_has_image_bytes}
use Rattle.dfu_boot.proofs.Members.{multiples, multiples_have_length_n, multiple_below_is_member}
use Rattle.dfu_boot.proofs.NextDifference.{next_byte_in_image}
use Rattle.dfu_boot.proofs.WholeStarts.{sectors_are_whole_parts, part_of_place_ends_by_edge}
use Rattle.dfu_boot.proofs.RemainingOperations.{HasPiecesLeft, CostsAtMost}
use Rattle.dfu_boot.proofs.Programming.{program_due_is_of_piece, program_costs_one_piece}
use Rattle.dfu_boot.proofs.Erasing.{erase_costs_one_operation}

-- After a program, the piece equals the image, up to the end of the image.
programmed_piece_is_image : (image run : List ℕ) (at : ℕ) → ((i : ℕ) → i < 256 → slice_index run (at + i)
    ≡ slice_index (program_piece image at) i)
    → RangeMatchesImage image run at (at + 256)
programmed_piece_is_image image run at bytes i low high inside =
    let e : at + (i - at) ≡ i = omega (arith, low) in
    let few : i - at < 256 = omega (arith, low, high) in
    ap (λ (x : ℕ). slice_index run x) (sym e)
    ∙ bytes (i - at) few
    ∙ piece_has_image_bytes image at (i - at) few (omega (arith, low, inside))
    ∙ ap (λ (x : ℕ). slice_index image x) e

-- If the length of a run area does not change, it is still a run area.
run_area_stays : (run run' : List ℕ) (sector : ℕ) → IsRunArea (length run) sector → length run' ≡ length run →
    IsRunArea (length run') sector
run_area_stays run run' sector area same = subst (λ (n : ℕ). IsRunArea n sector) (sym same) area

-- If an erase succeeded, `took` returns its offset.
worked_erase_is_noted : (image run : List ℕ) (sector at : ℕ) (last : Option ℕ) → IsRunArea (length run) sector
    → at + sector ≤ length run → RangeIsBlank run at (at + sector)
    → IsNoteOfDue image run sector (Erase at) false last → last ≡ Some at
worked_erase_is_noted image run sector at (Some x) area fits blank took = ap Some (sym took.2.0)
worked_erase_is_noted image run sector at None area fits blank took = absurd (took refl area at (refl, (fits, blank)))

-- If a program succeeded, `took` returns its offset.
worked_program_is_noted : (image run : List ℕ) (sector at : ℕ) (last : Option ℕ) → IsRunArea (length run) sector
    → at + 256 ≤ length run → RangeMatchesImage image run at (at + 256)
    → IsNoteOfDue image run sector (Program at) false last → last ≡ Some at
worked_program_is_noted image run sector at (Some x) area fits same took = ap Some (sym took.2.0)
worked_program_is_noted image run sector at None area fits same took = absurd (took refl area at (refl, (fits, same)))

-- Each operation lowers the upper bound of the remaining operations by at least one.
operation_costs_one : (image run run' : List ℕ) (sector k most : ℕ) (last last' : Option ℕ) (due : Due) → sector ≡ 256 * k
    → MediumCarriesOut image run run' sector last last' due → CostsAtMost image run sector k last most
    → (least : ℕ) × ((suc least ≤ most) × CostsAtMost image run' sector k last' least)
operation_costs_one image run run' sector k most last last' (Refuse refusal) size w costs = absurd w.bytes
operation_costs_one image run run' sector k most last last' Start size w costs = absurd w.bytes
operation_costs_one image run run' sector k most last last' (Erase at) size w costs =
    let ready = w.does.0 in
    let d : ℕ = w.does.1.0 in
    let e : IsEraseDueAt image run sector last at d = w.does.1.1 in
    let inside = next_byte_in_image image run last d e.next in
    let fits = part_of_place_ends_by_edge sector d (length run) ready.area.whole (omega (arith, inside, ready.fits)) in
    let area = run_area_stays run run' sector ready.area w.leaves.size in
    let noted = worked_erase_is_noted image run' sector at last' area (omega (arith, fits, e.is, w.leaves.size)) w.bytes w.took in
    let made = erase_costs_one_operation image run run' sector k at d most last size ready e w.leaves w.bytes costs in
    (made.0, (made.1.0, subst (λ (l : Option ℕ). CostsAtMost image run' sector k l made.0) (sym noted) made.1.1))
operation_costs_one image run run' sector k most None last' (Program at) size w costs = absurd w.does.1.1.may
operation_costs_one image run run' sector k most (Some last) last' (Program at) size w costs =
    let ready = w.does.0 in
    let d : ℕ = w.does.1.0 in
    let p : IsProgramDueAt image run sector (Some last) at d = w.does.1.1 in
    let inside = next_byte_in_image image run (Some last) d p.next in
    let fits = part_of_place_ends_by_edge 256 d (length run)
    (sectors_are_whole_parts 256 sector (length run) ready.area.pieces ready.area.whole)
    (omega (arith, inside, ready.fits)) in
    let same = programmed_piece_is_image image run' at w.bytes in
    let area = run_area_stays run run' sector ready.area w.leaves.size in
    let noted = worked_program_is_noted image run' sector at last' area (omega (arith, fits, p.is, w.leaves.size)) same w.took in
    let made = program_costs_one_piece image run run' sector k last at d most (program_due_is_of_piece image run sector last at d ready p)
    w.leaves same costs in
    (made.0, (made.1.0, subst (λ (l : Option ℕ). CostsAtMost image run' sector k l made.0) (sym noted) made.1.1))

-- The number of operations is at most the upper bound before the first operation.
cost_bounds_operations : (image run : List ℕ) (sector k most : ℕ) (last : Option ℕ) (dues : List Due) → sector ≡ 256 * k
    → AllOperationsWork image sector run last dues → CostsAtMost image run sector k last most → length dues ≤ most
cost_bounds_operations image run sector k most last [] size all costs = omega arith
cost_bounds_operations image run sector k most last (due ∷ rest) size (run', (last', (w, all))) costs =
    let one = operation_costs_one image run run' sector k most last last' due size w costs in
    let others = cost_bounds_operations image run' sector k one.0 last' rest size all one.1.1 in
    omega (arith, one.1.0, others)

-- No more pieces remain than one sector has, for any last operation.
left_pieces_fit_sector : (image run : List ℕ) (sector k : ℕ) (last : Option ℕ) → sector ≡ 256 * k → HasPiecesLeft image run sector last k
left_pieces_fit_sector image run sector k None size = _
left_pieces_fit_sector image run sector k (Some last) size = inl (omega (arith, size))

-- Before the first operation, at most n erases and (n + 1) * k programs remain.
first_cost_is_of_all_sectors : (image run : List ℕ) (n k : ℕ) (last : Option ℕ) → length image ≤ n * (256 * k)
    → CostsAtMost image run (256 * k) k last (n * (1 + k) + k)
first_cost_is_of_all_sectors image run n k last long = record {
  sectors = multiples (256 * k) n;
  left = k;
  has_each_to_erase = λ i x. multiple_below_is_member (256 * k) n i x.whole (omega (arith, long, x.off.after, x.off.inside));
  has = left_pieces_fit_sector image run (256 * k) k last refl;
  enough =
      let e : length (multiples (256 * k) n) * (1 + k) ≡ n * (1 + k) = ap (λ (x : ℕ). x * (1 + k)) (multiples_have_length_n (256 * k) n) in
      omega (arith, e);
}

pub few_operations : FewOperations
few_operations image run n k last dues long all =
    cost_bounds_operations image run (256 * k) k (n * (1 + k) + k) last dues refl all (first_cost_is_of_all_sectors image run n k last long)
