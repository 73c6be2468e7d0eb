-- Operations change no byte after the last sector that the image reaches.
use Rattle.std.proofs.Common.{◌≡◌, inl, inr, ◌≤◌, ◌%◌, ℕ, List, [], ◌∷◌, length, Option, slice_index, ◌∙◌, ap, refl, arith}
use Rattle.std.proofs.Math.Nat.{mod-le}
use Rattle.dfu_boot.specs.install.Area.{start_of}
use Rattle.dfu_boot.specs.install.Next.{IsNextDue}
use Rattle.dfu_boot.specs.install.Operations.{operation_end}
use Rattle.dfu_boot.specs.install.Courses.{InstallMoment, IsInstallStep, NeighboursUnchanged}
use Rattle.dfu_boot.specs.declared.install.due.Due.{Due}
use Rattle.dfu_boot.specs.declared.install.due.Due.TheVariants.{Refuse, Erase, Program, Start}
use Rattle.dfu_boot.proofs.WholeStarts.{sectors_are_whole_parts, part_start_is_multiple, part_of_place_ends_by_edge}
use Rattle.dfu_boot.proofs.NextDifference.{next_byte_in_image}

-- Each operation ends within the sectors that the image reaches.
pub operation_ends_by_last_edge : (image run : List ℕ) (sector edge : ℕ) (last : Option ℕ) (due : Due) → IsNextDue image run sector last due
    → edge % sector ≡ 0 → length image ≤ edge → operation_end sector due ≤ edge
operation_ends_by_last_edge image run sector edge last (Erase at) (ready, (d, e)) whole le =
    let fits = part_of_place_ends_by_edge sector d edge whole (omega (arith, le, next_byte_in_image image run last d e.next)) in
    omega (arith, fits, e.is)
operation_ends_by_last_edge image run sector edge last (Program at) (ready, (d, e)) whole le =
    let inside = next_byte_in_image image run last d e.next in
    let fits = part_of_place_ends_by_edge 256 d edge (sectors_are_whole_parts 256 sector edge ready.area.pieces whole)
    (omega (arith, le, inside))
    in
    omega (arith, fits, e.is)
operation_ends_by_last_edge image run sector edge last (Refuse refusal) does whole le = omega arith
operation_ends_by_last_edge image run sector edge last Start does whole le = omega arith

-- An event changes no byte of a sector that the image does not reach.
event_keeps_byte_beside : (sector at : ℕ) (m next : InstallMoment) → IsInstallStep sector m next → length m.image ≤ start_of sector at
    → slice_index next.run at ≡ slice_index m.run at
event_keeps_byte_beside sector at m next (inr (inl e)) beside = ap (λ (l : List ℕ). slice_index l at) e.run
event_keeps_byte_beside sector at m next (inr (inr e)) beside = ap (λ (l : List ℕ). slice_index l at) e.run
event_keeps_byte_beside sector at m next (inl c) beside =
    let ends = operation_ends_by_last_edge m.image m.run sector (start_of sector at) m.last c.due c.does (part_start_is_multiple sector at)
    beside in
    c.leaves.others at (inr (omega (arith, ends, mod-le at sector)))

pub leaves_what_is_beside : NeighboursUnchanged
leaves_what_is_beside sector at m [] course beside = refl
leaves_what_is_beside sector at m (next ∷ rest) (step, course) (first, beside) =
    leaves_what_is_beside sector at next rest course beside ∙ event_keeps_byte_beside sector at m next step first
