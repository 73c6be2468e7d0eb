-- Offsets at which sectors and pieces begin.
use Rattle.std.proofs.Common.{◌≡◌, ◌⊎◌, inl, inr, ℕ, ◌+◌, ◌-◌, ◌*◌, ◌/◌, ◌%◌, ◌≤◌, ◌<◌, ap, ◌∙◌, arith}
use Rattle.std.proofs.Math.Nat.{dvd-sub_iff_left, dvd-add, mod_self, div-add-mod, mul-mod_right, mod-lt, mod-le}
use Rattle.std.proofs.lemmas.Nat.Gcd.{dvd_trans, dvd_of_mod-eq-zero, mod-eq-zero_of_dvd, le_of_dvd}
use Rattle.std.proofs.lemmas.Bool.{cases_lt}
use Rattle.dfu_boot.specs.install.Area.{start_of}

-- If a length is a multiple of the sector size, and the sector size is a multiple of the part's size, the length is a multiple of the
-- part's size.
pub sectors_are_whole_parts : (part sector n : ℕ) → sector % part ≡ 0 → n % sector ≡ 0 → n % part ≡ 0
sectors_are_whole_parts part sector n x y =
    mod-eq-zero_of_dvd part (dvd_trans part (dvd_of_mod-eq-zero part x) (dvd_of_mod-eq-zero sector y))

-- If a part begins before the offset n, and n is a multiple of the part's size, the part ends at n or before.
pub part_ends_by_edge : (part at n : ℕ) → at % part ≡ 0 → n % part ≡ 0 → at < n → at + part ≤ n
part_ends_by_edge part at n x y lt =
    let divides = (dvd-sub_iff_left part (omega (arith, lt)) (dvd_of_mod-eq-zero part x)).1 (dvd_of_mod-eq-zero part y) in
    let least : part ≤ n - at = le_of_dvd (omega (arith, lt)) divides in
    omega (arith, least, lt)

-- A part begins at a multiple of its size.
pub part_start_is_multiple : (part at : ℕ) → start_of part at % part ≡ 0
part_start_is_multiple part at =
    let e : start_of part at ≡ part * (at / part) = omega (arith, div-add-mod at part) in
    ap (λ (n : ℕ). n % part) e ∙ mul-mod_right part (at / part)

-- Each offset is before the end of the part that contains it.
pub place_is_before_part_end : (part at : ℕ) → 0 < part → at < start_of part at + part
place_is_before_part_end part at some = omega (arith, mod-lt at some, mod-le at part)

-- If an offset is before n, and n is a multiple of the part's size, the part that contains the offset ends at n or before.
pub part_of_place_ends_by_edge : (part at n : ℕ) → n % part ≡ 0 → at < n → start_of part at + part ≤ n
part_of_place_ends_by_edge part at n whole lt =
    part_ends_by_edge part (start_of part at) n (part_start_is_multiple part at) whole (omega (arith, lt, mod-le at part))

-- If an offset is a multiple of the part's size, a part begins at that offset.
pub multiple_begins_its_part : (part at : ℕ) → at % part ≡ 0 → start_of part at ≡ at
multiple_begins_its_part part at whole = omega (arith, whole)

-- If an offset is not before an edge, the part that contains the offset does not begin before the edge.
pub part_start_not_before_edge : (part edge at : ℕ) → 0 < part → edge % part ≡ 0 → edge ≤ at → edge ≤ start_of part at
part_start_not_before_edge part edge at some whole le = in_either_order (cases_lt (start_of part at) edge)
  where
    in_either_order : (start_of part at < edge) ⊎ (edge ≤ start_of part at) → edge ≤ start_of part at
    in_either_order (inr x) = x
    in_either_order (inl less) =
        let fits = part_ends_by_edge part (start_of part at) edge (part_start_is_multiple part at) whole less in
        omega (arith, fits, le, place_is_before_part_end part at some)

-- `start_of` returns the beginning of a part for each offset within the part.
pub place_in_part_has_its_start : (part begins at : ℕ) → 0 < part → begins % part ≡ 0 → begins ≤ at → at < begins + part → start_of part at
    ≡ begins
place_in_part_has_its_start part begins at some whole low high =
    let least = part_start_not_before_edge part begins at some whole low in
    in_either_order (cases_lt begins (start_of part at)) least
  where
    in_either_order : (begins < start_of part at) ⊎ (start_of part at ≤ begins) → begins ≤ start_of part at → start_of part at ≡ begins
    in_either_order (inr most) least = omega (arith, most, least)
    in_either_order (inl more) least =
        let fits = part_ends_by_edge part begins (start_of part at) whole (part_start_is_multiple part at) more in
        absurd (omega (arith, fits, high, mod-le at part))

-- Two sectors that begin at different offsets do not overlap.
pub sectors_do_not_overlap : (part one other : ℕ) → one % part ≡ 0 → other % part ≡ 0 → ¬ (one ≡ other) → (one + part
    ≤ other) ⊎ (other + part ≤ one)
sectors_do_not_overlap part one other x y apart = in_either_order (cases_lt one other)
  where
    in_either_order : (one < other) ⊎ (other ≤ one) → (one + part ≤ other) ⊎ (other + part ≤ one)
    in_either_order (inl less) = inl (part_ends_by_edge part one other x y less)
    in_either_order (inr le) = inr (part_ends_by_edge part other one y x (starts_in_order le))
      where
        starts_in_order : other ≤ one → other < one
        starts_in_order le = omega (arith, le, apart)

-- A part ends at a multiple of its size.
pub part_end_is_multiple : (part at : ℕ) → (start_of part at + part) % part ≡ 0
part_end_is_multiple part at =
    mod-eq-zero_of_dvd part (dvd-add part (dvd_of_mod-eq-zero part (part_start_is_multiple part at)) (dvd_of_mod-eq-zero part (mod_self
    part)))
