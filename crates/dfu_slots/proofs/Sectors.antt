-- Edges: offsets at which sectors begin.
use Rattle.std.proofs.Common.{◌≡◌, ◌≢◌, ◌⊎◌, inl, inr, ℕ, ◌+◌, ◌-◌, ◌%◌, ◌≤◌, ◌<◌, sym, ◌∙◌, ap, subst, arith}
use Rattle.std.proofs.Math.Nat.{mod-add-mod, mod-eq_of_lt, mod_self, dvd-sub_iff_left, dvd-add}
use Rattle.std.proofs.lemmas.Nat.Gcd.{dvd_of_mod-eq-zero, mod-eq-zero_of_dvd, le_of_dvd}
use Rattle.std.proofs.lemmas.Bool.{cases_eq}
use Rattle.dfu_slots.specs.declared.layout.Unit.{Unit as WriteUnit}
use Rattle.dfu_slots.specs.declared.layout.Unit.TheVariants.{Byte}
use Rattle.dfu_slots.specs.Units.{Grain, gate_size, gate_room, IsMultiple, IsWhole}

-- An offset is an edge if a sector begins there. Without sectors every offset is an edge.
abbrev pub IsSectorEdge : ℕ → ℕ → Type 0
IsSectorEdge sector at = 0 < sector → at % sector ≡ 0

-- Offset 0 is a sector edge.
pub first_byte_is_edge : (sector : ℕ) → IsSectorEdge sector 0
first_byte_is_edge sector some = mod-eq_of_lt some

-- The sum of two edges is an edge.
pub edge_sum_is_edge : (sector a b : ℕ) → IsSectorEdge sector a → IsSectorEdge sector b → IsSectorEdge sector (a + b)
edge_sum_is_edge sector a b x y some =
    mod-eq-zero_of_dvd sector (dvd-add sector (dvd_of_mod-eq-zero sector (x some)) (dvd_of_mod-eq-zero sector (y some)))

-- A sector that begins before an edge ends at the edge or before it.
pub sector_ends_before_edge : (sector at to : ℕ) → at % sector ≡ 0 → to % sector ≡ 0 → at < to → at + sector ≤ to
sector_ends_before_edge sector at to x y lt =
    let divides = (dvd-sub_iff_left sector (omega (arith, lt)) (dvd_of_mod-eq-zero sector x)).1 (dvd_of_mod-eq-zero sector y) in
    let least : sector ≤ to - at = le_of_dvd (omega (arith, lt)) divides in
    omega (arith, least, lt)

-- If two adjacent bytes lie in one sector, their offsets in it differ by 1.
pub remainder_of_next_byte : (sector at : ℕ) → at % sector + 1 < sector → (at + 1) % sector ≡ at % sector + 1
remainder_of_next_byte sector at lt = sym (mod-add-mod at sector 1) ∙ mod-eq_of_lt lt

-- A gate unit has at least 16 bytes.
pub gate_unit_at_least_16 : (u : WriteUnit) → 16 ≤ gate_size u
gate_unit_at_least_16 u = omega arith

-- A gate occupies at least 16 bytes.
pub gate_room_at_least_16 : (w : Grain) → 16 ≤ gate_room w
gate_room_at_least_16 w = omega arith

-- The size of a gate unit is a multiple of the unit.
pub gate_size_is_multiple : (u : WriteUnit) → IsMultiple u (gate_size u)
gate_size_is_multiple Byte = omega arith
gate_size_is_multiple _ = omega arith

-- A gate unit has at most 256 bytes.
pub gate_unit_at_most_256 : (u : WriteUnit) → gate_size u ≤ 256
gate_unit_at_most_256 Byte = omega arith
gate_unit_at_most_256 _ = omega arith

-- A multiple of 256 is a multiple of every unit.
pub page_multiple_is_unit_multiple : (u : WriteUnit) (n : ℕ) → n % 256 ≡ 0 → IsMultiple u n
page_multiple_is_unit_multiple Byte n e = omega (arith, e)
page_multiple_is_unit_multiple _ n e = omega (arith, e)

module _ (w : Grain) (n : ℕ) (whole : IsWhole w n) where
  -- On a medium with sectors a gate occupies exactly one sector.
  pub gate_room_is_a_sector : 0 < w.sector → gate_room w ≡ w.sector
  gate_room_is_a_sector some = omega (arith, gate_unit_at_most_256 w.unit, whole.pages, some)

  -- The space that a gate occupies is a whole number of sectors.
  pub gate_room_ends_at_edge : IsSectorEdge w.sector (gate_room w)
  gate_room_ends_at_edge some = ap (λ (k : ℕ). k % w.sector) (gate_room_is_a_sector some) ∙ mod_self w.sector

  -- The space that a gate occupies is a multiple of the unit.
  pub gate_room_is_multiple : IsMultiple w.unit (gate_room w)
  gate_room_is_multiple = with_or_without_sectors (cases_eq w.sector 0)
    where
      with_or_without_sectors : (w.sector ≡ 0) ⊎ (w.sector ≢ 0) → IsMultiple w.unit (gate_room w)
      with_or_without_sectors (inl none) =
          let e : gate_size w.unit ≡ gate_room w = omega (arith, none) in
          subst (λ (k : ℕ). IsMultiple w.unit k) e (gate_size_is_multiple w.unit)
      with_or_without_sectors (inr some) =
          subst (λ (k : ℕ). IsMultiple w.unit k) (sym (gate_room_is_a_sector (omega (arith, some))))
          (page_multiple_is_unit_multiple w.unit w.sector
          whole.pages)
