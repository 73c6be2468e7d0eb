-- An erase contains each sector of the part as a whole or not at all.
use Rattle.std.proofs.Common.{◌≡◌, ⊎_elim, ℕ, zero, suc, ◌+◌, ◌-◌, ◌*◌, ◌%◌, ◌≤◌, ◌<◌, List, [], ◌∷◌, length, refl, sym, ◌∙◌, ap, subst, arith}
use Rattle.std.specs.Prelude.{Contains}
use Rattle.std.proofs.lemmas.Bool.{cases_lt}
use Rattle.dfu_slots.proofs.Sectors.{sector_ends_before_edge, edge_sum_is_edge}
use Rattle.dfu_places.specs.declared.region.Span.{Span}
use Rattle.dfu_places.specs.declared.region.Region.{Region}
use Rattle.dfu_places.specs.Regions.{end_of, region_end, AreRegions, IsWholeInRegion, IsSectorOfPart}
use Rattle.dfu_places.specs.Laws.{ErasesOwnSectors}
use Rattle.dfu_places.proofs.VirtualErases.{erase_keeps_other_bytes}
use Rattle.dfu_places.proofs.WholeErases.{erases_whole}

-- If a list of regions is in order from `from` on, each of its regions begins at `from` or later.
region_begins_at_or_after : (from : ℕ) (regions : List Region) (r : Region) → AreRegions from regions → Contains regions r → from ≤ r.at
region_begins_at_or_after from [] r are (k, few, is) = absurd (omega (arith, few))
region_begins_at_or_after from (x ∷ rest) r are (zero, few, is) = subst (λ (y : Region). from ≤ y.at) is are.0.after
region_begins_at_or_after from (x ∷ rest) r are (suc k, few, is) =
    let next = region_begins_at_or_after (region_end x) rest r are.1 (k, omega (arith, few), is) in
    omega (arith, next, are.0.after)

-- An address lies in at most one region of a part.
pub address_in_one_region : (from a : ℕ) (regions : List Region) (r q : Region) → AreRegions from regions → Contains regions r
    → Contains regions q →
    r.at ≤ a → a < region_end r → q.at ≤ a → a < region_end q → r ≡ q
address_in_one_region from a [] r q are (k, few, is) has low high down up = absurd (omega (arith, few))
address_in_one_region from a (x ∷ rest) r q are (zero, few, is) (zero, less, same) low high down up = sym is ∙ same
address_in_one_region from a (x ∷ rest) r q are (zero, few, is) (suc j, less, same) low high down up =
    let end = subst (λ (y : Region). a < region_end y) (sym is) high in
    absurd (omega (arith, end, down, region_begins_at_or_after (region_end x) rest q are.1 (j, omega (arith, less), same)))
address_in_one_region from a (x ∷ rest) r q are (suc k, few, is) (zero, less, same) low high down up =
    let end = subst (λ (y : Region). a < region_end y) (sym same) up in
    absurd (omega (arith, end, low, region_begins_at_or_after (region_end x) rest r are.1 (k, omega (arith, few), is)))
address_in_one_region from a (x ∷ rest) r q are (suc k, few, is) (suc j, less, same) low high down up =
    address_in_one_region (region_end x) a rest r q are.1 (k, omega (arith, few), is) (j, omega (arith, less), same) low high down up

-- If a sector shares a byte with a span of whole sectors of the same size, the sector lies in the span.
sector_within_whole_span : (base sector from to at a : ℕ) → 0 < sector → base ≤ from → base ≤ at → (from - base) % sector ≡ 0
    → (to - base) % sector ≡ 0
    → (at - base) % sector ≡ 0 → from ≤ a → a < to → at ≤ a → a < at + sector → (from ≤ at) × (at + sector ≤ to)
sector_within_whole_span base sector from to at a some low least first last edge p q r s = (
  ⊎_elim
      (λ before. absurd (omega (
        arith,
        least,
        low,
        p,
        s,
        sector_ends_before_edge sector (at - base) (from - base) edge first (omega (
          arith,
          before,
          least,
        )),
      )))
      (λ after. after) (cases_lt at from),
  omega (arith, least, sector_ends_before_edge sector (at - base) (to - base) edge last (omega (arith, least, q, r))),
)

-- If a span is erased as a whole, it ends at the edge of a sector.
whole_span_ends_at_edge : (part : ℕ) (s : Span) (r : Region) → IsWholeInRegion part s r → part ≡ s.len → (end_of s - r.at) % r.sector ≡ 0
whole_span_ends_at_edge part s r split is =
    let sum : end_of s - r.at ≡ (s.at - r.at) + s.len = omega (arith, split.after) in
    ap (λ (n : ℕ). n % r.sector) sum
    ∙ edge_sum_is_edge r.sector (s.at - r.at) s.len (λ _. split.edge)
    (λ _. ap (λ (n : ℕ). n % r.sector) (sym is) ∙ split.parts) split.sector

pub erases_own_sectors : ErasesOwnSectors
erases_own_sectors regions needs p v a s x is here sector low high from to =
    let whole = (erases_whole regions needs p v s is here).0 in
    let split = whole.split in
    let same : sector.region ≡ whole.region =
    address_in_one_region 0 a regions sector.region whole.region is.sizes.ordered sector.has whole.has
    (omega (arith, sector.after, from)) (omega (arith, sector.within, to)) (omega (arith, split.after, low))
    (omega (arith, split.within, high)) in
    let base : sector.region.at ≡ whole.region.at = ap (λ (r : Region). r.at) same in
    let size : sector.region.sector ≡ whole.region.sector = ap (λ (r : Region). r.sector) same in
    let edge : (x.at - whole.region.at) % whole.region.sector ≡ 0 =
    subst (λ (r : Region). (x.at - r.at) % r.sector ≡ 0) same sector.edge in
    let lies = sector_within_whole_span whole.region.at whole.region.sector s.at (end_of s) x.at a split.sector split.after
    (omega (arith, sector.after, base)) split.edge (whole_span_ends_at_edge s.len s whole.region split refl) edge low high from
    (omega (arith, to, sector.len, size)) in
    let end : end_of x ≤ end_of s = omega (arith, lies.1, sector.len, size) in
    record {
      from = lies.0;
      to = end;
      own = λ w b there after before.
          erase_keeps_other_bytes regions needs p v w b s is here there (omega (arith, lies.0, after)) (omega (arith, end, before));
    }
