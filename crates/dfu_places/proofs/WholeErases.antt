-- Erases of virtual sectors consist of whole sectors of the part.
use Rattle.std.proofs.Common.{◌≡◌, ◌⊎◌, inl, inr, ℕ, ◌+◌, ◌-◌, ◌%◌, ◌≤◌, ◌<◌, Bool, true, false, sym, ◌∙◌, ap, refl, arith, if◌then◌else◌}
use Rattle.std.proofs.lemmas.Nat.Gcd.{dvd_trans, dvd_of_mod-eq-zero, mod-eq-zero_of_dvd}
use Rattle.dfu_slots.proofs.Sectors.{edge_sum_is_edge, first_byte_is_edge}
use Rattle.dfu_places.specs.declared.region.Span.{Span}
use Rattle.dfu_places.specs.declared.placement.Placement.{Placement}
use Rattle.dfu_places.specs.Regions.{end_of, IsApart}
use Rattle.dfu_places.specs.Things.{span_at, part_at}
use Rattle.dfu_places.specs.Laws.{ErasesWhole}
use Rattle.dfu_places.proofs.Places.{slot_rank_is_thing}
use Rattle.dfu_places.proofs.Erasing.{is_data, ErasesDataSector, ErasesHead, erased_is_span, erase_ends_in_thing}

chosen_data_part_is_sector : (b : Bool) (sector len : ℕ) → b ≡ true → (if b then sector else len) ≡ sector
chosen_data_part_is_sector true sector len x = refl
chosen_data_part_is_sector false sector len x = absurd (grind (arith, x))

chosen_head_part_is_all : (b : Bool) (sector len : ℕ) → b ≡ false → (if b then sector else len) ≡ len
chosen_head_part_is_all true sector len x = absurd (grind (arith, x))
chosen_head_part_is_all false sector len x = refl

data_is_erased_by_sector : (p : Placement) (i : ℕ) → is_data i ≡ true → part_at p i ≡ p.sector
unfolding part_at
data_is_erased_by_sector p i x = chosen_data_part_is_sector (is_data i) p.sector (span_at p i).len x

head_is_erased_whole : (p : Placement) (i : ℕ) → is_data i ≡ false → part_at p i ≡ (span_at p i).len
unfolding part_at
head_is_erased_whole p i x = chosen_head_part_is_all (is_data i) p.sector (span_at p i).len x

-- If `a` is at a sector's edge, `a + o` is at a sector's edge too for each multiple `o` of the sector size.
offset_keeps_sector_edge : (s r a o q : ℕ) → s ≡ a + o → r ≤ a → (a - r) % q ≡ 0 → o % q ≡ 0 → 0 < q → (s - r) % q ≡ 0
offset_keeps_sector_edge s r a o q is le x y some =
    let same : s - r ≡ (a - r) + o = omega (arith, is, le) in
    ap (λ n. n % q) same ∙ edge_sum_is_edge q (a - r) o (λ _. x) (λ _. y) some

multiples_are_transitive : (o sector q : ℕ) → o % sector ≡ 0 → sector % q ≡ 0 → o % q ≡ 0
multiples_are_transitive o sector q x y = mod-eq-zero_of_dvd q (dvd_trans q (dvd_of_mod-eq-zero q y) (dvd_of_mod-eq-zero sector x))

-- The offset and the length of an erase are multiples of the sector size, because the number of bytes that are erased together is such a
-- multiple.
erase_is_sector_multiple : (p : Placement) (rank offset : ℕ) (s : Span) (q : ℕ) → 0 < q → part_at p rank % q ≡ 0 →
    ErasesDataSector p rank offset s ⊎ ErasesHead p rank offset s → (offset % q ≡ 0) × (s.len % q ≡ 0)
erase_is_sector_multiple p rank offset s q some parts (inl part) =
    let sector : p.sector % q ≡ 0 = ap (λ n. n % q) (sym (data_is_erased_by_sector p rank part.data_rank)) ∙ parts in
    (multiples_are_transitive offset p.sector q part.edge sector, ap (λ n. n % q) part.len ∙ sector)
erase_is_sector_multiple p rank offset s q some parts (inr all) = (
  ap (λ n. n % q) all.front ∙ first_byte_is_edge q some,
  ap (λ n. n % q) (all.len ∙ sym (head_is_erased_whole p rank all.head_rank)) ∙ parts,
)

-- If a span is apart from the bootloader, each span within it is too.
outside : (boot s big : Span) → big.at ≤ s.at → end_of s ≤ end_of big → IsApart boot big → IsApart boot s
outside boot s big a b (inl e) = inl (omega (arith, a, e))
outside boot s big a b (inr e) = inr (omega (arith, b, e))

pub erases_whole : ErasesWhole
erases_whole regions needs p v s is x =
    let e = erased_is_span p v s x in
    let there = is.whole e.rank (slot_rank_is_thing p e.rank e.few) in
    let split = there.split in
    let ends = erase_ends_in_thing regions needs p is v s e in
    let whole = erase_is_sector_multiple p e.rank e.offset s there.region.sector split.sector split.parts e.how in (
      record {
        region = there.region;
        has = there.has;
        split = record {
          sector = split.sector;
          after = omega (arith, e.at, split.after);
          edge = offset_keeps_sector_edge s.at there.region.at (span_at p e.rank).at e.offset there.region.sector e.at split.after split.edge whole.0 split.sector;
          parts = whole.1;
          within = omega (arith, ends, split.within);
          bound = split.bound;
        };
      },
      outside needs.boot s (span_at p e.rank) (omega (arith, e.at)) ends (is.outside e.rank (slot_rank_is_thing p e.rank e.few)),
    )
