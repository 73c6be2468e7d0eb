-- The spans that are erased for two virtual sectors have no byte in common.
use Rattle.std.proofs.Common.{◌≡◌, ◌⊎◌, inl, inr, ⊎_elim, ℕ, ◌+◌, ◌%◌, ◌≤◌, ◌<◌, ◌==◌, ◌||◌, ◌&&◌, nat_lt, Bool, true, false, Some, None, List, refl, sym, ◌∙◌, ap, arith, if◌then◌else◌}
use Rattle.std.proofs.lemmas.Option.{same_Some}
use Rattle.dfu_slots.proofs.Sectors.{sector_ends_before_edge}
use Rattle.dfu_places.specs.declared.region.Span.{Span}
use Rattle.dfu_places.specs.declared.region.Region.{Region}
use Rattle.dfu_places.specs.declared.placement.Placement.{Placement}
use Rattle.dfu_places.specs.declared.placement.Needs.{Needs}
use Rattle.dfu_places.specs.Regions.{end_of, IsApart}
use Rattle.dfu_places.specs.Things.{span_at}
use Rattle.dfu_places.specs.Placement.{IsPlacement}
use Rattle.dfu_places.specs.Finding.{Spot, spot_of, erased}
use Rattle.dfu_places.specs.Laws.{ErasesApart}
use Rattle.dfu_places.proofs.Spots.{start_of, IsSpotOf, spot_of_gives_byte_back}
use Rattle.dfu_places.proofs.Places.{things_apart, equal_or_ordered}

-- True for the ranks of the data of both slots.
abbrev pub is_data : ℕ → Bool
is_data i = i == 2 || i == 5

-- The erased span is one virtual sector of data.
pub record ErasesDataSector (p : Placement) (rank offset : ℕ) (s : Span) : Type 0 where
  pub data_rank : is_data rank ≡ true
  pub edge : offset % p.sector ≡ 0
  pub within : offset < (span_at p rank).len
  pub len : s.len ≡ p.sector

-- The erased span is a whole gate or header.
pub record ErasesHead (p : Placement) (rank offset : ℕ) (s : Span) : Type 0 where
  pub head_rank : is_data rank ≡ false
  pub front : offset ≡ 0
  pub len : s.len ≡ (span_at p rank).len

-- The span is erased for the virtual sector at virtual byte `v`. It is one virtual sector of data, or a whole gate or header, and `v` is
-- byte `offset` of this data, gate or header.
pub record IsErasedSpan (p : Placement) (v : ℕ) (s : Span) : Type 0 where
  pub rank : ℕ
  pub offset : ℕ
  pub few : rank ≤ 5
  pub back : v ≡ start_of p rank + offset
  pub at : s.at ≡ (span_at p rank).at + offset
  pub how : ErasesDataSector p rank offset s ⊎ ErasesHead p rank offset s

module _ (p : Placement) (v : ℕ) (s : Span) (spot : Spot) (known : IsSpotOf p v spot) where
  there : (b c d z : Bool) → is_data spot.rank ≡ b → (spot.offset % p.sector == 0) ≡ c → nat_lt spot.offset (span_at p spot.rank).len ≡ d →
      (spot.offset == 0) ≡ z →
      (if b then (if c && d then Some (record { at = (span_at p spot.rank).at + spot.offset; len = p.sector }) else None)
      else if z then Some (span_at p spot.rank) else None) ≡ Some s → IsErasedSpan p v s
  there true true true z data_rank edge within front is =
      let same = same_Some (record { at = (span_at p spot.rank).at + spot.offset; len = p.sector }) s is in
      record {
        rank = spot.rank;
        offset = spot.offset;
        few = known.rank;
        back = known.back;
        at = sym (ap (λ (t : Span). t.at) same);
        how = inl (record {
          data_rank = data_rank;
          edge = grind (arith, edge);
          within = grind (arith, within);
          len = sym (ap (λ (t : Span). t.len) same);
        });
      }
  there true true false z data_rank edge within front is = absurd (grind (arith, is))
  there true false d z data_rank edge within front is = absurd (grind (arith, is))
  there false c d true data_rank edge within front is =
      let same = same_Some (span_at p spot.rank) s is in
      let begins : spot.offset ≡ 0 = grind (arith, front) in
      let place : (span_at p spot.rank).at ≡ s.at = ap (λ (t : Span). t.at) same in
      record {
        rank = spot.rank;
        offset = spot.offset;
        few = known.rank;
        back = known.back;
        at = omega (arith, begins, place);
        how = inr (record { head_rank = data_rank; front = begins; len = sym (ap (λ (t : Span). t.len) same) });
      }
  there false c d false data_rank edge within front is = absurd (grind (arith, is))

pub erased_is_span : (p : Placement) (v : ℕ) (s : Span) → erased p v ≡ Some s → IsErasedSpan p v s
erased_is_span p v s is =
    let spot = spot_of p v in
    there p v s spot (spot_of_gives_byte_back p v) (is_data spot.rank) (spot.offset % p.sector == 0)
    (nat_lt spot.offset (span_at p spot.rank).len)
    (spot.offset == 0) refl refl refl refl is

data_rank_is_two_or_five : (i : ℕ) (b c : Bool) → (i == 2) ≡ b → (i == 5) ≡ c → (b || c) ≡ true → (i ≡ 2) ⊎ (i ≡ 5)
data_rank_is_two_or_five i true c x y is = inl (grind (arith, x))
data_rank_is_two_or_five i false true x y is = inr (grind (arith, y))
data_rank_is_two_or_five i false false x y is = absurd (grind (arith, is))

first_data_span_length : (p : Placement) → (span_at p 2).len ≡ p.first.data.len
unfolding span_at
first_data_span_length p = refl

second_data_span_length : (p : Placement) → (span_at p 5).len ≡ p.second.data.len
unfolding span_at
second_data_span_length p = refl

-- The data of either slot are as long as the first data.
pub data_spans_equal_first : (regions : List Region) (needs : Needs) (p : Placement) → IsPlacement regions needs p → (i : ℕ)
    → is_data i ≡ true →
    (span_at p i).len ≡ p.first.data.len
data_spans_equal_first regions needs p is i x = ⊎_elim
    (λ two. ap (λ r. (span_at p r).len) two ∙ first_data_span_length p)
    (λ five. ap (λ r. (span_at p r).len) five ∙ second_data_span_length p ∙ is.sizes.second)
    (data_rank_is_two_or_five i (i == 2) (i == 5) refl refl x)

-- If two virtual bytes are in the same gate, header or data, the earlier one has the smaller offset.
offsets_lt : (v w s t i j : ℕ) → v ≡ s + i → w ≡ t + j → s ≡ t → v < w → i < j
offsets_lt v w s t i j a b c d = omega (arith, a, b, c, d)

module _ (regions : List Region) (needs : Needs) (p : Placement) (is : IsPlacement regions needs p) where
  -- The erased span ends within its gate, header or data.
  pub erase_ends_in_thing : (v : ℕ) (s : Span) (x : IsErasedSpan p v s) → end_of s ≤ end_of (span_at p x.rank)
  erase_ends_in_thing v s x = ⊎_elim
      (λ (part : ErasesDataSector p x.rank x.offset s).
      let len = data_spans_equal_first regions needs p is x.rank part.data_rank in
      let whole : (span_at p x.rank).len % p.sector ≡ 0 = ap (λ n. n % p.sector) len ∙ is.sizes.capacity.whole in
      omega (arith, x.at, part.len, sector_ends_before_edge p.sector x.offset (span_at p x.rank).len part.edge whole part.within))
      (λ (all : ErasesHead p x.rank x.offset s). omega (arith, x.at, all.len, all.front))
      x.how

  -- If two spans are apart, spans within them are apart.
  smaller : (s t big other : Span) → big.at ≤ s.at → end_of s ≤ end_of big → other.at ≤ t.at → end_of t ≤ end_of other → IsApart big other →
      IsApart s t
  smaller s t big other a b c d (inl e) = inl (omega (arith, a, b, c, d, e))
  smaller s t big other a b c d (inr e) = inr (omega (arith, a, b, c, d, e))

  bool_has_one_value : (b c : Bool) → b ≡ true → c ≡ false → b ≡ c → ⊥
  bool_has_one_value b c x y z = grind (arith, x, y, z)

  erases_in_thing_apart : (v w : ℕ) (s t : Span) (x : IsErasedSpan p v s) (y : IsErasedSpan p w t) → v < w → x.rank ≡ y.rank → IsApart s t
  erases_in_thing_apart v w s t x y lt same =
      let starts : start_of p x.rank ≡ start_of p y.rank = ap (λ r. start_of p r) same in
      let places : (span_at p x.rank).at ≡ (span_at p y.rank).at = ap (λ r. (span_at p r).at) same in
      let before : x.offset < y.offset = offsets_lt v w (start_of p x.rank) (start_of p y.rank) x.offset y.offset x.back y.back starts lt in
      ⊎_elim
      (λ (part : ErasesDataSector p x.rank x.offset s). ⊎_elim
      (λ (other : ErasesDataSector p y.rank y.offset t).
      let next = sector_ends_before_edge p.sector x.offset y.offset part.edge other.edge before in
      inl (omega (arith, x.at, y.at, part.len, places, next)))
      (λ (other : ErasesHead p y.rank y.offset t). absurd (omega (arith, before, other.front)))
      y.how)
      (λ (all : ErasesHead p x.rank x.offset s). ⊎_elim
      (λ (other : ErasesDataSector p y.rank y.offset t). absurd
      (bool_has_one_value (is_data y.rank) (is_data x.rank) other.data_rank all.head_rank (sym (ap (λ r. is_data r) same))))
      (λ (other : ErasesHead p y.rank y.offset t). absurd (omega (arith, before, other.front)))
      y.how)
      x.how

  -- The spans that are erased for two virtual bytes are apart.
  spans_apart : (v w : ℕ) (s t : Span) (x : IsErasedSpan p v s) (y : IsErasedSpan p w t) → v < w → IsApart s t
  spans_apart v w s t x y lt = ⊎_elim
      (λ same. erases_in_thing_apart v w s t x y lt same)
      (λ other. smaller s t (span_at p x.rank) (span_at p y.rank) (omega (arith, x.at)) (erase_ends_in_thing v s x) (omega (arith, y.at))
      (erase_ends_in_thing w t y) (things_apart regions needs p is x.rank y.rank x.few y.few other))
      (equal_or_ordered x.rank y.rank)

pub erases_apart : ErasesApart
erases_apart regions needs p v w s t is lt x y = spans_apart regions needs p is v w s t (erased_is_span p v s x) (erased_is_span p w t y) lt
