-- Any two virtual bytes on the part have different addresses.
use Rattle.std.proofs.Common.{◌≡◌, inl, inr, ⊎_elim, ℕ, ◌+◌, ◌≤◌, ◌<◌, nat_lt, Some, List, refl, ap, arith}
use Rattle.dfu_places.specs.declared.region.Span.{Span}
use Rattle.dfu_places.specs.declared.region.Region.{Region}
use Rattle.dfu_places.specs.declared.placement.Placement.{Placement}
use Rattle.dfu_places.specs.declared.placement.Needs.{Needs}
use Rattle.dfu_places.specs.Regions.{end_of, IsApart}
use Rattle.dfu_places.specs.Things.{span_at, bytes_at}
use Rattle.dfu_places.specs.Placement.{IsPlacement}
use Rattle.dfu_places.specs.Finding.{spot_of, found}
use Rattle.dfu_places.specs.Laws.{IsOneToOne}
use Rattle.dfu_places.proofs.Spots.{start_of, spot_of_gives_byte_back, found_address_is_computed}
use Rattle.dfu_places.proofs.Places.{things_apart, virtual_bytes_fit_thing, equal_or_ordered}

-- Virtual byte `v` lies at address `a`: it is byte `offset` of a gate, header or data of a slot, and that byte is on the part.
pub record ByteLiesAt (p : Placement) (v a : ℕ) : Type 0 where
  pub rank : ℕ
  pub offset : ℕ
  pub few : rank ≤ 5
  pub back : v ≡ start_of p rank + offset
  pub within : offset + 1 ≤ bytes_at p rank
  pub inside : offset + 1 ≤ (span_at p rank).len
  pub at : (span_at p rank).at + offset ≡ a

pub found_byte_lies_at : (p : Placement) (v a : ℕ) → found p v 1 ≡ Some a → ByteLiesAt p v a
found_byte_lies_at p v a is =
    let spot = spot_of p v in
    let known = spot_of_gives_byte_back p v in
    let there = found_address_is_computed (bytes_at p spot.rank) (spot.offset + 1) ((span_at p spot.rank).at + spot.offset) a
    (nat_lt (bytes_at p spot.rank) (spot.offset + 1)) refl is in
    record {
      rank = spot.rank;
      offset = spot.offset;
      few = known.rank;
      back = known.back;
      within = there.0;
      inside = omega (arith, there.0, virtual_bytes_fit_thing p spot.rank);
      at = there.1;
    }

-- If two spans are apart, no address lies in both.
pub address_not_in_both_spans : (s t : Span) (a : ℕ) → IsApart s t → s.at ≤ a → a < end_of s → t.at ≤ a → a < end_of t → ⊥
address_not_in_both_spans s t a (inl x) b c d e = omega (arith, x, b, c, d, e)
address_not_in_both_spans s t a (inr x) b c d e = omega (arith, x, b, c, d, e)

-- Two virtual bytes at the same address are in the same gate, header or data.
pub bytes_at_address_same_rank : (regions : List Region) (needs : Needs) (p : Placement) → IsPlacement regions needs p → (v w a : ℕ) →
    (x : ByteLiesAt p v a) (y : ByteLiesAt p w a) → x.rank ≡ y.rank
bytes_at_address_same_rank regions needs p is v w a x y = ⊎_elim
    (λ same. same)
    (λ other. absurd (address_not_in_both_spans (span_at p x.rank) (span_at p y.rank) a
    (things_apart regions needs p is x.rank y.rank x.few y.few other)
    (omega (arith, x.at)) (omega (arith, x.at, x.inside)) (omega (arith, y.at)) (omega (arith, y.at, y.inside))))
    (equal_or_ordered x.rank y.rank)

offsets_decide_bytes : (v w s t i j : ℕ) → v ≡ s + i → w ≡ t + j → s ≡ t → i ≡ j → v ≡ w
offsets_decide_bytes v w s t i j a b c d = omega (arith, a, b, c, d)

same_address_is_same_byte : (p : Placement) (v w a : ℕ) (x : ByteLiesAt p v a) (y : ByteLiesAt p w a) → x.rank ≡ y.rank → v ≡ w
same_address_is_same_byte p v w a x y same =
    let starts : start_of p x.rank ≡ start_of p y.rank = ap (λ r. start_of p r) same in
    let places : (span_at p x.rank).at ≡ (span_at p y.rank).at = ap (λ r. (span_at p r).at) same in
    let offsets : x.offset ≡ y.offset = omega (arith, x.at, y.at, places) in
    offsets_decide_bytes v w (start_of p x.rank) (start_of p y.rank) x.offset y.offset x.back y.back starts offsets

pub addresses_are_one_to_one : IsOneToOne
addresses_are_one_to_one regions needs p v w a is x y =
    let one = found_byte_lies_at p v a x in
    let other = found_byte_lies_at p w a y in
    same_address_is_same_byte p v w a one other (bytes_at_address_same_rank regions needs p is v w a one other)
