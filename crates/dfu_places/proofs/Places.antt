-- The gates, headers and data of both slots do not overlap, and end below 2^32.
use Rattle.std.proofs.Common.{◌≡◌, ◌⊎◌, inl, inr, ℕ, ◌≤◌, ◌<◌, ◌^◌, ◌==◌, ◌||◌, nat_lt, min, Bool, true, false, Option, Some, None, List, refl, arith, if◌then◌else◌}
use Rattle.dfu_places.specs.declared.region.Span.{Span}
use Rattle.dfu_places.specs.declared.region.Region.{Region}
use Rattle.dfu_places.specs.declared.placement.Placement.{Placement}
use Rattle.dfu_places.specs.declared.placement.Needs.{Needs}
use Rattle.dfu_places.specs.Regions.{end_of, IsApart}
use Rattle.dfu_places.specs.Things.{things, things_with, span_at, bytes_at}
use Rattle.dfu_places.specs.Placement.{IsPlacement, IsPlaced}

slot_ranks_below_count : (run : Option Span) (i : ℕ) → i ≤ 5 → i < things_with run
slot_ranks_below_count (Some span) i le = omega (arith, le)
slot_ranks_below_count None i le = omega (arith, le)

-- Every placement has a `Thing` of each rank from 0 to 5: the gates, headers and data.
pub slot_rank_is_thing : (p : Placement) (i : ℕ) → i ≤ 5 → i < things p
slot_rank_is_thing p i le = slot_ranks_below_count p.run i le

apart_both_ways : (a b : Span) → IsApart a b → IsApart b a
apart_both_ways a b (inl x) = inr x
apart_both_ways a b (inr x) = inl x

-- The gates, headers and data of both slots have no byte in common with each other.
pub things_apart : (regions : List Region) (needs : Needs) (p : Placement) → IsPlacement regions needs p → (i j : ℕ) → i ≤ 5 → j ≤ 5 →
    (i < j) ⊎ (j < i) → IsApart (span_at p i) (span_at p j)
things_apart regions needs p is i j li lj (inl lt) = apart_both_ways (span_at p j) (span_at p i) (is.own j (slot_rank_is_thing p j lj) i lt)
things_apart regions needs p is i j li lj (inr lt) = is.own i (slot_rank_is_thing p i li) j lt

chosen_bytes_fit_thing : (len sector : ℕ) (b : Bool) → (if b then len else min len sector) ≤ len
chosen_bytes_fit_thing len sector true = omega arith
chosen_bytes_fit_thing len sector false = omega arith

-- Each gate, header or data span has at least as many bytes as are mapped to virtual bytes.
pub virtual_bytes_fit_thing : (p : Placement) (i : ℕ) → bytes_at p i ≤ (span_at p i).len
unfolding bytes_at
virtual_bytes_fit_thing p i = chosen_bytes_fit_thing (span_at p i).len p.sector (i == 2 || i == 5)

ordered : (i j : ℕ) (b c : Bool) → nat_lt i j ≡ b → nat_lt j i ≡ c → (i ≡ j) ⊎ (i < j) ⊎ (j < i)
ordered i j true c x y = inr (inl (grind (arith, x)))
ordered i j false true x y = inr (inr (grind (arith, y)))
ordered i j false false x y = inl (grind (arith, x, y))

-- Two numbers are equal, or one is less.
pub equal_or_ordered : (i j : ℕ) → (i ≡ j) ⊎ (i < j) ⊎ (j < i)
equal_or_ordered i j = ordered i j (nat_lt i j) (nat_lt j i) refl refl

-- Each gate, header and data of the slots ends below 2^32.
pub slot_thing_ends_below_bound : (p : Placement) → IsPlaced p → (i : ℕ) → i ≤ 5 → end_of (span_at p i) < 2 ^ 32
slot_thing_ends_below_bound p placed i few =
    let whole = placed.accepted.whole i (slot_rank_is_thing p i few) in
    omega (arith, whole.split.within, whole.split.bound)
