-- An erase of a virtual sector erases no virtual byte outside that sector.
use Rattle.std.proofs.Common.{◌≡◌, ◌⊎◌, ⊎_elim, ℕ, ◌+◌, ◌≤◌, ◌<◌, min, Bool, true, false, List, sym, ◌∙◌, ap, arith, if◌then◌else◌}
use Rattle.dfu_places.specs.declared.region.Span.{Span}
use Rattle.dfu_places.specs.declared.region.Region.{Region}
use Rattle.dfu_places.specs.declared.placement.Placement.{Placement}
use Rattle.dfu_places.specs.declared.placement.Needs.{Needs}
use Rattle.dfu_places.specs.Regions.{end_of}
use Rattle.dfu_places.specs.Things.{span_at, bytes_at}
use Rattle.dfu_places.specs.Placement.{IsPlacement}
use Rattle.dfu_places.specs.Laws.{ErasesItsOwn}
use Rattle.dfu_places.proofs.Spots.{start_of}
use Rattle.dfu_places.proofs.Places.{things_apart, equal_or_ordered}
use Rattle.dfu_places.proofs.OneToOne.{ByteLiesAt, found_byte_lies_at, address_not_in_both_spans}
use Rattle.dfu_places.proofs.Erasing.{is_data, ErasesDataSector, ErasesHead, IsErasedSpan, erased_is_span, erase_ends_in_thing}

offsets_decide_bytes : (v w s t i j sector : ℕ) → v ≡ s + i → w ≡ t + j → s ≡ t → i ≤ j → j < i + sector → (v ≤ w) × (w < v + sector)
offsets_decide_bytes v w s t i j sector a b c d e = (omega (arith, a, b, c, d), omega (arith, a, b, c, e))

chosen_head_within_sector : (b : Bool) (len sector : ℕ) → b ≡ false → (if b then len else min len sector) ≤ sector
chosen_head_within_sector true len sector x = absurd (grind (arith, x))
chosen_head_within_sector false len sector x = omega arith

-- At most a virtual sector of a gate or header is mapped to virtual bytes.
head_fits_virtual_sector : (p : Placement) (i : ℕ) → is_data i ≡ false → bytes_at p i ≤ p.sector
unfolding bytes_at
head_fits_virtual_sector p i x = chosen_head_within_sector (is_data i) (span_at p i).len p.sector x

module _ (regions : List Region) (needs : Needs) (p : Placement) (is : IsPlacement regions needs p) where
  erase_keeps_to_its_sector : (v w a : ℕ) (s : Span) (x : IsErasedSpan p v s) (y : ByteLiesAt p w a) → s.at ≤ a → a < end_of s
      → x.rank ≡ y.rank →
      (v ≤ w) × (w < v + p.sector)
  erase_keeps_to_its_sector v w a s x y from to same =
      let starts : start_of p x.rank ≡ start_of p y.rank = ap (λ r. start_of p r) same in
      let places : (span_at p x.rank).at ≡ (span_at p y.rank).at = ap (λ r. (span_at p r).at) same in
      let after : x.offset ≤ y.offset = omega (arith, x.at, y.at, places, from) in
      let before : y.offset < x.offset + p.sector = ⊎_elim
      (λ (part : ErasesDataSector p x.rank x.offset s). omega (arith, x.at, y.at, places, to, part.len))
      (λ (all : ErasesHead p x.rank x.offset s).
      let head : is_data y.rank ≡ false = ap (λ r. is_data r) (sym same) ∙ all.head_rank in
      omega (arith, all.front, y.within, head_fits_virtual_sector p y.rank head))
      x.how in
      offsets_decide_bytes v w (start_of p x.rank) (start_of p y.rank) x.offset y.offset p.sector x.back y.back starts after before

  erase_misses_other_things : (v w a : ℕ) (s : Span) (x : IsErasedSpan p v s) (y : ByteLiesAt p w a) → s.at ≤ a → a < end_of s →
      (x.rank < y.rank) ⊎ (y.rank < x.rank) → ⊥
  erase_misses_other_things v w a s x y from to other =
      let inside = erase_ends_in_thing regions needs p is v s x in
      address_not_in_both_spans (span_at p x.rank) (span_at p y.rank) a (things_apart regions needs p is x.rank y.rank x.few y.few other)
      (omega (arith, x.at, from)) (omega (arith, to, inside)) (omega (arith, y.at)) (omega (arith, y.at, y.inside))

  erase_reaches_own_bytes_only : (v w a : ℕ) (s : Span) (x : IsErasedSpan p v s) (y : ByteLiesAt p w a) → s.at ≤ a → a < end_of s →
      (v ≤ w) × (w < v + p.sector)
  erase_reaches_own_bytes_only v w a s x y from to = ⊎_elim
      (λ same. erase_keeps_to_its_sector v w a s x y from to same)
      (λ other. absurd (erase_misses_other_things v w a s x y from to other))
      (equal_or_ordered x.rank y.rank)

pub erase_keeps_other_bytes : ErasesItsOwn
erase_keeps_other_bytes regions needs p v w a s is x y from to =
    erase_reaches_own_bytes_only regions needs p is v w a s (erased_is_span p v s x) (found_byte_lies_at p w a y) from to
