-- Lemmas about lists of writes: the bytes that they leave outside a range, the count of failures, and parts of a list.
use Rattle.std.proofs.Common.{◌≡◌, ◌⊎◌, inl, inr, Bool, true, false, if◌then◌else◌, ℕ, ◌+◌, ◌≤◌, List, [], ◌∷◌, ◌++◌, length, Result, Ok, Err, OnOk, IfErr, refl, sym, ◌∙◌, ap, subst, arith}
use Rattle.dfu_slots.specs.declared.fault.WriteFault.{WriteFault}
use Rattle.dfu_slots.specs.Medium.{MediumState, Write, ChangedWithin, Torn, CountRose, WroteBytes, FailedWrite, AllWrites, BrokenWrites}
use Rattle.dfu_slots.specs.inside.Series.{Series}
use Rattle.dfu_slots.proofs.BytesOutsideWrite.{whole_write_is_torn, wider_frame_holds, no_change_keeps_all, two_changes_are_one_change}

-- Every write of the list lies in the range from `from` up to, not including, `to`.
abbrev pub AllWritesInside : ℕ → ℕ → List Write → Type 0
AllWritesInside from to [] = Unit {0}
AllWritesInside from to (w ∷ ws) = (from ≤ w.at) × (w.at + length w.bytes ≤ to) × AllWritesInside from to ws

-- All writes of a list were made, or those up to one that had a fault.
abbrev pub WritesEnded : MediumState → List Write → MediumState → Type 0
WritesEnded s ws now = AllWrites s ws now ⊎ ((fault : WriteFault) × BrokenWrites fault s ws now)

module _ (from to : ℕ) where
  write_inside_keeps_rest : (s now : MediumState) (w : Write) → to ≤ length s.bytes → from ≤ w.at → w.at + length w.bytes ≤ to
      → WroteBytes s w.at w.bytes now → ChangedWithin from to s.bytes now.bytes
  write_inside_keeps_rest s now w room low high wrote =
      let torn : Torn s.bytes w.at w.bytes now.bytes = subst (λ (l : List ℕ). Torn s.bytes w.at w.bytes l) (sym wrote.bytes)
      (whole_write_is_torn s.bytes w.at w.bytes (omega arith)) in
      wider_frame_holds w.at (w.at + length w.bytes) from to s.bytes now.bytes torn low high

  -- If all writes lie in a range and all of them work, the bytes outside the range stay.
  pub writes_inside_keep_rest : (ws : List Write) (s now : MediumState) → to ≤ length s.bytes → AllWritesInside from to ws →
      AllWrites s ws now
      → ChangedWithin from to s.bytes now.bytes
  writes_inside_keep_rest [] s now room inside same = no_change_keeps_all from to s.bytes now.bytes (ap (λ (m : MediumState). m.bytes) same)
  writes_inside_keep_rest (w ∷ ws) s now room (low, high, inside) (next, wrote, more) =
      let first = write_inside_keeps_rest s next w room low high wrote in
      two_changes_are_one_change from to s.bytes next.bytes now.bytes first (writes_inside_keep_rest ws next now (omega (arith, first.size))
      inside more)

  -- If all writes lie in a range and one of them fails, the bytes outside the range stay.
  pub broken_writes_keep_rest : (fault : WriteFault) (ws : List Write) (s now : MediumState) → to ≤ length s.bytes →
      AllWritesInside from to ws
      → BrokenWrites fault s ws now
      → ChangedWithin from to s.bytes now.bytes
  broken_writes_keep_rest fault [] s now room inside none = absurd none
  broken_writes_keep_rest fault (w ∷ ws) s now room (low, high, inside) (inl failed) =
      wider_frame_holds w.at (w.at + length w.bytes) from to s.bytes now.bytes failed.bytes low high
  broken_writes_keep_rest fault (w ∷ ws) s now room (low, high, inside) (inr (next, wrote, more)) =
      let first = write_inside_keeps_rest s next w room low high wrote in
      two_changes_are_one_change from to s.bytes next.bytes now.bytes first
      (broken_writes_keep_rest fault ws next now (omega (arith, first.size)) inside more)

  -- If all writes lie in a range, the bytes outside it stay, even if one of the writes fails.
  pub ended_writes_keep_rest : (ws : List Write) (s now : MediumState) → to ≤ length s.bytes → AllWritesInside from to ws →
      WritesEnded s ws now
      → ChangedWithin from to s.bytes now.bytes
  ended_writes_keep_rest ws s now room inside (inl all) = writes_inside_keep_rest ws s now room inside all
  ended_writes_keep_rest ws s now room inside (inr (fault, broken)) = broken_writes_keep_rest fault ws s now room inside broken

-- Lemmas about the grain of the medium.

-- Writes that all work keep the grain.
pub writes_keep_grain : (ws : List Write) (s now : MediumState) → AllWrites s ws now → now.grain ≡ s.grain
writes_keep_grain [] s now same = ap (λ (m : MediumState). m.grain) same
writes_keep_grain (w ∷ ws) s now (next, wrote, more) = writes_keep_grain ws next now more ∙ wrote.grain

broken_writes_keep_grain : (fault : WriteFault) (ws : List Write) (s now : MediumState) → BrokenWrites fault s ws now → now.grain ≡ s.grain
broken_writes_keep_grain fault [] s now none = absurd none
broken_writes_keep_grain fault (w ∷ ws) s now (inl failed) = failed.grain
broken_writes_keep_grain fault (w ∷ ws) s now (inr (next, wrote, more)) = broken_writes_keep_grain fault ws next now more ∙ wrote.grain

-- Writes keep the grain, even if one of them fails.
pub ended_writes_keep_grain : (ws : List Write) (s now : MediumState) → WritesEnded s ws now → now.grain ≡ s.grain
ended_writes_keep_grain ws s now (inl all) = writes_keep_grain ws s now all
ended_writes_keep_grain ws s now (inr (fault, broken)) = broken_writes_keep_grain fault ws s now broken

-- Two media have the same grain and the same length.
pub record SameSize (m n : MediumState) : Type 0 where
  pub grain : n.grain ≡ m.grain
  pub size : length n.bytes ≡ length m.bytes

-- Writes in a range that ends within the medium keep the medium's grain and length.
pub writes_keep_size : (from to : ℕ) (ws : List Write) (s now : MediumState) → to ≤ length s.bytes → AllWritesInside from to ws →
    WritesEnded s ws now
    → SameSize s now
writes_keep_size from to ws s now room inside ends = record {
  grain = ended_writes_keep_grain ws s now ends;
  size = (ended_writes_keep_rest from to ws s now room inside ends).size;
}

-- If writes lie within the medium and all of them work, the medium's grain and length stay.
pub all_writes_keep_size : (ws : List Write) (s now : MediumState) → AllWritesInside 0 (length s.bytes) ws → AllWrites s ws now →
    SameSize s now
all_writes_keep_size ws s now inside all = writes_keep_size 0 (length s.bytes) ws s now (omega arith) inside (inl all)

-- SameSize is transitive.
pub size_is_transitive : {m n k : MediumState} → SameSize m n → SameSize n k → SameSize m k
size_is_transitive a b = record { grain = b.grain ∙ a.grain; size = b.size ∙ a.size }

-- Lemmas about the count of failures.

-- Writes that all work never lower the count of failures.
pub writes_lower_no_count : (ws : List Write) (s now : MediumState) → AllWrites s ws now → s.failures ≤ now.failures
writes_lower_no_count [] s now same = omega (arith, ap (λ (m : MediumState). m.failures) same)
writes_lower_no_count (w ∷ ws) s now (next, wrote, more) = omega (arith, wrote.failures, writes_lower_no_count ws next now more)

-- If a write of a list fails, the count of failures rises or is at its maximum.
pub broken_writes_raise_count : (fault : WriteFault) (ws : List Write) (s now : MediumState) → BrokenWrites fault s ws now
    → CountRose s.failures now.failures
broken_writes_raise_count fault [] s now none = absurd none
broken_writes_raise_count fault (w ∷ ws) s now (inl failed) = failed.failures
broken_writes_raise_count fault (w ∷ ws) s now (inr (next, wrote, more)) = omega (
  arith,
  wrote.failures,
  broken_writes_raise_count fault ws
      next now more,
)

-- Writes up to one that fails never lower the count of failures.
pub broken_writes_lower_no_count : (fault : WriteFault) (ws : List Write) (s now : MediumState) → BrokenWrites fault s ws now →
    s.failures ≤ now.failures
broken_writes_lower_no_count fault ws s now broken = omega (arith, broken_writes_raise_count fault ws s now broken)

-- Lemmas about the parts of a list of writes.

-- If the writes of two lists work one after the other, the writes of the appended list work.
pub two_lists_work_as_one : (ws vs : List Write) (s mid now : MediumState) → AllWrites s ws mid → AllWrites mid vs now →
    AllWrites s (ws ++ vs) now
two_lists_work_as_one [] vs s mid now same all = subst (λ (m : MediumState). AllWrites m vs now) same all
two_lists_work_as_one (w ∷ ws) vs s mid now (next, wrote, rest) all = (next, wrote, two_lists_work_as_one ws vs next mid now rest all)

-- If a write in the first of two lists fails, the appended list fails with the same fault.
pub first_part_may_break : (fault : WriteFault) (ws vs : List Write) (s now : MediumState) → BrokenWrites fault s ws now
    → BrokenWrites fault s (ws ++ vs) now
first_part_may_break fault [] vs s now broken = absurd broken
first_part_may_break fault (w ∷ ws) vs s now (inl failed) = inl failed
first_part_may_break fault (w ∷ ws) vs s now (inr (next, wrote, broken)) =
    inr (next, wrote, first_part_may_break fault ws vs next now broken)

-- If all writes of the first list work and one of the second fails, the appended list fails with the same fault.
pub second_part_may_break : (fault : WriteFault) (ws vs : List Write) (s mid now : MediumState) → AllWrites s ws mid
    → BrokenWrites fault mid vs now
    → BrokenWrites fault s (ws ++ vs) now
second_part_may_break fault [] vs s mid now same broken = subst (λ (m : MediumState). BrokenWrites fault m vs now) same broken
second_part_may_break fault (w ∷ ws) vs s mid now (next, wrote, rest) broken =
    inr (next, wrote, second_part_may_break fault ws vs next mid now rest broken)

-- Writes that all work, followed by a series of writes, form one series.
pub series_extends : {T : Type 0} (ws vs : List Write) (s mid now : MediumState) (r : Result T WriteFault) → AllWrites s ws mid
    → Series mid vs r now
    → Series s (ws ++ vs) r now
series_extends ws vs s mid now (Ok x) first second = two_lists_work_as_one ws vs s mid now first second
series_extends ws vs s mid now (Err fault) first second = second_part_may_break fault ws vs s mid now first second

-- A single write, with its result, is a series of one write.
pub one_write_is_series : {T : Type 0} (s now : MediumState) (at : ℕ) (bytes : List ℕ) (r : Result T WriteFault) →
    OnOk r (WroteBytes s at bytes now)
    → IfErr r (λ fault. FailedWrite fault s at bytes now) → Series s (record { at = at; bytes = bytes } ∷ []) r now
one_write_is_series s now at bytes (Ok x) wrote failed = (now, wrote, refl)
one_write_is_series s now at bytes (Err fault) wrote failed = inl failed

-- A list of writes has two parts: the first one worked and left the medium `mid`, and the fact `rest` holds for the second.
pub record HasTwoParts (ws vs : List Write) (s : MediumState) (mid : MediumState) (rest : Type 0) : Type 0 where
  pub first : AllWrites s ws mid
  pub second : rest

-- If an appended list of writes works, both parts work one after the other.
pub list_has_two_parts : (ws vs : List Write) (s now : MediumState) → AllWrites s (ws ++ vs) now → (mid : MediumState)
    × HasTwoParts ws vs s mid (AllWrites mid vs now)
list_has_two_parts [] vs s now all = (s, record { first = refl; second = all })
list_has_two_parts (w ∷ ws) vs s now (next, wrote, rest) =
    let parts = list_has_two_parts ws vs next now rest in
    (parts.0, record { first = (next, wrote, parts.1.first); second = parts.1.second })

-- If a write of an appended list fails, it is a write of the first part or of the second.
pub either_part_was_broken : (fault : WriteFault) (ws vs : List Write) (s now : MediumState) → BrokenWrites fault s (ws ++ vs) now
    → BrokenWrites fault s ws now
    ⊎ ((mid : MediumState) × HasTwoParts ws vs s mid (BrokenWrites fault mid vs now))
either_part_was_broken fault [] vs s now broken = inr (s, record { first = refl; second = broken })
either_part_was_broken fault (w ∷ ws) vs s now (inl failed) = inl (inl failed)
either_part_was_broken fault (w ∷ ws) vs s now (inr (next, wrote, rest)) = elim (either_part_was_broken fault ws vs next now rest) [
  | inl early ↦ inl (inr (next, wrote, early))
  | inr late ↦ inr (late.0, record { first = (next, wrote, late.1.first); second = late.1.second })
]

-- If a list of writes is made only when b is true, then either all writes were made or one failed, or b is false and nothing was written.
pub tested_writes_ended : (s now : MediumState) (b : Bool) (ws : List Write) → WritesEnded s (if b then ws else []) now → ((b ≡ true)
    × WritesEnded s ws now)
    ⊎ ((b ≡ false) × (now ≡ s))
tested_writes_ended s now true ws ends = inl (refl, ends)
tested_writes_ended s now false ws (inl same) = inr (refl, same)
tested_writes_ended s now false ws (inr (fault, none)) = absurd none

-- If a list of writes is made only when b is true, then either all of them worked, or b is false and nothing was written.
pub all_if : (s now : MediumState) (b : Bool) (ws : List Write) → AllWrites s (if b then ws else []) now → ((b ≡ true) × AllWrites s ws now)
    ⊎ ((b ≡ false) × (now ≡ s))
all_if s now true ws all = inl (refl, all)
all_if s now false ws same = inr (refl, same)

-- If a list of writes is made only when b is false, then either all of them worked, or b is true and nothing was written.
pub untested_writes_all_worked : (s now : MediumState) (b : Bool) (ws : List Write) → AllWrites s (if b then [] else ws) now → ((b ≡ true)
    × (now ≡ s))
    ⊎ ((b ≡ false) × AllWrites s ws now)
untested_writes_all_worked s now true ws same = inl (refl, same)
untested_writes_all_worked s now false ws all = inr (refl, all)

-- If two lists of writes lie in a range, the one that b selects lies in it too.
pub chosen_writes_inside : (from to : ℕ) (b : Bool) (ws vs : List Write) → AllWritesInside from to ws → AllWritesInside from to vs
    → AllWritesInside from to (if b then ws else vs)
chosen_writes_inside from to true ws vs a b = a
chosen_writes_inside from to false ws vs a b = b

-- If two lists of writes lie in a range, the appended list lies in it too.
pub appended_writes_inside : (from to : ℕ) (ws vs : List Write) → AllWritesInside from to ws → AllWritesInside from to vs →
    AllWritesInside from to (ws ++ vs)
appended_writes_inside from to [] vs a b = b
appended_writes_inside from to (w ∷ ws) vs (low, high, a) b = (low, high, appended_writes_inside from to ws vs a b)
