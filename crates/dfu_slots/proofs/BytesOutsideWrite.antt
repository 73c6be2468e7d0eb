-- A write keeps the bytes outside its range.
use Rattle.std.proofs.Common.{◌≡◌, ◌⊎◌, inl, inr, ℕ, ◌+◌, ◌-◌, ◌≤◌, ◌<◌, List, ◌∷◌, ◌++◌, length, get_or, take, drop, slice_index, slice_range, sym, ◌∙◌, ap, subst, arith, length-append, length-drop}
use Rattle.std.proofs.lemmas.List.{take-take, drop-drop, get_or-take, get_or-drop, take_at, drop_at, append_assoc, length-take-le, length-take}
use Rattle.std.proofs.lemmas.Slice.{between_is}
use Rattle.dfu_slots.specs.Medium.{ChangedWithin, Torn, written}

-- A write keeps a range that ends before the written range.
range_kept_below_write : (old now : List ℕ) (from i j : ℕ) → take from now ≡ take from old → j ≤ from → slice_range now i j
    ≡ slice_range old i j
range_kept_below_write old now from i j same le =
    between_is now i j
    ∙ ap (λ (l : List ℕ). drop i l) (sym (take-take j from now le) ∙ ap (λ (l : List ℕ). take j l) same ∙ take-take j from old le)
    ∙ sym (between_is old i j)

-- Dropping i elements is the same as dropping n of them and then the other i - n.
pub drop_in_two_steps : (l : List ℕ) (n i : ℕ) → n ≤ i → drop i l ≡ drop (i - n) (drop n l)
drop_in_two_steps l n i le = let e : i ≡ n + (i - n) = omega arith in ap (λ (k : ℕ). drop k l) e ∙ sym (drop-drop (i - n) n l)

-- A write keeps a range that begins after the written range.
range_kept_above_write : (old now : List ℕ) (to i j : ℕ) → drop to now ≡ drop to old → to ≤ i → slice_range now i j ≡ slice_range old i j
range_kept_above_write old now to i j same le =
    ap (λ (l : List ℕ). take (j - i) l) (drop_in_two_steps now to i le ∙ ap (λ (l : List ℕ). drop (i - to) l) same
    ∙ sym (drop_in_two_steps old to i le))

-- A write keeps a range that doesn't overlap the written range.
pub range_kept_outside_write : (from to : ℕ) (old now : List ℕ) (i j : ℕ) → ChangedWithin from to old now → (j ≤ from) ⊎ (to ≤ i)
    → slice_range now i j ≡ slice_range old i j
range_kept_outside_write from to old now i j keeps (inl below) = range_kept_below_write old now from i j keeps.before below
range_kept_outside_write from to old now i j keeps (inr above) = range_kept_above_write old now to i j keeps.after above

-- A write keeps a byte outside the written range.
pub byte_kept_outside_write : (from to : ℕ) (old now : List ℕ) (i : ℕ) → ChangedWithin from to old now → (i < from) ⊎ (to ≤ i)
    → slice_index now i ≡ slice_index old i
byte_kept_outside_write from to old now i keeps (inl below) =
    sym (get_or-take from now i 0 below) ∙ ap (λ (l : List ℕ). get_or l i 0) keeps.before ∙ get_or-take from old i 0 below
byte_kept_outside_write from to old now i keeps (inr above) =
    let e : to + (i - to) ≡ i = omega arith in
    ap (λ (k : ℕ). get_or now k 0) (sym e) ∙ sym (get_or-drop to now (i - to) 0) ∙ ap (λ (l : List ℕ). get_or l (i - to) 0) keeps.after
    ∙ get_or-drop to old (i - to) 0
    ∙ ap (λ (k : ℕ). get_or old k 0) e

-- If a range is `x ∷ xs`, the byte at its first offset is x.
pub range_begins_there : (l : List ℕ) (i j x : ℕ) (xs : List ℕ) → i < j → slice_range l i j ≡ x ∷ xs → slice_index l i ≡ x
range_begins_there l i j x xs lt is =
    let e : i ≡ i + 0 = omega arith in
    ap (λ (k : ℕ). get_or l k 0) e ∙ sym (get_or-drop i l 0 0) ∙ sym (get_or-take (j - i) (drop i l) 0 0 (omega arith))
    ∙ ap (λ (r : List ℕ). get_or r 0 0) is

-- A change within a range is a change within each larger range.
pub wider_frame_holds : (a b from to : ℕ) (old now : List ℕ) → ChangedWithin a b old now → from ≤ a → b ≤ to → ChangedWithin from to old now
wider_frame_holds a b from to old now keeps low high = record {
  size = keeps.size;
  before = sym (take-take from a now low) ∙ ap (λ (l : List ℕ). take from l) keeps.before ∙ take-take from a old low;
  after = drop_in_two_steps now b to high ∙ ap (λ (l : List ℕ). drop (to - b) l) keeps.after ∙ sym (drop_in_two_steps old b to high);
}

-- An unchanged list counts as changed within every range.
pub no_change_keeps_all : (from to : ℕ) (old now : List ℕ) → now ≡ old → ChangedWithin from to old now
no_change_keeps_all from to old now same = record {
  size = ap length same;
  before = ap (λ (l : List ℕ). take from l) same;
  after = ap (λ (l : List ℕ). drop to l) same;
}

-- Two successive changes within a range are one change within it.
pub two_changes_are_one_change : (from to : ℕ) (old mid now : List ℕ) → ChangedWithin from to old mid → ChangedWithin from to mid now
    → ChangedWithin from to old now
two_changes_are_one_change from to old mid now first second = record {
  size = second.size ∙ first.size;
  before = second.before ∙ first.before;
  after = second.after ∙ first.after;
}

module _ (old : List ℕ) (at : ℕ) (new : List ℕ) (fits : at + length new ≤ length old) where
  front_length_before_write : length (take at old) ≡ at
  front_length_before_write = length-take-le at old (omega arith)

  -- A write that works is also a torn write.
  pub whole_write_is_torn : Torn old at new (written old at new)
  whole_write_is_torn = record {
    size = omega (
      arith,
      length-append (take at old ++ new) (drop (at + length new) old),
      length-append (take at old) new,
      front_length_before_write,
      length-drop (at + length new) old,
    );
    before = ap (λ (l : List ℕ). take at l) (append_assoc (take at old) new (drop (at + length new) old))
        ∙ take_at (take at old) (new ++ drop (at + length new) old) at front_length_before_write;
    after = drop_at (take at old ++ new) (drop (at + length new) old) (at + length new)
        (omega (arith, length-append (take at old) new, front_length_before_write));
  }

  -- After a write the written range holds exactly the bytes `new`.
  pub written_bytes_in_range : slice_range (written old at new) at (at + length new) ≡ new
  written_bytes_in_range =
      ap (λ (l : List ℕ). take (at + length new - at) (drop at l)) (append_assoc (take at old) new (drop (at + length new) old))
      ∙ ap (λ (l : List ℕ). take (at + length new - at) l) (drop_at (take at old) (new
      ++ drop (at + length new) old) at front_length_before_write)
      ∙ take_at new (drop (at + length new) old) (at + length new - at) (omega arith)

-- If a write stores only the first bytes of a tear, it is a torn write.
pub short_tear_is_torn : (old : List ℕ) (at : ℕ) (new tear left : List ℕ) → at + length new ≤ length old
    → left ≡ written old at (take (length new) tear) → Torn old at new left
short_tear_is_torn old at new tear left fits is =
    let short = take (length new) tear in
    let le : length short ≤ length new = omega (arith, length-take (length new) tear) in
    let torn : Torn old at short left = subst (Torn old at short) (sym is) (whole_write_is_torn old at short (omega (arith, fits, le))) in
    wider_frame_holds at (at + length short) at (at + length new) old left torn (omega arith) (omega (arith, le))
