-- If `map_at` reads a map from a string, the string is a text of this map by the grammar.
use Rattle.std.proofs.Common.{◌≡◌, ℕ, zero, suc, ◌+◌, ◌<◌, ◌≤◌, ◌&&◌, inl, inr, Bool, true, false, not, cond, eqb, ltb, List, [], ◌∷◌, ◌++◌, length, take, drop, refl, sym, ap, ◌∙◌, subst, arith, Option, Some, None, Result, Ok, Err, IfOk, append_assoc}
use Rattle.std.specs.Prelude.{replicate}
use Rattle.std.specs.List.{prefix_len, position}
use Rattle.std.proofs.lemmas.Bool.{eq-eqb, eqb-true, ltb-true, and_parts}
use Rattle.std.proofs.lemmas.List.{append-nil}
use Rattle.dfu_formats.specs.declared.memory.pages.Pages.{Pages}
use Rattle.dfu_formats.specs.declared.memory.fault.MapFault.{MapFault}
use Rattle.dfu_formats.specs.declared.memory.fault.MapFault.TheVariants.{NoMap, TooManyRanges, Overlaps}
use Rattle.dfu_formats.specs.memory.Ranges.{end_of_range, are_apart}
use Rattle.dfu_formats.specs.memory.Reading.{NumberRead, MapContent, RangeRead, Named, ◌>>=◌, value_or_map_fault, text_after_byte, ranges_continued, group_at, address_at, next_range_place, ranges_at, trimmed_name, is_slash, name_up_to_slash, map_name_at, map_if_apart, map_at}
use Rattle.dfu_formats.specs.memory.Grammar.{IsMap, AreRanges, last, following, elsewhere, HasNoSlash, HasNoTrailingSpace}
use Rattle.dfu_formats.proofs.MapSteps.{both_steps_ok, value_or_fault_was_some, byte_taken_was_first}
use Rattle.dfu_formats.proofs.GroupsFound.{GroupSpelled, read_group_is_spelled}
use Rattle.dfu_formats.proofs.PlacesFound.{LeadsToNextRange, read_address_is_spelled, read_next_place_is_spelled}

-- ---- ranges

-- The text encodes these ranges, of which there are at most `most`. The first begins at `start`.
record RangesSpelled (most start : ℕ) (ps : List Pages) (text : List ℕ) : Type 0 where
  are : AreRanges start ps text
  few : length ps ≤ most

last_range_is_spelled : (most start : ℕ) (g : RangeRead) (ps : List Pages) (text : List ℕ) → GroupSpelled start g text → g.rest ≡ [] →
    ◌≡◌ {A = Result (List Pages) MapFault} (Ok (g.pages ∷ [])) (Ok ps) → RangesSpelled (suc most) start ps text
last_range_is_spelled most start g ps text s e h =
    let same : g.pages ∷ [] ≡ ps = cc in
    let whole : text ≡ s.group = s.text_is ∙ (ap (λ (xs : List ℕ). s.group ++ xs) e ∙ append-nil s.group) in
    subst (λ (qs : List Pages). RangesSpelled (suc most) start qs text) same (record {
      are = subst (λ (t : List ℕ). AreRanges start (g.pages ∷ []) t) (sym whole) (last s.group_is);
      few = omega arith;
    })

further_range_is_spelled : (most start : ℕ) (g : RangeRead) (place : NumberRead) (qs ps : List Pages) (text : List ℕ) →
    GroupSpelled start g text →
    LeadsToNextRange (end_of_range g.pages) (Some place) g.rest → RangesSpelled most place.value qs place.rest →
    ◌≡◌ {A = Result (List Pages) MapFault} (Ok (g.pages ∷ qs)) (Ok ps) → RangesSpelled (suc most) start ps text
unfolding LeadsToNextRange
further_range_is_spelled most start g place qs ps text s leads rest h =
    let same : g.pages ∷ qs ≡ ps = cc in
    subst (λ (rs : List Pages). RangesSpelled (suc most) start rs text) same (record {
      are = elim leads [
        | inl w ↦ subst (λ (t : List ℕ). AreRanges start (g.pages ∷ qs) t) (sym (s.text_is ∙ ap (λ (xs : List ℕ). s.group ++ xs) w.0))
            (following s.group_is (subst (λ (a : ℕ). AreRanges a qs place.rest) w.1 rest.are))
        | inr w ↦ subst (λ (t : List ℕ). AreRanges start (g.pages ∷ qs) t)
            (sym (s.text_is ∙ ap (λ (xs : List ℕ). s.group ++ xs) (w.1 ∙ ap (λ (xs : List ℕ). 47 ∷ xs) (w.2).text_is)))
            (elsewhere s.group_is (w.2).address_is rest.are)
      ];
      few = omega (arith, rest.few);
    })

more_ranges_are_spelled : (most start : ℕ) (g : RangeRead) (o : Option NumberRead) (ps : List Pages) (text : List ℕ) →
    GroupSpelled start g text →
    LeadsToNextRange (end_of_range g.pages) o g.rest → ((place : NumberRead) (qs : List Pages) → ranges_at most place.value place.rest
    ≡ Ok qs →
    RangesSpelled most place.value qs place.rest) →
    ranges_continued g.pages o (λ (place : NumberRead). ranges_at most place.value place.rest) ≡ Ok ps
    → RangesSpelled (suc most) start ps text
unfolding LeadsToNextRange
more_ranges_are_spelled most start g None ps text s leads rest h = last_range_is_spelled most start g ps text s leads h
more_ranges_are_spelled most start g (Some place) ps text s leads rest h =
    let t = both_steps_ok (ranges_at most place.value place.rest) (λ (ranges : List Pages). Ok (g.pages ∷ ranges)) ps h in
    further_range_is_spelled most start g place t.0 ps text s leads (rest place t.0 t.1) t.2

-- If `ranges_at` reads ranges from a text, the text encodes these ranges.
read_ranges_are_spelled : (most start : ℕ) (ps : List Pages) (text : List ℕ) → ranges_at most start text ≡ Ok ps →
    RangesSpelled most start ps text
unfolding ranges_at
read_ranges_are_spelled zero start ps text h =
    let t = both_steps_ok (group_at start text) (λ (g : RangeRead). Err TooManyRanges) ps h in
    let wrong = t.2 in cc
read_ranges_are_spelled (suc n) start ps text h =
    let g = both_steps_ok (group_at start text) (λ (g : RangeRead). next_range_place (end_of_range g.pages) g.rest
    >>= λ (next : Option NumberRead). ranges_continued g.pages next (λ (place : NumberRead). ranges_at n place.value place.rest)) ps h in
    let o = both_steps_ok (next_range_place (end_of_range (g.0).pages) (g.0).rest)
    (λ (next : Option NumberRead). ranges_continued (g.0).pages next (λ (place : NumberRead). ranges_at n place.value place.rest)) ps g.2 in
    more_ranges_are_spelled n start g.0 o.0 ps text (read_group_is_spelled start g.0 text g.1) (read_next_place_is_spelled (end_of_range
    (g.0).pages) o.0 (g.0).rest o.1)
    (λ place qs e. read_ranges_are_spelled n place.value qs place.rest e) o.2

-- ---- the name

-- `bytes` is `kept` followed by spaces, and `kept` doesn't end in a space.
record TrailingSpacesCut (kept bytes : List ℕ) : Type 0 where
  spaces : ℕ
  bytes_are : bytes ≡ kept ++ replicate spaces 32
  no_space : HasNoTrailingSpace kept

zero_length_is_nothing : (bs : List ℕ) → eqb (length bs) 0 ≡ true → bs ≡ []
zero_length_is_nothing [] h = refl
zero_length_is_nothing (b ∷ bs) h = absurd (omega (arith, eqb-true (length (b ∷ bs)) 0 h))

kept_byte_ends_in_no_space : (b : ℕ) (kept : List ℕ) → (eqb b 32 && eqb (length kept) 0) ≡ false → HasNoTrailingSpace kept →
    HasNoTrailingSpace (b ∷ kept)
unfolding HasNoTrailingSpace
kept_byte_ends_in_no_space b [] h k = λ e. let yes = eq-eqb b 32 e in cc
kept_byte_ends_in_no_space b (c ∷ cs) h k = k

nothing_has_no_trailing_space : HasNoTrailingSpace []
unfolding HasNoTrailingSpace
nothing_has_no_trailing_space = tt

trimmed_name_by_test : (b : ℕ) (bs kept : List ℕ) (t : Bool) → (eqb b 32 && eqb (length kept) 0) ≡ t → TrailingSpacesCut kept bs →
    TrailingSpacesCut (cond t [] (b ∷ kept)) (b ∷ bs)
trimmed_name_by_test b bs kept true e s =
    let both = and_parts (eqb b 32) (eqb (length kept) 0) e in
    let none = zero_length_is_nothing kept both.1 in record {
      spaces = suc s.spaces;
      bytes_are = ap (λ (k : ℕ). k ∷ bs) (eqb-true b 32 both.0)
          ∙ ap (λ (xs : List ℕ). 32 ∷ xs) (s.bytes_are ∙ ap (λ (xs : List ℕ). xs ++ replicate s.spaces 32) none);
      no_space = nothing_has_no_trailing_space;
    }
trimmed_name_by_test b bs kept false e s = record {
  spaces = s.spaces;
  bytes_are = ap (λ (xs : List ℕ). b ∷ xs) s.bytes_are;
  no_space = kept_byte_ends_in_no_space b kept e s.no_space;
}

-- `trimmed_name` removes exactly the spaces at the end.
trimmed_name_cuts_spaces : (bytes : List ℕ) → TrailingSpacesCut (trimmed_name bytes) bytes
unfolding trimmed_name
trimmed_name_cuts_spaces [] = record { spaces = 0; bytes_are = refl; no_space = nothing_has_no_trailing_space }
trimmed_name_cuts_spaces (b ∷ bs) = trimmed_name_by_test b bs (trimmed_name bs) (eqb b 32 && eqb (length (trimmed_name bs)) 0) refl
    (trimmed_name_cuts_spaces bs)

-- If a text has no `/`, no prefix of it has one.
prefix_has_no_slash : (xs ys : List ℕ) → HasNoSlash (xs ++ ys) → HasNoSlash xs
unfolding HasNoSlash
prefix_has_no_slash [] ys h = tt
prefix_has_no_slash (x ∷ xs) ys h = (h.0, prefix_has_no_slash xs ys h.1)

-- The first `/` of `text` is at index `n`.
record FirstSlashAt (n : ℕ) (text : List ℕ) : Type 0 where
  text_is : text ≡ take n text ++ 47 ∷ drop (n + 1) text
  no_slash : HasNoSlash (take n text)

empty_prefix_has_no_slash : (xs : List ℕ) → HasNoSlash (take 0 xs)
unfolding HasNoSlash
empty_prefix_has_no_slash xs = tt

next_byte_adds_no_slash : (b n : ℕ) (bs : List ℕ) → (b ≡ 47 → ⊥) → HasNoSlash (take n bs) → HasNoSlash (take (suc n) (b ∷ bs))
unfolding HasNoSlash
next_byte_adds_no_slash b n bs h k = (h, k)

first_slash_by_test : (b : ℕ) (bs : List ℕ) (k : ℕ) (t : Bool) → eqb b 47 ≡ t → (k < length bs → FirstSlashAt k bs) →
    cond (not t) (1 + k) 0 < length (b ∷ bs) → FirstSlashAt (cond (not t) (1 + k) 0) (b ∷ bs)
first_slash_by_test b bs k true e h room = record {
  text_is = ap (λ (c : ℕ). c ∷ bs) (eqb-true b 47 e);
  no_slash = empty_prefix_has_no_slash (b ∷ bs);
}
first_slash_by_test b bs k false e h room =
    let s = h (omega (arith, room)) in
    let one : 1 + k ≡ suc k = omega arith in
    subst (λ (n : ℕ). FirstSlashAt n (b ∷ bs)) (sym one) (record {
      text_is = ap (λ (xs : List ℕ). b ∷ xs) s.text_is
          ∙ ap (λ (j : ℕ). b ∷ (take k bs ++ 47 ∷ drop j (b ∷ bs))) (let e : suc (k + 1) ≡ suc k + 1 = omega arith in e);
      no_slash = next_byte_adds_no_slash b k bs (λ z. let yes = eq-eqb b 47 z in cc) s.no_slash;
    })

-- The number of bytes before the first `/` is its index.
prefix_length_is_first_slash : (text : List ℕ) → prefix_len (λ (b : ℕ). not (is_slash b)) text < length text →
    FirstSlashAt (prefix_len (λ (b : ℕ). not (is_slash b)) text) text
prefix_length_is_first_slash [] h = absurd (omega (arith, h))
prefix_length_is_first_slash (b ∷ bs) h = first_slash_by_test b bs (prefix_len (λ (c : ℕ). not (is_slash c)) bs) (eqb b 47) refl
    (prefix_length_is_first_slash bs) h

slash_position_by_test : (text : List ℕ) (k n : ℕ) (t : Bool) → ltb k (length text) ≡ t → (k < length text → FirstSlashAt k text) →
    cond t (Some k) None ≡ Some n → FirstSlashAt n text
slash_position_by_test text k n true e h p =
    let same : k ≡ n = cc in
    subst (λ (m : ℕ). FirstSlashAt m text) same (h (ltb-true k (length text) e))
slash_position_by_test text k n false e h p = cc

-- `position` returns the index of the first `/`.
slash_position_is_first : (text : List ℕ) (n : ℕ) → position is_slash text ≡ Some n → FirstSlashAt n text
slash_position_is_first text n h = slash_position_by_test text (prefix_len (λ (b : ℕ). not (is_slash b)) text) n
    (ltb (prefix_len (λ (b : ℕ). not (is_slash b)) text) (length text)) refl (prefix_length_is_first_slash text) h

-- The text is `@`, a name without `/` and without spaces at its end, then spaces, `/` and the rest.
record NameSpelled (n : Named) (text : List ℕ) : Type 0 where
  spaces : ℕ
  text_is : text ≡ 64 ∷ (n.name ++ (replicate spaces 32 ++ 47 ∷ n.rest))
  no_slash : HasNoSlash n.name
  no_space : HasNoTrailingSpace n.name

-- If the text after `@` is split at its first `/`, the part before it is the name and the spaces after the name.
cut_name_is_spelled : (text : List ℕ) (o : Option ℕ) (n : Named) → ((k : ℕ) → o ≡ Some k → FirstSlashAt k text) →
    name_up_to_slash text o ≡ Some n
    → NameSpelled n (64 ∷ text)
cut_name_is_spelled text None n s h = cc
cut_name_is_spelled text (Some k) n s h =
    let at = s k refl in
    let t = trimmed_name_cuts_spaces (take k text) in
    let same : ◌≡◌ {A = Named} (record { name = trimmed_name (take k text); rest = drop (k + 1) text }) n = cc in
    subst (λ (m : Named). NameSpelled m (64 ∷ text)) same (record {
      spaces = t.spaces;
      text_is = ap (λ (xs : List ℕ). 64 ∷ xs) (at.text_is ∙ (ap (λ (xs : List ℕ). xs ++ 47 ∷ drop (k + 1) text) t.bytes_are
          ∙ append_assoc (trimmed_name (take k text)) (replicate t.spaces 32) (47 ∷ drop (k + 1) text)));
      no_slash = prefix_has_no_slash (trimmed_name (take k text)) (replicate t.spaces 32) (subst HasNoSlash t.bytes_are at.no_slash);
      no_space = t.no_space;
    })

-- If `map_name_at` reads a name from a text, the text begins with `@` and this name.
read_name_is_spelled : (n : Named) (text : List ℕ) → map_name_at text ≡ Ok n → NameSpelled n text
unfolding map_name_at
read_name_is_spelled n text h =
    let s = both_steps_ok (value_or_map_fault NoMap (text_after_byte 64 text))
    (λ (text_after_byte : List ℕ). value_or_map_fault NoMap (name_up_to_slash text_after_byte (position is_slash text_after_byte))) n h in
    let at = byte_taken_was_first 64 text s.0 (value_or_fault_was_some NoMap (text_after_byte 64 text) s.0 s.1) in
    subst (NameSpelled n) (sym at) (cut_name_is_spelled s.0 (position is_slash s.0) n (λ k e. slash_position_is_first s.0 k e)
    (value_or_fault_was_some NoMap (name_up_to_slash s.0 (position is_slash s.0)) n s.2))

-- ---- the map

map_ranges_apart_by_test : (name : List ℕ) (ranges : List Pages) (m : MapContent) (t : Bool) → are_apart ranges ≡ t →
    ◌≡◌ {A = Result MapContent MapFault} (cond t (Ok (record { name = name; ranges = ranges })) (Err Overlaps)) (Ok m) →
    (are_apart ranges ≡ true) × ◌≡◌ {A = MapContent} (record { name = name; ranges = ranges }) m
map_ranges_apart_by_test name ranges m true e h = (e, cc)
map_ranges_apart_by_test name ranges m false e h = cc

-- If `map_at` reads a map from a string, the string is a text of this map by the grammar.
pub read_map_is_spelled : (m : MapContent) (text : List ℕ) → map_at text ≡ Ok m → IsMap m text
unfolding map_at
read_map_is_spelled m text h =
    let n = both_steps_ok (map_name_at text) (λ (n : Named). address_at n.rest >>= λ (a : NumberRead). ranges_at 32 a.value a.rest >>=
    map_if_apart n.name) m h in
    let a = both_steps_ok (address_at (n.0).rest) (λ (a : NumberRead). ranges_at 32 a.value a.rest >>= map_if_apart (n.0).name) m n.2 in
    let r = both_steps_ok (ranges_at 32 (a.0).value (a.0).rest) (map_if_apart (n.0).name) m a.2 in
    let p = map_ranges_apart_by_test (n.0).name r.0 m (are_apart r.0) refl r.2 in
    let name = read_name_is_spelled n.0 text n.1 in
    let address = read_address_is_spelled a.0 (n.0).rest a.1 in
    let ranges = read_ranges_are_spelled 32 (a.0).value r.0 (a.0).rest r.1 in
    subst (λ (c : MapContent). IsMap c text) p.1 (record {
      spaces = name.spaces;
      place = (a.0).value;
      address = address.address;
      list = (a.0).rest;
      spelled = name.text_is ∙ ap (λ (xs : List ℕ). 64 ∷ ((n.0).name ++ (replicate name.spaces 32 ++ 47 ∷ xs))) address.text_is;
      no_slash = name.no_slash;
      no_space = name.no_space;
      address_is = address.address_is;
      list_is = ranges.are;
      few = ranges.few;
      apart = p.0;
    })

-- `IfOk r P` holds if `P` holds for the value of `r` whenever `r` is `Ok`.
pub ok_value_gives_fact : {T : Type 0} (r : Result T MapFault) (P : T → Type 0) → ((x : T) → r ≡ Ok x → P x) → IfOk r P
ok_value_gives_fact (Ok x) P f = f x refl
ok_value_gives_fact (Err fault) P f = tt
