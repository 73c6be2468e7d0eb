-- `map_at` reads every map that follows the grammar.
use Rattle.std.proofs.Common.{◌≡◌, ℕ, zero, suc, ◌+◌, ◌≤◌, not, List, [], ◌∷◌, ◌++◌, length, drop, refl, sym, ap, ◌∙◌, arith, Option, Some, Ok, append_assoc, length-append}
use Rattle.std.specs.Prelude.{replicate}
use Rattle.std.specs.List.{prefix_len, position}
use Rattle.std.proofs.lemmas.List.{append-nil, take_at, drop_at}
use Rattle.std.proofs.lemmas.Bool.{lt-ltb, ne_eqb}
use Rattle.dfu_formats.specs.declared.memory.pages.Pages.{Pages}
use Rattle.dfu_formats.specs.memory.Ranges.{end_of_range}
use Rattle.dfu_formats.specs.memory.Reading.{MapContent, Named, group_at, next_range_place, ranges_at, trimmed_name, is_slash, name_up_to_slash, map_name_at, map_at}
use Rattle.dfu_formats.specs.memory.Grammar.{IsMap, IsGroup, AreRanges, HasNoSlash, HasNoTrailingSpace}
use Rattle.dfu_formats.specs.memory.Grammar.{last, following, elsewhere}
use Rattle.dfu_formats.proofs.GroupsRead.{first_byte_is_taken, spelled_group_is_read}
use Rattle.dfu_formats.proofs.PlacesRead.{spelled_address_is_read, comma_gives_next_place, slash_gives_next_place, end_gives_no_next_place}
use Rattle.dfu_formats.proofs.NameLaws.{trimmed_name_of_nothing, trimmed_name_of_first, first_byte_before_kept, byte_stays_before_kept, nonspace_byte_stays, trailing_space_is_cut}

-- ---- ranges

-- `ranges_at` reads a single group at the end of the text as one range.
single_range_is_read : (n start : ℕ) (p : Pages) (group : List ℕ) → IsGroup start p group → ranges_at (suc n) start group ≡ Ok (p ∷ [])
unfolding ranges_at
single_range_is_read n start p group g =
    let read : group_at start group ≡ Ok (record { pages = p; rest = [] }) =
    ap (group_at start) (sym (append-nil group)) ∙ spelled_group_is_read start p group [] g in
    rw (read, end_gives_no_next_place (end_of_range p)) refl

-- `ranges_at` reads a group, and then the other ranges from the next start on.
range_before_others_is_read : (n start place : ℕ) (p : Pages) (ps : List Pages) (group rest more : List ℕ) → IsGroup start p group →
    next_range_place (end_of_range p) rest ≡ Ok (Some (record { value = place; rest = more })) → ranges_at n place more ≡ Ok ps →
    ranges_at (suc n) start (group ++ rest) ≡ Ok (p ∷ ps)
unfolding ranges_at
range_before_others_is_read n start place p ps group rest more g e h = rw (spelled_group_is_read start p group rest g, e, h) refl

-- `ranges_at` reads the ranges of a text, if there are at most `n`.
spelled_ranges_are_read : (n start : ℕ) (ps : List Pages) (text : List ℕ) → AreRanges start ps text → length ps ≤ n →
    ranges_at n start text ≡ Ok ps
spelled_ranges_are_read zero start [] text x few = elim x [ ]
spelled_ranges_are_read (suc n) start [] text x few = elim x [ ]
spelled_ranges_are_read zero start (p ∷ []) text (last g) few = absurd (omega (arith, few))
spelled_ranges_are_read (suc n) start (p ∷ []) text (last g) few = single_range_is_read n start p text g
spelled_ranges_are_read zero start (p ∷ ps) text (following {group = group} {more = more} g rest) few = absurd (omega (arith, few))
spelled_ranges_are_read (suc n) start (p ∷ ps) text (following {group = group} {more = more} g rest) few =
    range_before_others_is_read n start (end_of_range p) p ps group (44 ∷ more) more g (comma_gives_next_place (end_of_range p) more)
    (spelled_ranges_are_read n (end_of_range p) ps more rest (omega (arith, few)))
spelled_ranges_are_read zero start (p ∷ ps) text (elsewhere {place = place} {group = group} {address = address} {more = more} g a rest) few
    = absurd (omega (arith, few))
spelled_ranges_are_read (suc n) start (p ∷ ps) text (elsewhere {place = place} {group = group} {address = address} {more = more} g a rest)
    few =
    range_before_others_is_read n start place p ps group (47 ∷ (address
    ++ 47 ∷ more)) more g (slash_gives_next_place (end_of_range p) place address more a)
    (spelled_ranges_are_read n place ps more rest (omega (arith, few)))

-- ---- the name

joined_texts_have_no_slash : (xs ys : List ℕ) → HasNoSlash xs → HasNoSlash ys → HasNoSlash (xs ++ ys)
unfolding HasNoSlash
joined_texts_have_no_slash [] ys h k = k
joined_texts_have_no_slash (x ∷ xs) ys h k = (h.0, joined_texts_have_no_slash xs ys h.1 k)

spaces_have_no_slash : (n : ℕ) → HasNoSlash (replicate n 32)
unfolding HasNoSlash
spaces_have_no_slash zero = tt
spaces_have_no_slash (suc n) = (λ e. absurd (omega (arith, e)), spaces_have_no_slash n)

-- The first `/` follows right after a text that contains none.
slash_follows_slashless_text : (xs rest : List ℕ) → HasNoSlash xs → prefix_len (λ (b : ℕ). not (is_slash b)) (xs ++ 47 ∷ rest) ≡ length xs
unfolding HasNoSlash
slash_follows_slashless_text [] rest h = refl
slash_follows_slashless_text (x ∷ xs) rest h =
    rw (ne_eqb x 47 h.0) (omega (arith, slash_follows_slashless_text xs rest h.1))

-- The index of the first `/` is the length of the text before it.
slash_position_is_length : (xs rest : List ℕ) → HasNoSlash xs → position is_slash (xs ++ 47 ∷ rest) ≡ Some (length xs)
slash_position_is_length xs rest h =
    let e = slash_follows_slashless_text xs rest h in
    let room = lt-ltb (prefix_len (λ (b : ℕ). not (is_slash b)) (xs ++ 47 ∷ rest)) (length (xs ++ 47 ∷ rest))
    (omega (arith, e, length-append xs (47 ∷ rest))) in
    rw room (ap Some e)

-- A name that consists of spaces is empty once it is trimmed.
trimmed_spaces_are_nothing : (n : ℕ) → trimmed_name (replicate n 32) ≡ []
trimmed_spaces_are_nothing zero = trimmed_name_of_nothing
trimmed_spaces_are_nothing (suc n) = trimmed_name_of_first 32 (replicate n 32)
    ∙ (ap (first_byte_before_kept 32) (trimmed_spaces_are_nothing n) ∙ trailing_space_is_cut 32 refl)

-- If spaces follow a name that doesn't end in a space, `trimmed_name` returns the name.
trimmed_name_keeps_name : (name : List ℕ) (n : ℕ) → HasNoTrailingSpace name → trimmed_name (name ++ replicate n 32) ≡ name
unfolding HasNoTrailingSpace
trimmed_name_keeps_name [] n h = trimmed_spaces_are_nothing n
trimmed_name_keeps_name (b ∷ []) n h = trimmed_name_of_first b (replicate n 32)
    ∙ (ap (first_byte_before_kept b) (trimmed_spaces_are_nothing n) ∙ nonspace_byte_stays b [] h)
trimmed_name_keeps_name (a ∷ b ∷ bs) n h =
    trimmed_name_of_first a ((b ∷ bs) ++ replicate n 32) ∙ (ap (first_byte_before_kept a) (trimmed_name_keeps_name (b ∷ bs) n h)
    ∙ byte_stays_before_kept a (b ∷ bs) (omega arith))

named_texts_equal : (a b c d : List ℕ) → a ≡ b → c ≡ d → ◌≡◌ {A = Option Named} (Some (record { name = a; rest = c })) (Some (record {
  name
      = b;
  rest = d;
}))
named_texts_equal a b c d h e = cc

-- `name_up_to_slash` returns the name without the spaces before the `/`.
spelled_name_is_cut : (name : List ℕ) (spaces : ℕ) (rest : List ℕ) → HasNoSlash name → HasNoTrailingSpace name →
    name_up_to_slash (name ++ (replicate spaces 32 ++ 47 ∷ rest)) (position is_slash (name ++ (replicate spaces 32 ++ 47 ∷ rest)))
    ≡ Some (record { name = name; rest = rest })
spelled_name_is_cut name spaces rest h k =
    let front = name ++ replicate spaces 32 in
    let whole : name ++ (replicate spaces 32 ++ 47 ∷ rest) ≡ front ++ 47 ∷ rest = sym (append_assoc name (replicate spaces 32) (47 ∷ rest)) in
    let at = slash_position_is_length front rest (joined_texts_have_no_slash name (replicate spaces 32) h (spaces_have_no_slash spaces))
    in
    let behind : drop (length front + 1) (front ++ 47 ∷ rest) ≡ rest =
    ap (drop (length front + 1)) (sym (append_assoc front (47 ∷ []) rest)) ∙ drop_at (front ++ 47 ∷ []) rest (length front + 1) (length-append front (47 ∷ [])) in
    rw (whole, at) (named_texts_equal _ _ _ _ (ap trimmed_name (take_at front (47 ∷ rest) (length front) refl)
    ∙ trimmed_name_keeps_name name spaces k) behind)

-- `map_name_at` reads the name between `@` and `/`, without the spaces before the `/`.
spelled_name_is_read : (name : List ℕ) (spaces : ℕ) (rest : List ℕ) → HasNoSlash name → HasNoTrailingSpace name →
    map_name_at (64 ∷ (name ++ (replicate spaces 32 ++ 47 ∷ rest))) ≡ Ok (record { name = name; rest = rest })
unfolding map_name_at
spelled_name_is_read name spaces rest h k = rw (
  first_byte_is_taken 64 (name ++ (replicate spaces 32
      ++ 47 ∷ rest)),
  spelled_name_is_cut name spaces rest h k,
) refl

-- `map_at` reads every map that follows the grammar.
pub spelled_map_is_read : (m : MapContent) (text : List ℕ) → IsMap m text → map_at text ≡ Ok m
unfolding map_at
spelled_map_is_read m text h =
    rw (
      h.spelled,
      spelled_name_is_read m.name h.spaces (h.address ++ 47 ∷ h.list) h.no_slash h.no_space,
      spelled_address_is_read h.place h.address h.list h.address_is,
      spelled_ranges_are_read 32 h.place m.ranges h.list h.list_is h.few,
      h.apart,
    ) refl
