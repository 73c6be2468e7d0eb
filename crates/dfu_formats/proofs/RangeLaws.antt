-- The ranges of a map are read one after the other.
use Rattle.std.proofs.Common.{◌≡◌, ℕ, zero, suc, ◌+◌, ◌<◌, ◌≤◌, List, [], ◌∷◌, ◌++◌, length, refl, sym, ap, ◌∙◌, subst, arith, Option, Some, None, Result, Ok, Err, append_assoc, length-append}
use Rattle.dfu_formats.specs.declared.memory.pages.Pages.{Pages}
use Rattle.dfu_formats.specs.declared.memory.fault.MapFault.{MapFault}
use Rattle.dfu_formats.specs.declared.memory.fault.MapFault.TheVariants.{TooManyRanges}
use Rattle.std.specs.List.{All}
use Rattle.std.proofs.lemmas.List.Elements.{All-append}
use Rattle.dfu_formats.specs.memory.Ranges.{IsRange, end_of_range}
use Rattle.dfu_formats.specs.memory.Reading.{NumberRead, RangeRead, ◌>>=◌, ranges_continued, group_at, next_range_place, ranges_at}
use Rattle.dfu_formats.specs.inside.Listing.{ranges_joined}

-- The ranges read so far, followed by those of the remaining text, are `whole`, which may be a fault. There are at most 32 in all.
pub record RestMakesWholeRanges (whole : Result (List Pages) MapFault) (before : List Pages) (start : ℕ) (text : List ℕ) : Type 0 where
  pub most : ℕ
  pub room : length before + most ≡ 32
  pub rest : ranges_joined before (ranges_at most start text) ≡ whole

-- Joining an empty list in front of ranges leaves them unchanged.
no_ranges_joined : (r : Result (List Pages) MapFault) → ranges_joined [] r ≡ r
no_ranges_joined (Ok more) = refl
no_ranges_joined (Err fault) = refl

-- Before the first range is read, RestMakesWholeRanges holds, because all ranges are left to read.
pub nothing_read_leaves_all_ranges : (start : ℕ) (text : List ℕ) → RestMakesWholeRanges (ranges_at 32 start text) [] start text
nothing_read_leaves_all_ranges start text = record { most = 32; room = refl; rest = no_ranges_joined (ranges_at 32 start text) }

-- If reading the first group fails, reading the ranges fails with the same fault.
group_fault_is_ranges_fault : (most start : ℕ) (text : List ℕ) (fault : MapFault) → group_at start text ≡ Err fault →
    ranges_at most start text ≡ Err fault
unfolding ranges_at
group_fault_is_ranges_fault zero start text fault e = rw e refl
group_fault_is_ranges_fault (suc n) start text fault e = rw e refl

-- If reading the next group fails, the fault of this group is the result for all ranges.
pub group_fault_is_whole_fault : (whole : Result (List Pages) MapFault) (before : List Pages) (start : ℕ) (text : List ℕ) (fault :
    MapFault) →
    RestMakesWholeRanges whole before start text → group_at start text ≡ Err fault → whole ≡ Err fault
group_fault_is_whole_fault whole before start text fault g e = sym g.rest
    ∙ ap (ranges_joined before) (group_fault_is_ranges_fault g.most start text fault e)

-- If no more ranges are allowed, reading one more returns `TooManyRanges`.
range_beyond_limit_is_fault : (start : ℕ) (text : List ℕ) (g : RangeRead) → group_at start text ≡ Ok g → ranges_at 0 start text
    ≡ Err TooManyRanges
unfolding ranges_at
range_beyond_limit_is_fault start text g e = rw e refl

-- If no more ranges are allowed, and another group is read, the result for all ranges is `TooManyRanges`.
no_room_for_range_is_fault : (most : ℕ) (whole : Result (List Pages) MapFault) (before : List Pages) (start : ℕ) (text : List ℕ) (g :
    RangeRead) →
    most ≡ 0 → ranges_joined before (ranges_at most start text) ≡ whole → group_at start text ≡ Ok g → whole ≡ Err TooManyRanges
no_room_for_range_is_fault zero whole before start text g z w e = sym w
    ∙ ap (ranges_joined before) (range_beyond_limit_is_fault start text g e)
no_room_for_range_is_fault (suc n) whole before start text g z w e = absurd (omega (arith, z))

-- If another range follows the first 32, the result for all ranges is `TooManyRanges`.
pub too_many_ranges_are_refused : (whole : Result (List Pages) MapFault) (before : List Pages) (start : ℕ) (text : List ℕ) (g : RangeRead) →
    RestMakesWholeRanges whole before start text → length before ≡ 32 → group_at start text ≡ Ok g → whole ≡ Err TooManyRanges
too_many_ranges_are_refused whole before start text g w full e = no_room_for_range_is_fault w.most whole before start text g (omega (
  arith,
  w.room,
  full,
)) w.rest e

next_place_fault_is_ranges_fault : (n start : ℕ) (text : List ℕ) (g : RangeRead) (fault : MapFault) → group_at start text ≡ Ok g →
    next_range_place (end_of_range g.pages) g.rest ≡ Err fault → ranges_at (suc n) start text ≡ Err fault
unfolding ranges_at
next_place_fault_is_ranges_fault n start text g fault e f = rw (e, f) refl

range_without_next_is_last : (n start : ℕ) (text : List ℕ) (g : RangeRead) → group_at start text ≡ Ok g →
    next_range_place (end_of_range g.pages) g.rest ≡ Ok None → ranges_at (suc n) start text ≡ Ok (g.pages ∷ [])
unfolding ranges_at
range_without_next_is_last n start text g e f = rw (e, f) refl

ranges_before_next_place : (n start : ℕ) (text : List ℕ) (g : RangeRead) (p : NumberRead) → group_at start text ≡ Ok g →
    next_range_place (end_of_range g.pages) g.rest ≡ Ok (Some p) →
    ranges_at (suc n) start text ≡ ranges_continued g.pages (Some p) (λ (q : NumberRead). ranges_at n q.value q.rest)
unfolding ranges_at
ranges_before_next_place n start text g p e f = rw (e, f) refl

-- If at least one more range is allowed, a fault in the text after the next range is the result for all ranges.
next_place_fault_by_room : (most : ℕ) (whole : Result (List Pages) MapFault) (before : List Pages) (start : ℕ) (text : List ℕ) (g :
    RangeRead) (fault : MapFault) →
    1 ≤ most → ranges_joined before (ranges_at most start text) ≡ whole → group_at start text ≡ Ok g →
    next_range_place (end_of_range g.pages) g.rest ≡ Err fault → whole ≡ Err fault
next_place_fault_by_room zero whole before start text g fault z w e f = absurd (omega (arith, z))
next_place_fault_by_room (suc n) whole before start text g fault z w e f = sym w
    ∙ ap (ranges_joined before) (next_place_fault_is_ranges_fault n start text g fault e f)

-- A fault in the text after one of the first 32 ranges is the result for all ranges.
pub next_place_fault_is_whole_fault : (whole : Result (List Pages) MapFault) (before : List Pages) (start : ℕ) (text : List ℕ)
    (g : RangeRead)
    (fault : MapFault) →
    RestMakesWholeRanges whole before start text → length before < 32 → group_at start text ≡ Ok g
    → next_range_place (end_of_range g.pages) g.rest ≡ Err fault →
    whole ≡ Err fault
next_place_fault_is_whole_fault whole before start text g fault w room e f =
    next_place_fault_by_room w.most whole before start text g fault (omega (arith, w.room, room)) w.rest e f

-- If at least one more range is allowed, and the text ends after it, the result is the ranges so far with this one appended.
last_range_by_room : (most : ℕ) (whole : Result (List Pages) MapFault) (before : List Pages) (start : ℕ) (text : List ℕ) (g : RangeRead) →
    1 ≤ most → ranges_joined before (ranges_at most start text) ≡ whole → group_at start text ≡ Ok g →
    next_range_place (end_of_range g.pages) g.rest ≡ Ok None → whole ≡ Ok (before ++ g.pages ∷ [])
last_range_by_room zero whole before start text g z w e f = absurd (omega (arith, z))
last_range_by_room (suc n) whole before start text g z w e f = sym w
    ∙ ap (ranges_joined before) (range_without_next_is_last n start text g e f)

-- If the text ends after one of the first 32 ranges, the result is the ranges so far with this one appended.
pub last_range_completes_whole : (whole : Result (List Pages) MapFault) (before : List Pages) (start : ℕ) (text : List ℕ) (g : RangeRead) →
    RestMakesWholeRanges whole before start text → length before < 32 → group_at start text ≡ Ok g
    → next_range_place (end_of_range g.pages) g.rest ≡ Ok None →
    whole ≡ Ok (before ++ g.pages ∷ [])
last_range_completes_whole whole before start text g w room e f = last_range_by_room w.most whole before start text g (omega (
  arith,
  w.room,
  room,
)) w.rest e f

-- Putting a range in front of the ranges after it is the same as appending it to the ranges before it.
joined_fronts_take_range : (before : List Pages) (p : Pages) (r : Result (List Pages) MapFault) →
    ranges_joined before (r >>= λ (ranges : List Pages). Ok (p ∷ ranges)) ≡ ranges_joined (before ++ p ∷ []) r
joined_fronts_take_range before p (Ok more) = ap Ok (sym (append_assoc before (p ∷ []) more))
joined_fronts_take_range before p (Err fault) = refl

joined_front_takes_range : (before : List Pages) (p : Pages) (place : NumberRead) (r : NumberRead → Result (List Pages) MapFault) →
    ranges_joined before (ranges_continued p (Some place) r) ≡ ranges_joined (before ++ p ∷ []) (r place)
joined_front_takes_range before p place r =
    joined_fronts_take_range before p (r place)

-- If at least one more range is allowed, and another range follows the next one, the next range is appended, and the ranges from the start
-- of the other one on are left to read.
further_range_by_room : (most : ℕ) (whole : Result (List Pages) MapFault) (before : List Pages) (start : ℕ) (text : List ℕ) (g : RangeRead)
    (place : NumberRead) →
    length before + most ≡ 32 → 1 ≤ most → ranges_joined before (ranges_at most start text) ≡ whole → group_at start text ≡ Ok g →
    next_range_place (end_of_range g.pages) g.rest ≡ Ok (Some place) → RestMakesWholeRanges whole (before
    ++ g.pages ∷ []) place.value place.rest
further_range_by_room zero whole before start text g place room z w e f = absurd (omega (arith, z))
further_range_by_room (suc n) whole before start text g place room z w e f = record {
  most = n;
  room = omega (arith, room, length-append before (g.pages ∷ []));
  rest = sym (joined_front_takes_range before g.pages place (λ (q : NumberRead). ranges_at n q.value q.rest))
      ∙ (sym (ap (ranges_joined before) (ranges_before_next_place n start text g place e f)) ∙ w);
}

-- If another range follows one of the first 32, the current range is appended, and the ranges from the next start on are left to read.
pub further_range_leaves_rest : (whole : Result (List Pages) MapFault) (before : List Pages) (start : ℕ) (text : List ℕ) (g : RangeRead)
    (place : NumberRead) →
    RestMakesWholeRanges whole before start text → length before < 32 → group_at start text ≡ Ok g →
    next_range_place (end_of_range g.pages) g.rest ≡ Ok (Some place) →
    RestMakesWholeRanges whole (before ++ g.pages ∷ []) place.value place.rest
further_range_leaves_rest whole before start text g place w room e f =
    further_range_by_room w.most whole before start text g place w.room (omega (arith, w.room, room)) w.rest e f

single_range_is_sound : (p : Pages) → IsRange p → All IsRange (p ∷ [])
single_range_is_sound p s zero d h = s
single_range_is_sound p s (suc k) d h = absurd (omega (arith, h))

-- Appending a sound range to sound ranges gives sound ranges.
pub sound_ranges_take_another : (before : List Pages) (p : Pages) → All IsRange before → IsRange p → All IsRange (before ++ p ∷ [])
sound_ranges_take_another before p h s = All-append IsRange before (p ∷ []) h (single_range_is_sound p s)

-- The start of the next range depends only on the end of the range and the text after it.
pub next_place_depends_on_parts : (g : RangeRead) (q : Pages) (r : List ℕ) (end : ℕ) (n m : Result (Option NumberRead) MapFault) →
    ◌≡◌ {A = RangeRead} g (record { pages = q; rest = r }) → end ≡ end_of_range q → n ≡ next_range_place end r → n ≡ m →
    next_range_place (end_of_range g.pages) g.rest ≡ m
next_place_depends_on_parts g q r end n m v e w i =
    let pages : g.pages ≡ q = ap (λ (h : RangeRead). h.pages) v in
    let rest : g.rest ≡ r = ap (λ (h : RangeRead). h.rest) v in
    ap (λ (p : Pages). next_range_place (end_of_range p) g.rest) pages
    ∙ (ap (next_range_place (end_of_range q)) rest ∙ (ap (λ (k : ℕ). next_range_place k r) (sym e) ∙ (sym w ∙ i)))

-- Appending `q`, which is the range of group `g`, is the same as appending the range of `g`.
pub pushed_range_is_appended : (g : RangeRead) (q : Pages) (r : List ℕ) (before after : List Pages) →
    ◌≡◌ {A = RangeRead} g (record { pages = q; rest = r }) → after ≡ before ++ q ∷ [] → before ++ g.pages ∷ [] ≡ after
pushed_range_is_appended g q r before after v e = ap (λ (h : RangeRead). before ++ h.pages ∷ []) v ∙ sym e

-- The ranges that are left depend only on the start address and on the text, both taken from `place`.
pub rest_makes_whole_at_place : (whole : Result (List Pages) MapFault) (before after : List Pages) (place : NumberRead) (v : ℕ)
    (r : List ℕ) →
    RestMakesWholeRanges whole before place.value place.rest → before ≡ after →
    ◌≡◌ {A = NumberRead} (record { value = v; rest = r }) place →
    RestMakesWholeRanges whole after v r
rest_makes_whole_at_place whole before after place v r g e i =
    subst (λ (s : NumberRead). RestMakesWholeRanges whole after s.value s.rest) (sym i)
    (subst (λ (b : List Pages). RestMakesWholeRanges whole b place.value place.rest) e g)
