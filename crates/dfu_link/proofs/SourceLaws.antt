-- A line that is read piece by piece.
use Rattle.std.proofs.Common.{◌≡◌, ℕ, ◌+◌, ◌-◌, ◌<◌, ◌≤◌, min, List, [], ◌∷◌, ◌++◌, length, get_or, take, drop, slice_range, Option, Some, None, refl, sym, ap, ◌∙◌, subst, arith, length-append, length-take, drop-drop, append_assoc, true, false, Bool}
use Rattle.std.proofs.lemmas.List.{append-nil, drop-take, take-append-drop, take_more, take-take, take_min, length-take-le}
use Rattle.std.proofs.lemmas.List.Quantifiers.{position-Some}
use Rattle.std.proofs.KnownBytes.{Consumes-trans, Consumes-kept}
use Rattle.std.specs.Prelude.{IfSome, not, ◌==◌}
use Rattle.std.specs.List.{position}
use Rattle.std.specs.Io.KnownBytes.{Consumes, IsAtEnd, Keeps, prepend_known}
use Rattle.dfu_link.specs.Words.{lines_of, has_no_newline, is_newline}
use Rattle.dfu_link.specs.Lines.{read_line, line_of}
use Rattle.dfu_link.specs.TextLimit.{ExceedsLimit, ReadingIsStopped, NoLineRead}
use Rattle.dfu_link.specs.inside.Source.{source_state, LinesReadFrom, PieceRead, NextLineOrEnd, SourceLine, SourceStops}
use Rattle.dfu_link.specs.declared.scripting.fault.ScriptFault.TheVariants.{BadLine}
use Rattle.dfu_link.proofs.LineLaws.{no_newline_if_none_found, no_newline_before_first_one, joined_have_no_newline, newline_ends_first_line, text_without_newline_is_line, first_line_is_not_shorter, longer_prefix_has_newline}

-- Lemmas about the pieces of a line.

-- After n bytes were taken, the buffer holds its earlier bytes without the first n.
pub advance_drops_bytes_at_hand : (xs : List ℕ) (a e n : ℕ) → n ≤ length (slice_range xs a e) → slice_range xs (a + n) e
    ≡ drop n (slice_range xs a e)
advance_drops_bytes_at_hand xs a e n le =
    let whole : n + (e - (a + n)) ≡ e - a = omega (arith, le, length-take (e - a) (drop a xs)) in
    ap (take (e - (a + n))) (sym (drop-drop n a xs)) ∙ sym (drop-take n (e - (a + n)) (drop a xs))
    ∙ ap (λ k. drop n (take k (drop a xs))) whole

-- After a piece was taken, the rest of the text begins after the bytes of the piece.
pub advance_consumes_bytes : (given : Option (List ℕ)) (ready ready' : List ℕ) (n : ℕ) → ready' ≡ drop n ready
    → Consumes (prepend_known ready given) (prepend_known ready' given) (take n ready)
advance_consumes_bytes None ready ready' n e = tt
advance_consumes_bytes (Some r) ready ready' n e = ap (λ (xs : List ℕ). xs ++ r) (sym (take-append-drop n ready))
    ∙ (append_assoc (take n ready) (drop n ready) r ∙ ap (λ (xs : List ℕ). take n ready ++ (xs ++ r)) (sym e))

-- A piece with a line feed ends the line.
pub piece_with_newline_ends_line : (left left' : Option (List ℕ)) (line line' ready window : List ℕ) (k n : ℕ) → window ≡ take k ready
    → position is_newline window ≡ Some n → Consumes left left' (take (n + 1) ready) → line' ≡ line ++ take n window
    → length line + k ≤ 65537 → PieceRead left line (n + 1) true left' line'
piece_with_newline_ends_line left left' line line' ready window k n w p taken longer le =
    let at = position-Some is_newline window n 0 p in
    let size : length window ≡ min k (length ready) = ap length w ∙ length-take k ready in
    let len : length (take n window) ≡ n = length-take-le n window (omega (arith, at.0)) in
    let byte : get_or window n 0 ≡ 10 = grind (arith, at.1) in
    let same : take (n + 1) ready ≡ take n window ++ 10 ∷ [] = sym (take-take (n + 1) k ready (omega (arith, size, at.0)))
    ∙ (ap (take (n + 1)) (sym w) ∙ (take_more window n 0 at.0 ∙ ap (λ (b : ℕ). take n window ++ b ∷ []) byte)) in
    record {
      piece = take n window;
      longer = longer;
      no_end = no_newline_before_first_one window n p;
      short = omega (arith, ap length longer, length-append line (take n window), len, size, at.0, le);
      count = omega (arith, len);
      some = omega arith;
      taken = subst (λ (xs : List ℕ). Consumes left left' xs) same taken;
    }

-- A piece without a line feed continues the line.
pub plain_piece_continues_line : (left left' : Option (List ℕ)) (line line' ready window : List ℕ) (k : ℕ) → window ≡ take k ready
    → position is_newline window ≡ None → Consumes left left' (take (length window) ready) → line' ≡ line ++ window
    → length line + k ≤ 65537 → 0 < k → 0 < length ready → PieceRead left line (length window) false left' line'
plain_piece_continues_line left left' line line' ready window k w p taken longer le some ready_some =
    let size : length window ≡ min k (length ready) = ap length w ∙ length-take k ready in
    let same : take (length window) ready ≡ window = ap (λ (m : ℕ). take m ready) size ∙ (take_min k ready ∙ sym w) in
    record {
      piece = window;
      longer = longer;
      no_end = no_newline_if_none_found window p;
      short = omega (arith, ap length longer, length-append line window, size, le);
      count = omega arith;
      some = omega (arith, size, some, ready_some);
      taken = subst (λ (xs : List ℕ). Consumes left left' xs) same taken;
    }

-- Lemmas about the part of a line that was read so far.

-- The source has read the bytes `line` of a line so far. They have no line feed, so the line continues.
pub record LineReadSoFar (left : Option (List ℕ)) (room : ℕ) (left' : Option (List ℕ)) (room' : ℕ) (line : List ℕ) : Type 0 where
  pub given : Consumes left left' line
  pub rooms : room ≡ length line + room'
  pub no_end : has_no_newline line ≡ true
  pub short : length line ≤ 65536

-- Reading more bytes from the reader keeps the part of the line that was read so far.
pub refill_keeps_line_so_far : {left left1 left2 : Option (List ℕ)} {room room' : ℕ} {line : List ℕ} →
    LineReadSoFar left room left1 room' line
    → Keeps left1 left2 → LineReadSoFar left room left2 room' line
refill_keeps_line_so_far {left = left} {left1 = left1} {left2 = left2} {line = line} r kept = record {
  given = Consumes-kept left left1 left2 line r.given kept;
  rooms = r.rooms;
  no_end = r.no_end;
  short = r.short;
}

-- A piece without a line feed continues the part of the line that was read so far.
pub piece_extends_line : {left left1 left2 : Option (List ℕ)} {room room1 : ℕ} {line line' : List ℕ} {bytes : ℕ}
    → LineReadSoFar left room left1 room1 line → PieceRead left1 line bytes false left2 line' → bytes ≤ room1 → length line' ≤ 65536
    → LineReadSoFar left room left2 (room1 - bytes) line'
piece_extends_line {left = left} {left1 = left1} {left2 = left2} {line = line} r t le short = record {
  given = subst (λ (xs : List ℕ). Consumes left left2 xs) (sym t.longer)
      (Consumes-trans left left1 left2 line t.piece r.given t.taken);
  rooms = omega (arith, r.rooms, le, t.count, ap length t.longer, length-append line t.piece);
  no_end = ap has_no_newline t.longer ∙ joined_have_no_newline line t.piece r.no_end t.no_end;
  short = short;
}

-- Lemmas about the line feed that ends a line.

line_ends_at_newline : (a b : Option (List ℕ)) (room room' : ℕ) (line : List ℕ) → has_no_newline line ≡ true → room
    ≡ length line + 1 + room'
    → Consumes a b (line ++ 10 ∷ []) → LinesReadFrom a room (line ∷ []) b room' × IfSome a (λ left. ¬ ExceedsLimit room left)
line_ends_at_newline None b room room' line none rooms h = (tt, tt)
line_ends_at_newline (Some a) None room room' line none rooms h = absurd h
line_ends_at_newline (Some a) (Some b) room room' line none rooms h =
    let whole : a ≡ line ++ 10 ∷ b = h ∙ append_assoc line (10 ∷ []) b in
    let within = longer_prefix_has_newline line b room (omega (arith, rooms)) in (
      record {
        front = line ++ 10 ∷ [];
        split = h;
        are = ap lines_of whole ∙ newline_ends_first_line line b none;
        rooms = omega (arith, rooms, length-append line (10 ∷ []));
      },
      λ over. grind (arith, over.no_end ∙ refl, ap (λ (xs : List ℕ). has_no_newline (take room xs)) whole, within),
    )

-- A line is complete once its line feed was read.
pub newline_gives_line : {left left1 left2 : Option (List ℕ)} {room room1 : ℕ} (n : ℕ) (x : List ℕ) {line line' : List ℕ} {bytes : ℕ}
    → LineReadSoFar left room left1 room1 line → PieceRead left1 line bytes true left2 line' → bytes ≤ room1
    → SourceLine (source_state left room n x) (source_state left2 (room1 - bytes) (n + 1) line')
newline_gives_line {left = left} {left1 = left1} {left2 = left2} {room = room} {room1 = room1} n x {line = line} {line' = line'} {bytes =
    bytes} r t
    le =
    let none : has_no_newline line' ≡ true = ap has_no_newline t.longer ∙ joined_have_no_newline line t.piece r.no_end t.no_end in
    let size = ap length t.longer ∙ length-append line t.piece in
    let same : line ++ (t.piece ++ 10 ∷ []) ≡ line' ++ 10 ∷ [] = sym (append_assoc line t.piece (10 ∷ []))
    ∙ ap (λ (xs : List ℕ). xs ++ 10 ∷ []) (sym t.longer) in
    let given : Consumes left left2 (line' ++ 10 ∷ []) = subst (λ (xs : List ℕ). Consumes left left2 xs) same
    (Consumes-trans left left1 left2 line (t.piece ++ 10 ∷ []) r.given t.taken) in
    let both = line_ends_at_newline left left2 room (room1 - bytes) line' none (omega (arith, r.rooms, le, t.count, size)) given in
    record {
      gives = record { count = refl; takes = both.0 };
      ends = both.1;
      less = omega (arith, r.rooms, le, t.some);
    }

-- At the end of the text the bytes since the last line feed are a line, if there are any.
line_ends_with_text : (a b : Option (List ℕ)) (room room' : ℕ) (line : List ℕ) → has_no_newline line ≡ true → 0 < length line
    → room ≡ length line + room' → Consumes a b line → IsAtEnd b
    → LinesReadFrom a room (line ∷ []) b room' × IfSome a (λ left. ¬ ExceedsLimit room left)
line_ends_with_text None b room room' line none some rooms h e = (tt, tt)
line_ends_with_text (Some a) None room room' line none some rooms h e = absurd h
line_ends_with_text (Some a) (Some b) room room' line none some rooms h e =
    let whole : a ≡ line = h ∙ (ap (λ (xs : List ℕ). line ++ xs) e ∙ append-nil line) in (
      record {
        front = line;
        split = h;
        are = ap lines_of whole ∙ (text_without_newline_is_line line some none ∙ ap (λ (xs : List ℕ). line ∷ lines_of xs) (sym e));
        rooms = rooms;
      },
      λ over. absurd (omega (arith, over.over, rooms, ap length whole)),
    )

-- If a text is at its end and no bytes were taken from it, it was at its end before.
no_bytes_keep_end : (a b : Option (List ℕ)) → Consumes a b [] → IsAtEnd b → IsAtEnd a
no_bytes_keep_end None b h e = tt
no_bytes_keep_end (Some a) None h e = absurd h
no_bytes_keep_end (Some a) (Some b) h e = h ∙ e

-- A list of length 0 is empty.
pub zero_length_is_empty : (xs : List ℕ) → (length xs == 0) ≡ true → xs ≡ []
zero_length_is_empty [] h = refl
zero_length_is_empty (b ∷ bs) h = absurd (grind (arith, h))

-- At the end of the text the bytes that were read so far are the last line. If there are none, no line remains.
pub end_gives_last_line : (left left' : Option (List ℕ)) (room room' n : ℕ) (x line : List ℕ) →
    LineReadSoFar left room left' room' line → IsAtEnd left'
    → (some : Bool) → some ≡ not (length line == 0) → NextLineOrEnd (source_state left room n x) some (source_state left' room' (n + 1)
    line)
end_gives_last_line left left' room room' n x [] r e true h = cc
end_gives_last_line left left' room room' n x [] r e false h = no_bytes_keep_end left left' r.given e
end_gives_last_line left left' room room' n x (b ∷ bs) r e false h = absurd (grind (arith, h))
end_gives_last_line left left' room room' n x (b ∷ bs) r e true h =
    let both = line_ends_with_text left left' room room' (b ∷ bs) r.no_end (omega arith) r.rooms r.given e in
    record {
      gives = record { count = refl; takes = both.0 };
      ends = both.1;
      less = omega (arith, r.rooms);
    }

-- Lemmas about lines of over 65,536 bytes, which are not of the language.

too_long_line_is_no_line : (given : Option (List ℕ)) (line : List ℕ) → 65536 < length line → line_of given line ≡ None
unfolding line_of read_line
too_long_line_is_no_line given line long = grind (arith, long)

-- A line of over 65,536 bytes stops the reading.
too_long_line_stops_reading : (g a b : Option (List ℕ)) (room n : ℕ) (line : List ℕ) → Consumes a b line → length line ≡ 65537 →
    has_no_newline line ≡ true
    → length line ≤ room → IfSome a (λ left. ReadingIsStopped room left (BadLine (n + 1))
    × NoLineRead g (n + 1) (lines_of left) (BadLine (n + 1)))
too_long_line_stops_reading g None b room n line h size none le = tt
too_long_line_stops_reading g (Some a) None room n line h size none le = absurd h
too_long_line_stops_reading g (Some a) (Some b) room n line h size none le =
    let long = first_line_is_not_shorter line b (omega (arith, size)) none in
    let is : lines_of a ≡ long.0 ∷ long.1 = ap lines_of h ∙ long.2 in (
      λ over. absurd (omega (arith, over.short, size, le)),
      subst (λ (ls : List (List ℕ)). NoLineRead g (n + 1) ls (BadLine (n + 1))) (sym is)
          (refl, too_long_line_is_no_line g long.0 (omega (arith, size, long.3))),
    )

-- A source stops at a line of over 65,536 bytes.
pub source_stops_at_too_long_line : {left left1 left2 : Option (List ℕ)} {room room1 : ℕ} (n : ℕ) (x : List ℕ) {line line' : List ℕ} {bytes
    : ℕ}
    → LineReadSoFar left room left1 room1 line → PieceRead left1 line bytes false left2 line' → bytes ≤ room1 → 65536 < length line'
    → (g : Option (List ℕ)) → SourceStops g (source_state left room n x) (BadLine (n + 1))
source_stops_at_too_long_line {left = left} {left1 = left1} {left2 = left2} {room = room} n x {line = line} {line' = line'} r t le long g =
    let size = ap length t.longer ∙ length-append line t.piece in
    let given : Consumes left left2 line' = subst (λ (xs : List ℕ). Consumes left left2 xs) (sym t.longer)
    (Consumes-trans left left1 left2 line t.piece r.given t.taken) in
    let none : has_no_newline line' ≡ true = ap has_no_newline t.longer ∙ joined_have_no_newline line t.piece r.no_end t.no_end in
    too_long_line_stops_reading g left left2 room n line' given (omega (arith, long, t.short)) none (omega (
      arith,
      r.rooms,
      le,
      t.count,
      size,
    ))
