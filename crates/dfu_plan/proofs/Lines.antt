-- Lines of a table, read one by one.
use Rattle.std.proofs.Common.{◌≡◌, ◌∙◌, ◌<◌, ◌≤◌, ℕ, suc, ◌+◌, Bool, true, false, List, [], ◌∷◌, ◌-◌, length, length-drop, take, drop, ap, sym, refl, arith, Result, Ok, Err}
use Rattle.std.specs.List.{position_or_len}
use Rattle.dfu_plan.specs.PartRead.{PartRead}
use Rattle.dfu_plan.specs.Parts.{IsPartResult, part_if_known, result_after_line, part_with_line, part_with_lines}
use Rattle.dfu_plan.specs.Words.{first_line, is_line_feed_byte, lines_after_first, table_lines, with_front_byte}
use Rattle.dfu_plan.specs.declared.part.PartFault.{PartFault}
use Rattle.dfu_plan.specs.declared.part.PartFault.TheVariants.{BadLine, NoMemory, UnknownPart}
use Rattle.dfu_plan.specs.declared.row.RowFault.{RowFault}

-- If a byte that is not a line feed is put before a text, it becomes the first byte of the first line.
byte_joins_first_line : (byte : ℕ) (bytes : List ℕ) → is_line_feed_byte byte ≡ false
    → table_lines (byte ∷ bytes) ≡ with_front_byte byte (table_lines bytes)
unfolding table_lines
byte_joins_first_line byte bytes is = rw is refl

-- A byte before a text moves the first line feed to the next index, if the byte is not a line feed itself.
byte_moves_line_feed : (byte : ℕ) (bytes : List ℕ) → is_line_feed_byte byte ≡ false
    → position_or_len is_line_feed_byte (byte ∷ bytes) ≡ suc (position_or_len is_line_feed_byte bytes)
byte_moves_line_feed byte bytes is = rw is (omega arith)

-- A byte before a text moves the end of the first line to the next index, and becomes the first byte of that line.
cut_moves_with_front_byte : (byte : ℕ) (bytes : List ℕ) (n m : ℕ) → m ≡ suc n
    → ((byte ∷ take n bytes) ∷ table_lines (drop (n + 1) bytes)) ≡ (take m (byte ∷ bytes) ∷ table_lines (drop (m + 1) (byte ∷ bytes)))
cut_moves_with_front_byte byte bytes n m is =
    let front : (byte ∷ take n bytes) ≡ take m (byte ∷ bytes) = ap (λ (k : ℕ). take k (byte ∷ bytes)) (sym is) in
    let further : suc (n + 1) ≡ m + 1 = omega (arith, is) in
    let rest : drop (n + 1) bytes ≡ drop (m + 1) (byte ∷ bytes) = ap (λ (k : ℕ). drop k (byte ∷ bytes)) further in
    ap (λ (line : List ℕ). line ∷ table_lines (drop (n + 1) bytes)) front ∙ ap (λ (r : List ℕ). take m (byte ∷ bytes) ∷ table_lines r) rest

-- The lines of a text that isn't empty are its first line and the lines after it.
lines_are_first_and_rest : (byte : ℕ) (bytes : List ℕ)
    → table_lines (byte ∷ bytes) ≡ first_line (byte ∷ bytes) ∷ table_lines (lines_after_first (byte ∷ bytes))
unfolding table_lines
lines_are_first_and_rest byte [] = one_byte_is_first_line (is_line_feed_byte byte) refl
  where
    one_byte_is_first_line : (feed : Bool) → is_line_feed_byte byte ≡ feed
        → table_lines (byte ∷ []) ≡ first_line (byte ∷ []) ∷ table_lines (lines_after_first (byte ∷ []))
    one_byte_is_first_line true is = rw is refl
    one_byte_is_first_line false is = rw is refl
lines_are_first_and_rest byte (next ∷ bytes) = next_byte_joins_lines (is_line_feed_byte byte) refl (lines_are_first_and_rest next bytes)
  where
    next_byte_joins_lines : (feed : Bool) → is_line_feed_byte byte ≡ feed
        → table_lines (next ∷ bytes) ≡ first_line (next ∷ bytes) ∷ table_lines (lines_after_first (next ∷ bytes))
        → table_lines (byte ∷ next ∷ bytes) ≡ first_line (byte ∷ next ∷ bytes) ∷ table_lines (lines_after_first (byte ∷ next ∷ bytes))
    next_byte_joins_lines true is more = rw is refl
    next_byte_joins_lines false is more = byte_joins_first_line byte (next ∷ bytes) is
        ∙ (ap (with_front_byte byte) more ∙ cut_moves_with_front_byte byte (next ∷ bytes) _ _ (byte_moves_line_feed byte (next ∷ bytes) is))

-- A text that isn't empty is read line by line: its first line, and then the lines after it.
pub first_line_is_read_first : (name : List ℕ) (number : ℕ) (part : PartRead) (rest line behind : List ℕ) → 0 < length rest
    → line ≡ first_line rest
    → behind ≡ lines_after_first rest → part_with_lines name number part (table_lines rest)
    ≡ result_after_line number (part_with_line name line part) (λ more. part_with_lines name (number + 1) more (table_lines behind))
unfolding part_with_lines
first_line_is_read_first name number part [] line behind some first last = absurd (omega (arith, some))
first_line_is_read_first name number part (byte ∷ bytes) line behind some first last =
    ap (part_with_lines name number part) (lines_are_first_and_rest byte bytes)
    ∙ (ap (λ (l : List ℕ). result_after_line number (part_with_line name l part) (λ more. part_with_lines name (number + 1) more
    (table_lines (lines_after_first (byte ∷ bytes))))) (sym first)
    ∙ ap (λ (b : List ℕ). result_after_line number (part_with_line name line part)
    (λ more. part_with_lines name (number + 1) more (table_lines b))) (sym last))

-- After a valid line, the result of the table is that of the lines after it.
pub valid_line_is_passed : (name : List ℕ) (number : ℕ) (part next : PartRead) (rest line behind : List ℕ)
    (table : Result PartRead PartFault)
    → 0 < length rest → line ≡ first_line rest → behind ≡ lines_after_first rest → Ok next ≡ part_with_line name line part
    → table ≡ part_if_known (part_with_lines name number part (table_lines rest))
    → table ≡ part_if_known (part_with_lines name (number + 1) next (table_lines behind))
valid_line_is_passed name number part next rest line behind table some first last right is =
    is ∙ (ap part_if_known (first_line_is_read_first name number part rest line behind some first last)
    ∙ ap (λ (r : Result PartRead RowFault).
    part_if_known (result_after_line number r (λ more. part_with_lines name (number + 1) more (table_lines behind))))
    (sym right))

-- At a wrong line, the result of the table is BadLine with the number of the line.
pub wrong_line_ends_table : (name : List ℕ) (number : ℕ) (part : PartRead) (why : RowFault) (rest line behind : List ℕ)
    (table : Result PartRead PartFault)
    → 0 < length rest → line ≡ first_line rest → behind ≡ lines_after_first rest → Err why ≡ part_with_line name line part
    → table ≡ part_if_known (part_with_lines name number part (table_lines rest)) → table ≡ Err (BadLine number why)
wrong_line_ends_table name number part why rest line behind table some first last wrong is =
    is ∙ (ap part_if_known (first_line_is_read_first name number part rest line behind some first last)
    ∙ ap (λ (r : Result PartRead RowFault).
    part_if_known (result_after_line number r (λ more. part_with_lines name (number + 1) more (table_lines behind))))
    (sym wrong))

-- After the last line, the result of the table is the part, or UnknownPart if it has no region.
pub last_line : (name : List ℕ) (number : ℕ) (part : PartRead) (rest : List ℕ) (table result : Result PartRead PartFault) → length rest ≤ 0
    → table ≡ part_if_known (part_with_lines name number part (table_lines rest)) → result ≡ part_if_known (Ok part)
    → IsPartResult table result
unfolding part_with_lines table_lines
last_line name number part (byte ∷ bytes) table result none is made = absurd (omega (arith, none))
last_line name number part [] table (Ok p) none is made = is ∙ sym made
last_line name number part [] table (Err (BadLine n why)) none is made = is ∙ sym made
last_line name number part [] table (Err UnknownPart) none is made = is ∙ sym made
last_line name number part [] table (Err NoMemory) none is made = tt

-- The text after the first line is shorter than the text, unless the text is empty.
pub rest_of_lines_is_shorter : (rest behind : List ℕ) → 0 < length rest → behind ≡ lines_after_first rest → length behind + 1 ≤ length rest
rest_of_lines_is_shorter rest behind some is =
    let dropped : length behind ≡ length rest - (position_or_len is_line_feed_byte rest + 1) =
    ap length is ∙ length-drop (position_or_len is_line_feed_byte rest + 1) rest in
    omega (arith, some, dropped)
