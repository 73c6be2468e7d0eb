-- A format requests at most one write for each of its pieces.
use Rattle.std.specs.Prelude.{◌≡◌, ℕ, suc, ◌+◌, ◌-◌, ◌≤◌, ◌<◌, List, [], ◌∷◌, ◌++◌, length}
use Rattle.std.proofs.Common.{sym, ap, ◌∙◌, subst, arith}
use Rattle.dfu_slots.specs.Units.{Grain}
use Rattle.dfu_slots.specs.Layout.{slot_size}
use Rattle.dfu_asks.specs.declared.formatting.Formatting.{Formatting}
use Rattle.dfu_asks.specs.declared.formatting.FormatProgress.TheVariants as format_progress
use Rattle.dfu_asks.specs.Steps.{Step, step_writes}
use Rattle.dfu_asks.specs.Carried.{total, IsStepPiece}
use Rattle.dfu_asks.specs.Phases.{format_steps, format_grain, remaining_steps, steps_of_part}
use Rattle.dfu_asks.specs.Formats.{medium_of_format, FormatPending}
use Rattle.dfu_asks.specs.FormatFurther.{FormatAdvancedBy}
use Rattle.dfu_asks.proofs.FormatGoing.{part_piece_remains}
use Rattle.dfu_core.specs.declared.config.DfuConfig.{DfuConfig}
use Rattle.dfu_core.specs.declared.record.DfuRecord.{DfuRecord}
use Rattle.dfu_core.specs.Config.{config_grain}
use Rattle.dfu_core.specs.Writes.{ask_step}
use Rattle.dfu_laws.specs.in_c.FormatCalls.{IsBeingFormatted, begins, goes_on}
use Rattle.dfu_laws.specs.in_c.FormatCounts.{format_erases, format_programs, format_operation_count, FormatOperationsBounded}
use Rattle.dfu_laws.proofs.board.Pieces.{series_has_next_piece}
use Rattle.dfu_laws.proofs.board.Counting.{count_behind_bytes, piece_count, piece_count_of_append, count_behind_at_most_count, no_parts_of_no_bytes, one_piece_fewer_behind}
use Rattle.dfu_laws.proofs.in_c.FormatBounds.{format_pieces_bound}
use Rattle.dfu_laws.proofs.in_c.FormatCalls.{format_under_way_asks, record_is_one_format, format_grain_is_config_grain, pending_number_means_asks}

-- After the writes of the first steps, the pieces of the other steps remain.
count_behind_first_steps : (xs ys : List Step) (n k : ℕ) → n ≡ total (step_writes xs) + k → count_behind_bytes (xs ++ ys) n
    ≡ count_behind_bytes ys k
count_behind_first_steps [] ys n k e = ap (λ (i : ℕ). count_behind_bytes ys i) (omega (arith, e))
count_behind_first_steps (x ∷ xs) ys n k e =
    let len = length x.write.bytes in
    omega (
      arith,
      no_parts_of_no_bytes x.erases (len - n) (omega (arith, e)),
      count_behind_first_steps xs ys (n - len) k (omega (arith, e)),
    )

-- Number of remaining pieces of a format.
abbrev format_pieces_left : Formatting → ℕ → List ℕ → ℕ
format_pieces_left f size image = count_behind_bytes (remaining_steps f size image) f.done

-- Upper bound of the pieces of a format of an image.
abbrev format_piece_bound : DfuConfig → List ℕ → ℕ
format_piece_bound c image = format_erases (length image) c.sector + format_programs (length image) c.sector

-- If a format requests a write, at least one piece remains.
due_format_has_piece_left : (f : Formatting) (image was flash : List ℕ) → FormatPending f image was flash →
    0 < format_pieces_left f (length was) image
due_format_has_piece_left f image was flash asks =
    let x = series_has_next_piece (steps_of_part f (length was) image) f.done asks.left in
    omega (
      arith,
      one_piece_fewer_behind (remaining_steps f (length was) image) f.done x.0 (part_piece_remains f (length was) image f.done
          x.0 x.1),
    )

-- At the start of a format, its remaining pieces are at most `format_piece_bound`.
pieces_left_at_first : (c : DfuConfig) (f : Formatting) (image flash : List ℕ) → format_grain f ≡ config_grain c
    → FormatPending f image flash flash → format_pieces_left f (length flash) image ≤ format_piece_bound c image
pieces_left_at_first c f image flash grain asks =
    let left = remaining_steps f (length flash) image in
    let w = format_grain f in
    let bound : Grain → ℕ = λ g. format_erases (length image) g.sector + format_programs (length image) g.sector in
    let all : piece_count (format_steps (medium_of_format f flash) image) ≤ bound w =
    format_pieces_bound w.unit w.sector (slot_size flash) _ image asks.way.can.sized.whole.pages in
    omega (
      arith,
      count_behind_at_most_count left f.done,
      piece_count_of_append asks.way.front left,
      ap (λ (ss : List Step). piece_count ss) asks.way.series,
      all,
      ap (λ (g : Grain). bound g) grain,
    )

-- Each piece that is carried out leaves one fewer piece.
piece_leaves_one_fewer : (f f' : Formatting) (size : ℕ) (image : List ℕ) (p : Step) → IsStepPiece (remaining_steps f size image) f.done p
    → FormatAdvancedBy f f' size image (length p.write.bytes) → suc (format_pieces_left f' size image) ≤ format_pieces_left f size image
piece_leaves_one_fewer f f' size image p piece on =
    let left = remaining_steps f size image in
    omega (
      arith,
      one_piece_fewer_behind left f.done p piece,
      ap (λ (ss : List Step). count_behind_bytes ss (f.done + length p.write.bytes)) on.series,
      count_behind_first_steps on.front (remaining_steps f' size image) (f.done + length p.write.bytes) f'.done on.place,
    )

-- The number of writes that a format has requested, plus its remaining pieces, is at most 1 + `format_piece_bound`.
asked_and_left_pieces_bound : (c : DfuConfig) (image flash : List ℕ) (r : DfuRecord) (f : IsBeingFormatted c image flash r)
    → format_operation_count c image flash r f + format_pieces_left (format_under_way_asks c image flash r f).format (length flash) image ≤
    1 + format_piece_bound c image
asked_and_left_pieces_bound c image flash r (begins s) =
    let a = format_under_way_asks c image flash r (begins s) in
    let same : a.format ≡ s.formatting = record_is_one_format c r a.format s.formatting a.is s.is in
    omega (
      arith,
      pieces_left_at_first c s.formatting image flash (format_grain_is_config_grain c r s.formatting s.is) s.asks,
      ap (λ (f : Formatting). format_pieces_left f (length flash) image) same,
    )
asked_and_left_pieces_bound c image flash' r' (goes_on {flash = flash} {n = n} {r = r} before t e) =
    let a = format_under_way_asks c image flash r before in
    let came : t.goes.came ≡ format_progress.Asks = pending_number_means_asks t.goes.came (sym t.goes.number_is ∙ e) in
    let same : a.format ≡ t.goes.before = record_is_one_format c r a.format t.goes.before a.is t.goes.is in
    let handed : t.handed.formatting ≡ t.goes.before = record_is_one_format c r t.handed.formatting t.goes.before t.handed.is t.goes.is in
    let size : length flash ≡ length flash' = sym t.torn.size in
    let piece = subst (λ (k : ℕ). IsStepPiece (remaining_steps t.goes.before k image) t.goes.before.done (ask_step t.ask)) size
    (subst (λ (f : Formatting). IsStepPiece (remaining_steps f (length flash) image) f.done (ask_step t.ask)) handed t.handed.piece) in
    let on = t.goes.further came (ask_step t.ask) piece in
    let now = format_under_way_asks c image flash' r' (goes_on before t e) in
    let later : now.format ≡ t.goes.after = record_is_one_format c r' now.format t.goes.after now.is (t.goes.on came) in
    omega (
      arith,
      ap (λ (f : Formatting). format_pieces_left f (length flash') image) later,
      asked_and_left_pieces_bound c image flash r before,
      piece_leaves_one_fewer t.goes.before t.goes.after (length flash') image (ask_step t.ask) piece on,
      ap (λ (f : Formatting). format_pieces_left f (length flash) image) same,
      ap (λ (k : ℕ). format_pieces_left t.goes.before k image) size,
    )

pub format_operations_bounded : FormatOperationsBounded
format_operations_bounded c image flash r f =
    let a = format_under_way_asks c image flash r f in
    omega (
      arith,
      asked_and_left_pieces_bound c image flash r f,
      due_format_has_piece_left a.format image a.was flash a.asks,
      ap (λ (k : ℕ). format_pieces_left a.format k image) a.size,
    )
