use Rattle.std.proofs.Common.{◌≡◌, ◌∙◌, sym, ap, subst, arith, not, Bool, ℕ, ◌==◌, length, vec_len}
use Rattle.dfu_link.specs.inside.Source.{PieceRead}
use Rattle.dfu_link.proofs.SourceLaws.{refill_keeps_line_so_far, piece_extends_line, end_gives_last_line, newline_gives_line, source_stops_at_too_long_line, zero_length_is_empty}
use Rattle.dfu_link.proofs.scripting.source.read_line.Goals as goal

pub returns-then-is_empty-clause-ok : goal.returns-then-is_empty-clause-ok
returns-then-is_empty-clause-ok g c =
    let line = refill_keeps_line_so_far c.pieces.invariant.line c.fill.ensures.left in
    let size : vec_len c.pieces.line ≡ length c.pieces.line.items = omega arith in
    let none = sym c.ready.ensures ∙ zero_length_is_empty c.ready.result.now (sym c.is_empty.ensures ∙ c.if-is_empty.true) in
    end_gives_last_line c.args.pieces.now.left c.fill.new.self.left c.args.room.now c.pieces.room c.args.before c.args.line.now.items
    c.pieces.line.items line (c.in_ok-fill.ensures.end none)
    (not c.is_empty-then-is_empty.result) (ap not c.is_empty-then-is_empty.ensures
    ∙ ap (λ (n : ℕ). not (n == 0)) size)

pub returns-then-taken-clause-ok : goal.returns-then-taken-clause-ok
returns-then-taken-clause-ok g c =
    let line = refill_keeps_line_so_far c.pieces.invariant.line c.fill.ensures.left in
    let taken = c.take_piece-taken in
    let takes = subst (λ (t : Bool). PieceRead c.fill.new.self.left c.pieces.line.items taken.result.bytes t taken.new.pieces.left
    taken.new.line.items) c.if-taken.true taken.ensures.takes in
    newline_gives_line c.args.before c.args.line.now.items line takes taken.ensures.within_limit

pub returns-then-len-gt-MAX_LINE-clause-fault : goal.returns-then-len-gt-MAX_LINE-clause-fault
returns-then-len-gt-MAX_LINE-clause-fault g c =
    let line = refill_keeps_line_so_far c.pieces.invariant.line c.fill.ensures.left in
    let taken = c.take_piece-taken in
    let takes = subst (λ (t : Bool). PieceRead c.fill.new.self.left c.pieces.line.items taken.result.bytes t taken.new.pieces.left
    taken.new.line.items) c.if-taken.false taken.ensures.takes in
    source_stops_at_too_long_line c.args.before c.args.line.now.items line takes taken.ensures.within_limit
    (omega (arith, c.len.ensures, c.if-len-gt-MAX_LINE.true))

pub pieces-preserved : goal.pieces-preserved
pieces-preserved g c =
    let line = refill_keeps_line_so_far c.pieces.invariant.line c.fill.ensures.left in
    let taken = c.take_piece-taken in
    let takes = subst (λ (t : Bool). PieceRead c.fill.new.self.left c.pieces.line.items taken.result.bytes t taken.new.pieces.left
    taken.new.line.items) c.if-taken.false taken.ensures.takes in
    record {
      line = piece_extends_line line takes taken.ensures.within_limit (omega (arith, c.len.ensures, c.if-len-gt-MAX_LINE.false));
      capacity = omega (arith, c.pieces.invariant.capacity, taken.ensures.capacity);
    }
