use Rattle.std.proofs.Common.{◌∙◌, sym, ap, arith, length, List, ℕ, ◌++◌, take}
use Rattle.dfu_link.proofs.SourceLaws.{piece_with_newline_ends_line, plain_piece_continues_line}
use Rattle.dfu_link.proofs.scripting.source.take_piece.Goals as goal

pub returns-in-Some-clause-takes : goal.returns-in-Some-clause-takes
returns-in-Some-clause-takes g c =
    let ready = c.args.pieces.now.ready in
    let k = c.min.result in
    piece_with_newline_ends_line c.args.pieces.now.left c.advance.new.self.left c.args.line.now.items c.put.new.line.items ready
    c.split_at.result.0.now k
    c.in-Some.end (c.split_at.ensures.front ∙ ap (take k) c.ready-ready.ensures) (sym c.newline_at.ensures ∙ c.in-Some.is)
    c.advance.ensures.left (c.put.ensures.items ∙ ap (λ (xs : List ℕ). c.args.line.now.items ++ xs)
    c.split_at-in-Some.ensures.front) (omega (arith, c.min.ensures, c.min-room.ensures, c.requires.short))

pub returns-in-None-clause-takes : goal.returns-in-None-clause-takes
returns-in-None-clause-takes g c =
    let ready = c.args.pieces.now.ready in
    let k = c.min.result in
    plain_piece_continues_line c.args.pieces.now.left c.advance-in-None.new.self.left c.args.line.now.items c.put-in-None.new.line.items
    ready
    c.split_at.result.0.now k (c.split_at.ensures.front ∙ ap (take k) c.ready-ready.ensures) (sym c.newline_at.ensures ∙ c.in-None.is)
    c.advance-in-None.ensures.left c.put-in-None.ensures.items (omega (arith, c.min.ensures, c.min-room.ensures, c.requires.short))
    (omega (
      arith,
      c.min.ensures,
      c.min-room.ensures,
      c.requires.short,
      c.requires.most,
      c.requires.ready,
      ap length c.ready-ready.ensures,
    )) c.requires.ready
