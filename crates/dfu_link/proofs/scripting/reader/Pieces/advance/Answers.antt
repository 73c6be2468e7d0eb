use Rattle.std.proofs.Common.{◌≡◌, ◌∙◌, ◌+◌, ap, length, drop, slice_range, arith}
use Rattle.dfu_link.specs.inside.Source.{PiecesState}
use Rattle.dfu_link.proofs.SourceLaws.{advance_drops_bytes_at_hand, advance_consumes_bytes}
use Rattle.dfu_link.proofs.scripting.reader.Pieces.advance.Goals as goal

pub returns-clause-ready : goal.returns-clause-ready
returns-clause-ready g c =
    let i = c.self.inside in
    let same : slice_range i.bytes i.from i.to ≡ c.args.self.now.ready = ap (λ (p : PiecesState). p.ready) c.self.view_is in
    advance_drops_bytes_at_hand i.bytes i.from i.to c.args.count (omega (arith, c.requires, ap length same)) ∙ ap (drop c.args.count) same

pub returns-clause-left : goal.returns-clause-left
returns-clause-left g c =
    let i = c.self.inside in
    let n = c.args.count in
    let ready = slice_range i.bytes i.from i.to in
    let same : ready ≡ c.args.self.now.ready = ap (λ (p : PiecesState). p.ready) c.self.view_is in
    let there = advance_consumes_bytes (g.R.Read.remaining i.reader) ready (slice_range i.bytes (i.from + n) i.to) n
    (advance_drops_bytes_at_hand i.bytes i.from i.to n (omega (arith, c.requires, ap length same))) in
    rw (← c.self.view_is) there
