use Rattle.std.proofs.Common.{ℕ, List, ◌∙◌, get_or, sym, ap, arith}
use Rattle.dfu_slots.specs.Image.{gate_of}
use Rattle.dfu_slots.specs.Layout.{header}
use Rattle.dfu_slots.proofs.Parts.{read_header_is_formed}
use Rattle.dfu_slots.proofs.read.header_len.Goals as goal

pub returns-then-is_formed-clause-some : goal.returns-then-is_formed-clause-some
returns-then-is_formed-clause-some g c =
    let m = g.M.Medium.state c.args.medium.now in
    let found : List ℕ = c.header_of-header.result in
    let formed = c.is_formed.ensures.0 c.if-is_formed.true in
    read_header_is_formed (gate_of m) m.bytes c.args.at c.length_in-len.result found c.header_of-header.ensures
    (formed.0 ∙ ap (λ (n : ℕ). header 1 (get_or found 0 0) n 0) (sym c.length_in-len.ensures))
    (omega (arith, c.length_in-len.ensures, formed.1, c.capacity_of.ensures)) c.requires.within (omega (arith, c.requires.sized.room))
