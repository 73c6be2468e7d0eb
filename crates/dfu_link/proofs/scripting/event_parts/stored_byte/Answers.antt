use Rattle.std.proofs.Common.{◌≡◌, ◌∙◌, ◌+◌, ap, get_or, ℕ, List, arith}
use Rattle.std.proofs.lemmas.List.Edits.{get_or-between}
use Rattle.dfu_link.proofs.scripting.event_parts.stored_byte.Goals as goal

pub returns : goal.returns
returns g c =
    let at = c.args.at + c.args.i in
    let bytes = c.args.slots.now.medium.bytes in
    let same : at + 0 ≡ at = omega arith in
    ap (λ (l : List ℕ). get_or l 0 0) (rw c.medium-medium.ensures.medium at c.read.ensures)
    ∙ get_or-between bytes at (at + 1) 0 0 (omega arith) ∙ ap (λ (n : ℕ). get_or bytes n 0) same
