use Rattle.std.proofs.Common.{◌+◌, ◌-◌, ◌%◌, List, ℕ, ◌++◌, length, take, drop, length-drop, ◌∙◌, ap, arith}
use Rattle.std.proofs.lemmas.List.{take_all}
use Rattle.dfu_slots.proofs.HeldRest.{rest_ends_block}
use Rattle.dfu_slots.proofs.puts.hold_rest.Goals as goal

pub returns : goal.returns
returns c =
    let bytes = c.args.bytes.now in
    let from = length bytes - (c.len.result + length bytes) % c.size.result in
    c.hold-2.ensures
    ∙ ap (λ (l : List ℕ). l ++ take (length bytes - from) (drop from bytes)) c.clear.ensures
    ∙ take_all (length bytes - from) (drop from bytes) (omega (arith, length-drop from bytes))
    ∙ rest_ends_block c.args.unit c.args.held.now.items bytes c.len.result c.size.result c.len.ensures.value c.size.ensures.value
    c.requires.part c.if-rest-all.false
