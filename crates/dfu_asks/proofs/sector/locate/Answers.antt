use Rattle.std.proofs.Common.{◌≡◌, ◌<◌, ℕ, subst, sym, arith}
use Rattle.dfu_asks.specs.Position.{IsPositionInWrite}
use Rattle.dfu_asks.proofs.Locating.{plain_position_is_in_write, position_is_in_write, rest_behind_erases_is_same}
use Rattle.dfu_asks.proofs.sector.locate.Goals as goal

pub returns-then-size-eq0 : goal.returns-then-size-eq0
returns-then-size-eq0 c =
    let none : c.args.sector.size ≡ 0 = omega (arith, c.size-size.ensures.value, c.if-size-eq0.true) in
    subst (λ (n : ℕ). IsPositionInWrite n c.args.at c.args.len c.args.done c.locate_write.result) (sym none)
    (plain_position_is_in_write 0 c.args.at c.args.len c.args.done c.args.done (omega arith) (omega arith) c.locate_write.result
    c.locate_write.ensures)

pub returns-in-Behind : goal.returns-in-Behind
returns-in-Behind c =
    let n = c.size-size.result in
    let some : 0 < n = omega (arith, c.if-size-eq0.false) in
    let e = c.in-Behind.ensures in
    subst (λ (k : ℕ). IsPositionInWrite k c.args.at c.args.len c.args.done c.locate_write-in-Behind.result) c.size-size.ensures.value
    (plain_position_is_in_write n c.args.at c.args.len c.args.done c.in-Behind.rest
    (rest_behind_erases_is_same n c.args.at c.args.len c.args.done c.in-Behind.rest some e.0)
    (omega (arith, e.1)) c.locate_write-in-Behind.result c.locate_write-in-Behind.ensures)

pub returns-in_default : goal.returns-in_default
returns-in_default c =
    let n = c.size-size.result in
    let some : 0 < n = omega (arith, c.if-size-eq0.false) in
    subst (λ (k : ℕ). IsPositionInWrite k c.args.at c.args.len c.args.done c.locate_erase.result) c.size-size.ensures.value
    (position_is_in_write n c.args.at c.args.len c.args.done c.locate_erase.result some c.locate_erase.ensures
    c.in_default.not-Behind)
