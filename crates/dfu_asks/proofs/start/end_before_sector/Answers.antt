use Rattle.std.proofs.Common.{◌≡◌, ℕ, ◌+◌, ◌-◌, ◌%◌, min, sym, ◌∙◌, subst, arith}
use Rattle.std.proofs.lemmas.Nat.{mod_below}
use Rattle.dfu_asks.specs.Ahead.{ReachesSectorAt}
use Rattle.dfu_asks.proofs.BytesBeforeSector.{range_at_edge_is_at_sector, range_reaches_sector}
use Rattle.dfu_asks.proofs.start.end_before_sector.Goals as goal

pub returns-then-behind-eq0 : goal.returns-then-behind-eq0
returns-then-behind-eq0 c =
    range_at_edge_is_at_sector c.args.size c.args.at c.args.len (sym c.offset_in_sector-behind.ensures ∙ c.if-behind-eq0.true)

pub returns : goal.returns
returns c =
    let size = c.args.size in
    let at = c.args.at in
    let least : min c.args.len (size - at % size) ≡ c.min.result =
    omega (arith, c.min.ensures, c.from.ensures, c.offset_in_sector-behind.ensures) in
    subst (λ (k : ℕ). ReachesSectorAt size at c.args.len (at + k)) least
    (range_reaches_sector size at c.args.len (omega (arith, c.if-behind-eq0.false, c.offset_in_sector-behind.ensures)) (mod_below at size
    c.requires.some))
