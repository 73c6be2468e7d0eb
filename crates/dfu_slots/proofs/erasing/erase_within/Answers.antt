use Rattle.std.proofs.Common.{ℕ, ◌+◌, sym, subst, arith}
use Rattle.dfu_slots.proofs.ErasedTo.{ErasedTo, erased_up_to_first_sector, erased_to_next_sector, erases_broken_at_sector, all_sectors_erased, next_sector_within_medium}
use Rattle.dfu_slots.proofs.erasing.erase_within.Goals.{then-behind-eq0, else-behind-eq0}
use Rattle.dfu_slots.proofs.erasing.erase_within.Goals as goal

pub loop-place-init : goal.loop-place-init
loop-place-init g c =
    let q = c.requires in
    let begins = erased_up_to_first_sector (g.M.Medium.state c.args.medium.now) c.args.at c.args.len q.sized q.some q.within
    c.sector-sector.result
    c.sector-sector.ensures c.if-behind-eq0.place in
    elim c.if-behind-eq0.branch [
      | then-behind-eq0 w ↦ begins.0 w.if-behind-eq0.true w.place-is
      | else-behind-eq0 w ↦ begins.1 w.if-behind-eq0.false w.place-is
    ]

pub erase-requires-clause-within : goal.erase-requires-clause-within
erase-requires-clause-within g c =
    let q = c.requires in
    next_sector_within_medium c.loop-place.invariant q.sized q.some c.loop-place-test.true q.within

pub returns-in-Err : goal.returns-in-Err
returns-in-Err g c =
    let q = c.requires in
    erases_broken_at_sector c.loop-place.invariant q.sized q.some c.loop-place-test.true q.within (g.M.Medium.state c.erase.new.medium)
    c.in-Err.fault c.in-Err.ensures.failed

pub loop-place-preserved : goal.loop-place-preserved
loop-place-preserved g c =
    let q = c.requires in
    let m = g.M.Medium.state c.args.medium.now in
    let now = g.M.Medium.state c.erase.new.medium in
    subst (λ (n : ℕ). ErasedTo m now m.grain.sector c.args.at c.args.len (c.loop-place.place + n)) (sym c.sector-sector.ensures)
    (erased_to_next_sector c.loop-place.invariant q.sized q.some c.loop-place-test.true q.within now c.in-Ok.ensures.ok)

pub returns : goal.returns
returns g c = all_sectors_erased c.loop-place.invariant (omega (arith, c.loop-place-test.false))
