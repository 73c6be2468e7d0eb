use Rattle.std.proofs.Common.{◌≡◌, ◌+◌, ◌-◌, ◌<◌, true, ℕ, ◌∙◌, subst, sym, arith}
use Rattle.dfu_asks.proofs.Locating.{SectorsPassed, search_begins_at_first_sector, passed_one_sector_more, erase_piece_in_sector, search_passed_all_erases}
use Rattle.dfu_asks.specs.Steps.{erase_step, steps_of_writes}
use Rattle.dfu_asks.specs.Carried.{IsStepPiece}
use Rattle.dfu_slots.specs.Writes.{sector_erases}
use Rattle.dfu_asks.proofs.sector.locate_erase.Goals.{then-behind-eq0, else-behind-eq0}
use Rattle.dfu_asks.proofs.sector.locate_erase.Goals as goal

pub loop-place-init : goal.loop-place-init
loop-place-init c =
    let first = search_begins_at_first_sector c.args.sector c.args.at c.args.len c.args.done c.requires.large c.from-size.result
    c.from-behind.result
    c.from-size.ensures (c.from-behind.ensures ∙ c.offset_in_sector.ensures) c.if-behind-eq0.place in
    elim c.if-behind-eq0.branch [
      | then-behind-eq0 w ↦ first.0 w.if-behind-eq0.true w.place-is
      | else-behind-eq0 w ↦ first.1 w.if-behind-eq0.false w.place-is
    ]

pub returns-then-rest-size : goal.returns-then-rest-size
returns-then-rest-size c =
    let to = c.loop-place.invariant in
    let size : c.from-size.result ≡ c.args.sector = c.from-size.ensures in
    let lt : c.loop-place.rest < c.args.sector = omega (arith, size, c.if-rest-size.true) in (
      subst (λ (n : ℕ). IsStepPiece (steps_of_writes true (sector_erases c.args.sector c.args.at c.args.len)) c.args.done
          (erase_step (c.loop-place.place + c.loop-place.rest) (n - c.loop-place.rest))) (sym size)
          (erase_piece_in_sector c.args.sector c.args.at c.args.len c.args.done c.requires.large c.loop-place.place c.loop-place.rest to
          c.loop-place-test.true lt),
      omega (arith, size, lt),
      omega (arith, size, lt, to.count, to.span, c.loop-place-test.true),
      omega (arith, size, lt, c.loop-place-test.true, c.requires.small, c.requires.short, c.requires.most),
      omega (arith, size),
    )

pub loop-place-preserved : goal.loop-place-preserved
loop-place-preserved c =
    subst (λ (n : ℕ). SectorsPassed c.args.sector c.args.at c.args.len c.args.done (c.loop-place.place + n) (c.loop-place.rest - n))
    (sym c.from-size.ensures)
    (passed_one_sector_more c.args.sector c.args.at c.args.len c.args.done c.requires.large c.loop-place.place c.loop-place.rest
    c.loop-place.invariant
    c.loop-place-test.true (omega (arith, c.from-size.ensures, c.if-rest-size.false)))

pub returns : goal.returns
returns c = search_passed_all_erases c.args.sector c.args.at c.args.len c.args.done c.requires.large c.loop-place.place c.loop-place.rest
    c.loop-place.invariant (omega (arith, c.loop-place-test.false))
