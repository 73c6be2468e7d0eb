use Rattle.std.proofs.Common.{◌≡◌, ◌↔◌, ◌≤◌, ◌<◌, IsTrue, ℕ, min, length, slice_index, refl, subst, arith}
use Rattle.dfu_asks.specs.Ahead.{IsErasedAhead}
use Rattle.dfu_asks.proofs.BytesBeforeSector.{erased_ahead_iff_front_clear}
use Rattle.dfu_asks.proofs.start.is_erased_to_sector.Goals as goal

pub returns-then-size-eq0 : goal.returns-then-size-eq0
returns-then-size-eq0 c = (λ t some. absurd (omega (arith, some, c.size-size.ensures.value, c.if-size-eq0.true)), λ clear. refl)

pub returns : goal.returns
returns c =
    let flash = c.args.flash.now in
    let at = c.args.at in
    let end : c.min-end.result ≡ min c.end_before_sector.result (length flash) = omega (arith, c.min-end.ensures) in
    subst (λ (k : ℕ). IsTrue c.is_flash_erased.result ↔ IsErasedAhead k flash at c.args.len) c.size-size.ensures.value
    (erased_ahead_iff_front_clear c.size-size.result flash at c.args.len c.end_before_sector.result (omega (arith, c.if-size-eq0.false))
    c.end_before_sector.ensures
    (subst (λ (to : ℕ). IsTrue c.is_flash_erased.result ↔ ((p : ℕ) → at ≤ p → p < to → slice_index flash p ≡ 255)) end c.is_flash_erased.ensures))
