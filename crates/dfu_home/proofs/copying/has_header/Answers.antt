use Rattle.std.proofs.Common.{◌≡◌, ◌↔◌, ◌+◌, IsTrue, ℕ, List, slice_range, subst, arith}
use Rattle.dfu_slots.specs.Medium.{MediumState}
use Rattle.dfu_slots.specs.Image.{gate_of}
use Rattle.dfu_home.specs.Places.{first_of}
use Rattle.dfu_home.proofs.copying.has_header.Goals as goal

-- The 16 bytes of flash after the gate of the first slot are the slot's header.
flash_shows_first_header : (m : MediumState) (flash : List ℕ) (at : ℕ) → flash ≡ m.bytes → at ≡ gate_of m
    → slice_range flash at (at + 16) ≡ (first_of m).header
flash_shows_first_header m flash at is here =
    let e : at ≡ 0 + gate_of m = omega (arith, here) in
    λ i. slice_range (is i) (e i) (e i + 16)

pub returns : goal.returns
returns g c =
    let m : MediumState = g.M.Medium.state c.args.medium.now in
    subst (λ (l : List ℕ). IsTrue c.are_same.result ↔ (l ≡ c.args.header.now))
    (flash_shows_first_header m c.args.flash.now c.gate_of-at.result c.requires.mapped c.gate_of-at.ensures) c.are_same.ensures
