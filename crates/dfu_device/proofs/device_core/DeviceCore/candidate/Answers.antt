use Rattle.std.proofs.Common.{◌≡◌, inl, inr, ℕ, ◌+◌, ◌-◌, ◌*◌, ◌%◌, length, refl, sym, ◌∙◌, ap, arith}
use Rattle.dfu_slots.specs.Units.{unit_size}
use Rattle.dfu_slots.specs.Medium.{MediumState}
use Rattle.dfu_slots.specs.Image.{gate_of, spare_at}
use Rattle.dfu_slots.proofs.Newest.{tested_places_are_slots}
use Rattle.dfu_device.specs.inside.View.{view_of_core}
use Rattle.dfu_device.proofs.Candidates.{candidate_is}
use Rattle.dfu_device.proofs.device_core.DeviceCore.candidate.Goals.{then-image-half, else-image-half}
use Rattle.dfu_device.proofs.device_core.DeviceCore.candidate.Goals as goal

pub returns-clause-some : goal.returns-clause-some
returns-clause-some g c =
    let d = c.args.self.now in
    let m = d.slots.medium in
    let med : g.M.Medium.state c.medium-medium.result.now ≡ m = c.medium-medium.ensures.medium in
    let long : c.len-half.result ≡ length m.bytes = c.len-half.ensures ∙ ap (λ (x : MediumState). length x.bytes) med in
    let image = c.image_at-image.ensures.value in
    let places = tested_places_are_slots (gate_of m) m.bytes in
    let room = c.held.ensures.store.has_image.active.sized.room in
    let place : c.if-image-half.at ≡ spare_at (gate_of m) m.bytes + 2 * gate_of m = elim c.if-image-half.branch [
      | then-image-half w ↦ elim places [
        | inl p ↦ omega (arith, w.at-is, long, image, p.0, p.1)
        | inr p ↦ absurd (omega (arith, w.if-image-half, long, image, p.0))
      ]
      | else-image-half w ↦ elim places [
        | inl p ↦ absurd (omega (arith, w.if-image-half, long, image, p.0, room))
        | inr p ↦ omega (arith, w.at-is, long, image, p.0, p.1)
      ]
    ] in
    let unit : c.size.result ≡ unit_size m.grain.unit =
    c.size.ensures.value ∙ ap unit_size (c.unit.ensures ∙ ap (λ (x : MediumState). x.grain.unit) med) in
    candidate_is (view_of_core d) d.mode d.block.items _ c.in_ok-len.len refl d.sound c.held.ensures.store
    (sym c.candidate_len.ensures ∙ c.in_ok-len.was) place (ap (λ (n : ℕ). c.in_ok-len.len - c.in_ok-len.len % n) unit)
