use Rattle.std.proofs.Common.{◌≡◌, ◌/◌, ℕ, List, take, drop, ◌∙◌, ap, arith}
use Rattle.std.specs.Int.{w32, from_le_bytes}
use Rattle.dfu_slots.specs.Medium.{MediumState}
use Rattle.dfu_slots.specs.Layout.{header_length}
use Rattle.dfu_slots.specs.Image.{slot_of}
use Rattle.dfu_home.specs.Places.{second_slot_of}
use Rattle.dfu_home.proofs.SecondSlotImage.{long_second_image_is_not_active}
use Rattle.dfu_home.proofs.deciding.is_copying.Goals as goal

pub returns-then-length_in-capacity_of-clause-none : goal.returns-then-length_in-capacity_of-clause-none
returns-then-length_in-capacity_of-clause-none g c = λ _.
    let m : MediumState = g.M.Medium.state c.args.medium.now in
    let len : c.length_in.result ≡ header_length (second_slot_of m) =
    c.length_in.ensures ∙ ap (λ (h : List ℕ). from_le_bytes w32 (take 4 (drop 4 h)))
    (c.header_of.ensures ∙ ap (λ (n : ℕ). (slot_of m (n / 2)).header) c.len-second.ensures) in
    long_second_image_is_not_active m c.requires.shut (omega (arith, len, c.capacity_of.ensures, c.if-length_in-capacity_of.true))
