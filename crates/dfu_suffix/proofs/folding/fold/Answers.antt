use Rattle.std.proofs.Common.{◌≡◌, List, ℕ, length, refl, take, ap, ◌∙◌, arith}
use Rattle.dfu_suffix.specs.Laws.{AreBytes}
use Rattle.dfu_suffix.specs.inside.Folding.{register_of_residue}
use Rattle.dfu_suffix.specs.Register.{after_bits, bits_of}
use Rattle.dfu_suffix.proofs.FoldRooms.{folded_residue_moves_to_front, fold_turn_takes_byte}
use Rattle.dfu_suffix.proofs.folding.fold.Goals as goal

pub loop-place-init : goal.loop-place-init
unfolding after_bits bits_of
loop-place-init c = record { long = c.told-room; each = c.fits-room; so_far = refl }

pub loop-place-preserved : goal.loop-place-preserved
loop-place-preserved c =
    let each : AreBytes c.args.bytes.now = λ k. omega (arith, c.type_inv.bytes k) in
    fold_turn_takes_byte (register_of_residue (take 1968 c.args.room.now)) c.args.bytes.now c.loop-place.room c.loop-place.place
    c.loop-place.invariant
    each c.loop-place-test.true c.requires

pub returns : goal.returns
returns c =
    let all : c.loop-place.place ≡ length c.args.bytes.now = omega arith in
    ap (λ (xs : List ℕ). register_of_residue (take 1968 xs)) c.copy_within.ensures.after
    ∙ folded_residue_moves_to_front (register_of_residue (take 1968 c.args.room.now)) c.loop-place.place c.args.bytes.now c.loop-place.room
    c.loop-place.invariant all
    c.requires
