use Rattle.std.proofs.Common.{length, drop, refl, sym, subst, arith}
use Rattle.dfu_asks.specs.Steps.{Step}
use Rattle.dfu_asks.specs.Carried.{IsStepPiece}
use Rattle.dfu_asks.specs.Cuts.{zero_padded_source, step_of_cut}
use Rattle.dfu_asks.specs.Phases.{remaining_steps}
use Rattle.dfu_asks.proofs.CallResults.{true_test_holds, not_true_if_false, negation_true_if_false}
use Rattle.dfu_asks.proofs.Cutting.{cut_step_has_piece_size, found_piece_is_in_part, none_left_in_part}
use Rattle.dfu_asks.proofs.FormatGoing.{part_piece_remains, found_piece_remains, format_keeps_flash_size, flash_and_image_are_small, format_piece_erases_sector, format_piece_lies_within_flash}
use Rattle.dfu_asks.proofs.formatting.Formatting.next.Goals as goal

pub returns-clause-piece : goal.returns-clause-piece
returns-clause-piece c =
    let yes = true_test_holds c.due.result c.if-not-due.false in
    let found = found_piece_is_in_part c.args.self.now (length c.args.flash.now) (length c.args.flash.now) refl c.args.image.now
    c.inputs_for.result
    c.inputs_for.ensures.block c.cut_at-cut.result c.cut_at-cut.ensures.inputs c.cut_at-cut.ensures.rest (step_of_cut c.due.new.cut)
    (c.due.ensures.found yes) in
    subst (λ (p : Step). IsStepPiece (remaining_steps c.args.self.now (length c.args.flash.now) c.args.image.now) c.args.self.now.done p)
    (sym c.fill.ensures.step)
    (part_piece_remains c.args.self.now (length c.args.flash.now) c.args.image.now c.args.self.now.done (step_of_cut c.due.new.cut) found)

pub returns-then-not-due-clause-none_pending : goal.returns-then-not-due-clause-none_pending
returns-then-not-due-clause-none_pending c = λ was k.
    let f = c.args.self.now in
    let image = c.args.image.now in
    let flash = c.args.flash.now in
    let small = flash_and_image_are_small f image was flash k.way in
    omega (
      arith,
      k.left,
      (none_left_in_part f (length flash) (length was) (format_keeps_flash_size f image was flash k.way) image c.inputs_for.result
          c.inputs_for.ensures.block
          c.cut_at-cut.result c.cut_at-cut.ensures.inputs c.cut_at-cut.ensures.rest small.1
          (c.due.ensures.none (negation_true_if_false c.due.result c.if-not-due.true) small.0)),
    )

pub returns-then-not-is_sound-clause-none_pending : goal.returns-then-not-is_sound-clause-none_pending
returns-then-not-is_sound-clause-none_pending c = λ was k.
    let q = step_of_cut c.due.new.cut in
    let piece = found_piece_remains c.args.self.now c.args.image.now was c.args.flash.now k.way
    c.inputs_for.result c.inputs_for.ensures.block
    c.cut_at-cut.result c.cut_at-cut.ensures.inputs c.cut_at-cut.ensures.rest q
    (c.due.ensures.found (true_test_holds c.due.result c.if-not-due.false)) in
    not_true_if_false c.is_sound.result c.if-not-is_sound.true
    ((c.is_sound.ensures (drop c.due.new.cut.from (zero_padded_source c.due.new.cut.source c.due.new.cut.inputs c.due.new.cut.front))).1
    (format_piece_erases_sector c.args.self.now c.args.image.now was c.args.flash.now k.way q piece))

pub returns-then-piece-flash-clause-none_pending : goal.returns-then-piece-flash-clause-none_pending
returns-then-piece-flash-clause-none_pending c = λ was k.
    let yes = true_test_holds c.due.result c.if-not-due.false in
    let q = step_of_cut c.due.new.cut in
    let piece = found_piece_remains c.args.self.now c.args.image.now was c.args.flash.now k.way
    c.inputs_for.result c.inputs_for.ensures.block
    c.cut_at-cut.result c.cut_at-cut.ensures.inputs c.cut_at-cut.ensures.rest q (c.due.ensures.found yes) in
    omega (
      arith,
      c.if-piece-flash.true,
      (cut_step_has_piece_size _ c.due.new.cut (c.due.ensures.found_piece yes)),
      format_piece_lies_within_flash c.args.self.now c.args.image.now was c.args.flash.now k.way q piece,
    )
