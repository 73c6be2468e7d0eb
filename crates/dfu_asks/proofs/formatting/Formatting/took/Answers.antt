use Rattle.std.proofs.Common.{◌≡◌, ◌+◌, ◌≤◌, length, slice_range, refl, sym, ◌∙◌, ap, subst, arith}
use Rattle.dfu_slots.specs.declared.fault.WriteFault.TheVariants.{Failed, NotVerified}
use Rattle.dfu_asks.specs.Steps.{Step}
use Rattle.dfu_asks.specs.Cuts.{step_of_cut}
use Rattle.dfu_asks.specs.Phases.{remaining_steps, steps_of_part}
use Rattle.dfu_asks.specs.Formats.{format_piece_on_flash, format_piece_failed, format_piece_not_on_flash}
use Rattle.dfu_asks.proofs.Pieces.{next_piece_is_unique, piece_ends_within_series}
use Rattle.dfu_asks.proofs.CallResults.{true_test_holds, not_true_if_false, negation_true_if_false}
use Rattle.dfu_asks.proofs.Cutting.{cut_step_has_piece_size, found_piece_is_in_part, none_left_in_part}
use Rattle.dfu_asks.proofs.FormatGoing.{part_piece_remains, format_keeps_flash_size, flash_and_image_are_small, broken_piece_breaks_format, format_one_piece_further}
use Rattle.dfu_asks.proofs.formatting.Formatting.took.Goals as goal

pub returns-then-failed-clause-outcome : goal.returns-then-failed-clause-outcome
returns-then-failed-clause-outcome c = λ was before asks p piece torn.
    format_piece_failed c.if-failed.true
    (broken_piece_breaks_format c.args.self.now c.args.image.now was before asks.way p piece c.args.flash.now torn Failed)

pub returns-then-not-stands-clause-outcome : goal.returns-then-not-stands-clause-outcome
returns-then-not-stands-clause-outcome c = λ was before asks p piece torn.
    let f = c.args.self.now in
    let image = c.args.image.now in
    let flash = c.args.flash.now in
    let yes = true_test_holds c.due.result c.if-not-due.false in
    let q = step_of_cut c.due.new.cut in
    let size : length flash ≡ length was = torn.size ∙ format_keeps_flash_size f image was before asks.way in
    let part = found_piece_is_in_part f (length flash) (length was) size image c.inputs_for.result c.inputs_for.ensures.block
    c.cut_at-cut.result
    c.cut_at-cut.ensures.inputs c.cut_at-cut.ensures.rest q (c.due.ensures.found yes) in
    let one : p ≡ q = next_piece_is_unique (remaining_steps f (length was) image) f.done p q piece
    (part_piece_remains f (length was) image f.done q part) in
    format_piece_not_on_flash c.if-failed.false
    (λ st. not_true_if_false c.stands.result c.if-not-stands.true
    (c.stands.ensures.stands.1
    (subst (λ (y : Step). slice_range flash y.write.at (y.write.at + length y.write.bytes) ≡ y.write.bytes) one st)))
    (broken_piece_breaks_format f image was before asks.way p piece flash torn NotVerified)

pub returns-clause-outcome : goal.returns-clause-outcome
returns-clause-outcome c = λ was before asks p piece torn.
    let f = c.args.self.now in
    let image = c.args.image.now in
    let flash = c.args.flash.now in
    let yes = true_test_holds c.due.result c.if-not-due.false in
    let q = step_of_cut c.due.new.cut in
    let n = c.due.new.cut.piece.len in
    let size : length flash ≡ length was = torn.size ∙ format_keeps_flash_size f image was before asks.way in
    let part = found_piece_is_in_part f (length flash) (length was) size image c.inputs_for.result c.inputs_for.ensures.block
    c.cut_at-cut.result
    c.cut_at-cut.ensures.inputs c.cut_at-cut.ensures.rest q (c.due.ensures.found yes) in
    let one : p ≡ q = next_piece_is_unique (remaining_steps f (length was) image) f.done p q piece
    (part_piece_remains f (length was) image f.done q part) in
    let on = true_test_holds c.stands.result c.if-not-stands.false in
    let there : slice_range flash p.write.at (p.write.at + length p.write.bytes) ≡ p.write.bytes =
    subst (λ (y : Step). slice_range flash y.write.at (y.write.at + length y.write.bytes) ≡ y.write.bytes) (sym one)
    (c.stands.ensures.stands.0 on) in
    let count : length p.write.bytes ≡ n = ap (λ (y : Step). length y.write.bytes) one
    ∙ (cut_step_has_piece_size _ c.due.new.cut (c.due.ensures.found_piece yes)) in
    let fits : p.write.at + length p.write.bytes ≤ length flash =
    omega (arith, c.stands.ensures.within on, ap (λ (y : Step). y.write.at) one, count) in
    format_piece_on_flash c.advance.result c.if-failed.false there
    (c.advance.ensures.outcome was flash (sym size)
    (format_one_piece_further f image was before asks.way p piece flash torn fits there (f.done + n) (omega (arith, count)))
    (omega (
      arith,
      piece_ends_within_series (steps_of_part f (length was) image) f.done q part,
      (cut_step_has_piece_size _ c.due.new.cut
          (c.due.ensures.found_piece yes)),
    )))

pub returns-clause-piece_advances : goal.returns-clause-piece_advances
returns-clause-piece_advances c = λ asks p piece.
    let f = c.args.self.now in
    let image = c.args.image.now in
    let size = length c.args.flash.now in
    let q = step_of_cut c.due.new.cut in
    let part = found_piece_is_in_part f size size refl image c.inputs_for.result c.inputs_for.ensures.block c.cut_at-cut.result
    c.cut_at-cut.ensures.inputs c.cut_at-cut.ensures.rest q (c.due.ensures.found (true_test_holds c.due.result c.if-not-due.false)) in
    let one : p ≡ q = next_piece_is_unique (remaining_steps f size image) f.done p q piece (part_piece_remains f size image f.done q part)
    in
    let count = cut_step_has_piece_size _ c.due.new.cut (c.due.ensures.found_piece (true_test_holds c.due.result c.if-not-due.false)) in
    let end = piece_ends_within_series (steps_of_part f size image) f.done q part in
    let on = c.advance.ensures.piece_follows asks (omega (arith, end, count)) in
    record {
      front = on.front;
      series = on.series;
      place = omega (arith, on.place, ap (λ (y : Step). length y.write.bytes) one, count);
    }

pub returns-then-not-due-clause-taken : goal.returns-then-not-due-clause-taken
returns-then-not-due-clause-taken c = λ was before same asks.
    let f = c.args.self.now in
    let image = c.args.image.now in
    let small = flash_and_image_are_small f image was before asks.way in
    let size : length c.args.flash.now ≡ length was = sym same ∙ format_keeps_flash_size f image was before asks.way in
    omega (
      arith,
      asks.left,
      (none_left_in_part f (length c.args.flash.now) (length was) size image c.inputs_for.result c.inputs_for.ensures.block
          c.cut_at-cut.result
          c.cut_at-cut.ensures.inputs c.cut_at-cut.ensures.rest small.1
          (c.due.ensures.none (negation_true_if_false c.due.result c.if-not-due.true) (omega (arith, small.0, same)))),
    )
