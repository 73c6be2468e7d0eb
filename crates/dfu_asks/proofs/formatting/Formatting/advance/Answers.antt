use Rattle.std.proofs.Common.{[], length, refl, sym, arith}
use Rattle.dfu_asks.specs.Cuts.{step_of_cut}
use Rattle.dfu_asks.specs.Phases.{steps_of_part}
use Rattle.dfu_asks.proofs.CallResults.{negation_true_if_false}
use Rattle.dfu_asks.proofs.Cutting.{found_piece_is_in_part, none_left_in_part}
use Rattle.dfu_asks.proofs.Pieces.{piece_ends_within_series, next_piece_has_bytes}
use Rattle.dfu_asks.proofs.FormatGoing.{flash_and_image_are_small}
use Rattle.dfu_asks.proofs.formatting.Formatting.advance.Goals as goal

pub returns-then-part_piece-clause-outcome : goal.returns-then-part_piece-clause-outcome
returns-then-part_piece-clause-outcome c = λ was flash size way le.
    let f = c.args.self.now in
    let image = c.args.image.now in
    let p = step_of_cut c.part_piece.new.cut in
    let part = steps_of_part f (length was) image in
    let piece = found_piece_is_in_part f c.args.size (length was) (sym size) image c.inputs_for.result c.inputs_for.ensures.block
    c.cut_at-cut.result
    c.cut_at-cut.ensures.inputs c.cut_at-cut.ensures.rest p (c.part_piece.ensures.found c.if-part_piece.true) in
    record { way = way; left = omega (arith, piece_ends_within_series part f.done p piece, next_piece_has_bytes part f.done p piece) }

pub returns-clause-outcome : goal.returns-clause-outcome
returns-clause-outcome c = λ was flash size way le.
    let f = c.args.self.now in
    let image = c.args.image.now in
    c.go_on.ensures.outcome was flash way
    (omega (
      arith,
      le,
      (none_left_in_part f c.args.size (length was) (sym size) image c.inputs_for.result c.inputs_for.ensures.block c.cut_at-cut.result
          c.cut_at-cut.ensures.inputs c.cut_at-cut.ensures.rest (flash_and_image_are_small f image was flash way).1
          (λ small. c.part_piece.ensures.none (negation_true_if_false c.part_piece.result c.if-part_piece.false))),
    ))

pub returns-then-part_piece-clause-piece_follows : goal.returns-then-part_piece-clause-piece_follows
returns-then-part_piece-clause-piece_follows c = λ asks le. record { front = []; series = refl; place = omega arith }

pub returns-clause-piece_follows : goal.returns-clause-piece_follows
returns-clause-piece_follows c = λ asks le.
    let f = c.args.self.now in
    let image = c.args.image.now in
    c.go_on.ensures.piece_follows c.args.size asks
    (omega (
      arith,
      le,
      (none_left_in_part f c.args.size c.args.size refl image c.inputs_for.result c.inputs_for.ensures.block c.cut_at-cut.result
          c.cut_at-cut.ensures.inputs c.cut_at-cut.ensures.rest c.requires.image
          (λ small. c.part_piece.ensures.none (negation_true_if_false c.part_piece.result c.if-part_piece.false))),
    ))
