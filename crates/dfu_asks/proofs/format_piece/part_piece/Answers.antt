use Rattle.std.proofs.Common.{◌≡◌, ◌+◌, ◌/◌, List, length, refl, ◌∙◌, subst, arith}
use Rattle.dfu_slots.specs.Layout.{header}
use Rattle.dfu_asks.specs.declared.formatting.FormatStep.TheVariants as format_step
use Rattle.dfu_asks.specs.Steps.{Step, step_writes}
use Rattle.dfu_asks.specs.Carried.{total, IsStepPiece}
use Rattle.dfu_asks.specs.Cuts.{step_of_cut}
use Rattle.dfu_asks.proofs.SequenceSteps.{close_ops_are_step, image_op_is_steps, image_ops_have_few_bytes, format_op_1_has_header_steps, format_op_2_has_gate_steps, part_in}
use Rattle.dfu_asks.proofs.format_piece.part_piece.Goals as goal

pub sequence_piece-requires-in-Image : goal.sequence_piece-requires-in-Image
sequence_piece-requires-in-Image c = image_ops_have_few_bytes c.args.cut.now.inputs c.args.cut.now.front c.in-Image.from

pub returns-in-CloseSecond-clause-found : goal.returns-in-CloseSecond-clause-found
returns-in-CloseSecond-clause-found c = λ yes.
    let f = c.args.formatting.now in
    let s = c.args.cut.now.inputs in
    subst (λ (ss : List Step). IsStepPiece ss c.args.cut.now.rest (step_of_cut c.sequence_piece.new.cut))
    (close_ops_are_step s c.args.cut.now.front (c.args.size / 2)
    ∙ part_in f c.args.size s c.requires.unit c.requires.sector format_step.CloseSecond c.in-CloseSecond.is)
    (c.sequence_piece.ensures.found yes)

pub returns-in-CloseFirst-clause-found : goal.returns-in-CloseFirst-clause-found
returns-in-CloseFirst-clause-found c = λ yes.
    let f = c.args.formatting.now in
    let s = c.args.cut.now.inputs in
    subst (λ (ss : List Step). IsStepPiece ss c.args.cut.now.rest (step_of_cut c.sequence_piece-in-CloseFirst.new.cut))
    (close_ops_are_step s c.args.cut.now.front 0
    ∙ part_in f c.args.size s c.requires.unit c.requires.sector format_step.CloseFirst c.in-CloseFirst.is)
    (c.sequence_piece-in-CloseFirst.ensures.found yes)

pub returns-in-Image-clause-found : goal.returns-in-Image-clause-found
returns-in-Image-clause-found c = λ yes.
    let f = c.args.formatting.now in
    let s = c.args.cut.now.inputs in
    subst (λ (ss : List Step). IsStepPiece ss c.args.cut.now.rest (step_of_cut c.sequence_piece-in-Image.new.cut))
    (image_op_is_steps s c.args.cut.now.front c.in-Image.from c.requires.held
    ∙ part_in f c.args.size s c.requires.unit c.requires.sector (format_step.Image c.in-Image.from) c.in-Image.is)
    (c.sequence_piece-in-Image.ensures.found yes)

pub returns-in-Image-clause-none : goal.returns-in-Image-clause-none
returns-in-Image-clause-none c = λ no.
    let f = c.args.formatting.now in
    let s = c.args.cut.now.inputs in
    let count = subst (λ (ss : List Step). total (step_writes ss) + c.sequence_piece-in-Image.new.cut.rest ≡ c.args.cut.now.rest)
    (image_op_is_steps s c.args.cut.now.front c.in-Image.from c.requires.held
    ∙ part_in f c.args.size s c.requires.unit c.requires.sector (format_step.Image c.in-Image.from) c.in-Image.is)
    (c.sequence_piece-in-Image.ensures.behind no) in
    omega (arith, count)

pub returns-in-Header-clause-found : goal.returns-in-Header-clause-found
returns-in-Header-clause-found c = λ yes.
    let f = c.args.formatting.now in
    let s = c.args.cut.now.inputs in
    subst (λ (ss : List Step). IsStepPiece ss c.args.cut.now.rest (step_of_cut c.open_piece.new.cut))
    (format_op_1_has_header_steps s (header 2 0 (length s.block.now) f.register) (length s.block.now) f.register refl
    ∙ part_in f c.args.size s c.requires.unit c.requires.sector format_step.Header c.in-Header.is) (c.open_piece.ensures.found yes)

pub returns-in-Header-clause-none : goal.returns-in-Header-clause-none
returns-in-Header-clause-none c = λ no.
    let f = c.args.formatting.now in
    let s = c.args.cut.now.inputs in
    let count = subst (λ (ss : List Step). total (step_writes ss) + c.open_piece.new.cut.rest ≡ c.args.cut.now.rest)
    (format_op_1_has_header_steps s (header 2 0 (length s.block.now) f.register) (length s.block.now) f.register refl
    ∙ part_in f c.args.size s c.requires.unit c.requires.sector format_step.Header c.in-Header.is) (c.open_piece.ensures.behind no) in
    omega (arith, count)

pub returns-in-Gate-clause-found : goal.returns-in-Gate-clause-found
returns-in-Gate-clause-found c = λ yes.
    let f = c.args.formatting.now in
    let s = c.args.cut.now.inputs in
    subst (λ (ss : List Step). IsStepPiece ss c.args.cut.now.rest (step_of_cut c.open_piece-in-Gate.new.cut))
    (format_op_2_has_gate_steps s (header 2 0 (length s.block.now) f.register)
    ∙ part_in f c.args.size s c.requires.unit c.requires.sector format_step.Gate c.in-Gate.is) (c.open_piece-in-Gate.ensures.found yes)

pub returns-in-Gate-clause-none : goal.returns-in-Gate-clause-none
returns-in-Gate-clause-none c = λ no.
    let f = c.args.formatting.now in
    let s = c.args.cut.now.inputs in
    let count = subst (λ (ss : List Step). total (step_writes ss) + c.open_piece-in-Gate.new.cut.rest ≡ c.args.cut.now.rest)
    (format_op_2_has_gate_steps s (header 2 0 (length s.block.now) f.register)
    ∙ part_in f c.args.size s c.requires.unit c.requires.sector format_step.Gate c.in-Gate.is) (c.open_piece-in-Gate.ensures.behind no) in
    omega (arith, count)
