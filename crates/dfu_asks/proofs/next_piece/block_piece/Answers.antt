use Rattle.std.proofs.Common.{◌≡◌, ◌+◌, ◌≤◌, List, [], ◌∷◌, length, if◌then◌else◌, not, sym, ap, subst, arith}
use Rattle.dfu_asks.specs.declared.pending_writes.WriteInputs.{WriteInputs}
use Rattle.dfu_asks.specs.Steps.{Step, step_writes, put_steps, close_step}
use Rattle.dfu_asks.specs.Carried.{total, IsStepPiece}
use Rattle.dfu_asks.specs.Jobs.{input_grain, held_bytes_place}
use Rattle.dfu_asks.specs.Cuts.{step_of_cut}
use Rattle.dfu_asks.proofs.Pieces.{later_piece_is_in_joined}
use Rattle.dfu_asks.proofs.JobPieces.{step_list_totals_add_up}
use Rattle.dfu_asks.proofs.SequenceSteps.{put_ops_are_steps, put_ops_have_few_bytes}
use Rattle.dfu_asks.proofs.next_piece.block_piece.Goals as goal

pub sequence_piece-requires : goal.sequence_piece-requires
sequence_piece-requires c =
    let mid = c.close_piece.new.cut in
    let few : length mid.inputs.held.now ≤ 256 = subst (λ (s : WriteInputs). length s.held.now ≤ 256)
    (sym c.close_piece.ensures.same_inputs)
    c.requires.held in
    let most : length mid.inputs.block.now ≤ 4096 = subst (λ (s : WriteInputs). length s.block.now ≤ 4096)
    (sym c.close_piece.ensures.same_inputs)
    c.requires.block in
    put_ops_have_few_bytes mid.inputs mid.front c.args.spare mid.inputs.put_end few most

pub returns-clause-found : goal.returns-clause-found
returns-clause-found c = λ yes.
    let before = c.args.cut.now in
    let mid = c.close_piece.new.cut in
    let p = step_of_cut c.sequence_piece.new.cut in
    let put =
    λ (s : WriteInputs). put_steps (input_grain s) (held_bytes_place (input_grain s) c.args.spare s.put_end s.held.now) s.held.now
    s.block.now in
    let shut = if c.args.close then close_step (input_grain before.inputs) c.args.spare ∷ [] else [] in
    later_piece_is_in_joined shut (put before.inputs) before.rest mid.rest p (c.close_piece.ensures.behind (ap not c.if-close_piece.false))
    (subst (λ (s : WriteInputs). IsStepPiece (put s) mid.rest p) c.close_piece.ensures.same_inputs
    (subst (λ (ss : List Step). IsStepPiece ss mid.rest p) (put_ops_are_steps mid.inputs mid.front c.args.spare mid.inputs.put_end)
    (c.sequence_piece.ensures.found yes)))

pub returns-clause-none : goal.returns-clause-none
returns-clause-none c = λ no.
    let before = c.args.cut.now in
    let mid = c.close_piece.new.cut in
    let now = c.sequence_piece.new.cut in
    let put =
    λ (s : WriteInputs). put_steps (input_grain s) (held_bytes_place (input_grain s) c.args.spare s.put_end s.held.now) s.held.now
    s.block.now in
    let shut = if c.args.close then close_step (input_grain before.inputs) c.args.spare ∷ [] else [] in
    let count : total (step_writes (put before.inputs)) + now.rest ≡ mid.rest =
    subst (λ (s : WriteInputs). total (step_writes (put s)) + now.rest ≡ mid.rest) c.close_piece.ensures.same_inputs
    (subst (λ (ss : List Step). total (step_writes ss) + now.rest ≡ mid.rest)
    (put_ops_are_steps mid.inputs mid.front c.args.spare mid.inputs.put_end) (c.sequence_piece.ensures.behind no)) in
    omega (arith, step_list_totals_add_up shut (put before.inputs), c.close_piece.ensures.behind (ap not c.if-close_piece.false), count)
