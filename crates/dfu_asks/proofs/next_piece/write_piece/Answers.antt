use Rattle.std.proofs.Common.{ℕ, ◌+◌, ◌≤◌, length, take, drop, replicate, arith, length-append}
use Rattle.std.proofs.lemmas.List.{length-replicate}
use Rattle.dfu_asks.specs.Steps.{program_step}
use Rattle.dfu_asks.specs.Cuts.{source_bytes, zero_padded_source, range_of_source}
use Rattle.dfu_slots.proofs.Ranges.{range_within_has_its_length}
use Rattle.dfu_asks.proofs.Cutting.{next_piece_is_cut_of_source}
use Rattle.dfu_asks.proofs.next_piece.write_piece.Goals as goal

pub returns-in-Program-clause-found : goal.returns-in-Program-clause-found
returns-in-Program-clause-found c = λ yes.
    let before = c.args.cut.now in
    let source = source_bytes c.args.source before.inputs before.front in
    let all = zero_padded_source c.args.source before.inputs before.front in
    let within : c.args.skip + c.args.len ≤ length all =
    omega (arith, length-append source (replicate 256 0), length-replicate {A = ℕ} 256 0, c.requires.within) in
    let from = c.in-Program.from in
    let part = next_piece_is_cut_of_source all c.args.at c.args.skip c.args.len c.in-Program.from c.min.result
    c.in-Program.ensures.1 c.min.ensures within in
    c.in-Program.ensures.0 (range_of_source c.args.source before.inputs before.front c.args.skip c.args.len)
    (program_step (c.args.at + from) (take c.min.result (drop (c.args.skip + from) all)))
    (range_within_has_its_length all c.args.skip c.args.len within) part
