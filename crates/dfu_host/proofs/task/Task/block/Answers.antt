use Rattle.std.proofs.Common.{◌≡◌, ◌*◌, min, length, ap, sym, ◌∙◌, arith, slice_index_or, []}
use Rattle.dfu_host.specs.Blocks.{blocks}
use Rattle.dfu_host.specs.Goals.{payload_of}
use Rattle.dfu_host.proofs.Counts.{block_is_prefix_from_place, block_is_slice_of_rest, goal_has_payload_blocks}
use Rattle.dfu_host.proofs.task.Task.block.Goals as goal

pub returns-clause-bytes : goal.returns-clause-bytes
returns-clause-bytes c =
    let t = c.args.self.now.transfer in
    let begins : c.min.result ≡ min (c.args.number * t) (length c.payload-payload.result.now) =
    omega (arith, c.min.ensures, c.saturating_mul.ensures) in
    block_is_slice_of_rest c.payload-payload.result.now t c.args.number c.min.result c.min-2.result c.args.self.now.transfers begins
    c.min-2.ensures
    ∙ ap (λ z. slice_index_or (blocks z t) c.args.number []) c.payload-payload.ensures
    ∙ ap (λ z. slice_index_or z c.args.number []) (sym (goal_has_payload_blocks c.args.self.now.goal t))

pub returns-clause-cut : goal.returns-clause-cut
returns-clause-cut c =
    let t = c.args.self.now.transfer in
    block_is_prefix_from_place (payload_of c.args.self.now.goal) t c.args.number _ c.args.self.now.transfers
    (returns-clause-bytes c ∙ ap (λ z. slice_index_or z c.args.number []) (goal_has_payload_blocks c.args.self.now.goal t))
