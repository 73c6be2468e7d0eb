use Rattle.std.proofs.Common.{◌<◌, ap, sym, ◌∙◌, length}
use Rattle.dfu_host.specs.Blocks.{blocks}
use Rattle.dfu_host.proofs.Counts.{payload_has_block_count, goal_has_payload_blocks}
use Rattle.dfu_host.proofs.task.Task.count.Goals as goal

pub returns : goal.returns
returns c =
    let t = c.args.self.now.transfer in
    let h : 0 < length c.payload.result.now = rw c.payload.ensures c.requires in
    payload_has_block_count c.payload.result.now t c.args.self.now.transfers h
    ∙ ap (λ z. length (blocks z t)) c.payload.ensures
    ∙ ap length (sym (goal_has_payload_blocks c.args.self.now.goal t))
