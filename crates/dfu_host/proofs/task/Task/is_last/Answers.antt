use Rattle.std.proofs.Common.{suc, ◌==◌, ◌*◌, ◌<◌, ap, sym, ◌∙◌, length}
use Rattle.dfu_host.specs.Blocks.{blocks}
use Rattle.dfu_host.proofs.Counts.{rest_tells_last_block, goal_has_payload_blocks}
use Rattle.dfu_host.proofs.task.Task.is_last.Goals as goal

pub returns-clause-last : goal.returns-clause-last
returns-clause-last c =
    let t = c.args.self.now.transfer in
    let h : c.args.number * t < length c.payload.result.now = rw c.payload.ensures c.requires in
    rest_tells_last_block c.payload.result.now t c.args.number c.args.self.now.transfers h
    ∙ ap (λ z. suc c.args.number == length (blocks z t)) c.payload.ensures
    ∙ ap (λ z. suc c.args.number == length z) (sym (goal_has_payload_blocks c.args.self.now.goal t))
