use Rattle.std.proofs.Common.{suc, ◌==◌, ap, sym, ◌∙◌, length}
use Rattle.dfu_host.specs.Goals.{payload_of}
use Rattle.dfu_host.proofs.Counts.{next_block_starts_in_payload, goal_has_payload_blocks}
use Rattle.dfu_host.proofs.task.Task.polled.Goals as goal

pub returns-in-DownloadIdle-2-clause-within : goal.returns-in-DownloadIdle-2-clause-within
returns-in-DownloadIdle-2-clause-within c =
    next_block_starts_in_payload
    (payload_of c.args.self.now.goal) c.args.self.now.transfer c.args.number c.args.self.now.transfers c.requires
    (ap (λ z. suc c.args.number == length z) (sym (goal_has_payload_blocks c.args.self.now.goal c.args.self.now.transfer))
    ∙ sym c.is_last.ensures.last
    ∙ c.if-is_last.false)
