use Rattle.dfu_slots.specs.StoreView.{spare_of}
use Rattle.std.proofs.Common.{◌++◌, [], take}
use Rattle.dfu_device.specs.Decision.{written_stage}
use Rattle.dfu_device.specs.Parts.{stage_of}
use Rattle.dfu_device.specs.inside.View.{view_of_core}
use Rattle.dfu_device.proofs.PlanRows.{block_write_carries_out_plan, commit_carried_out}
use Rattle.dfu_device.proofs.device_core.DeviceCore.carry_out.Goals as goal

pub returns-in-Writes-clause-row : goal.returns-in-Writes-clause-row
returns-in-Writes-clause-row g c =
    let d = c.args.self.now in
    let before = take c.in-Writes.written (spare_of d.slots) in
    let block = d.block.items in
    rw (c.in-Writes.is, c.pending_answer_of-in-Writes.ensures)
    (block_write_carries_out_plan (view_of_core d) (view_of_core c.write_block.new.self) before block
    (written_stage c.in-Writes.late (before ++ block) c.in-Writes.number) c.in-Writes.reply c.args.asked c.write_block.result
    c.write_block.ensures.done c.write_block.ensures.failed)

pub returns-in-Commits-clause-row : goal.returns-in-Commits-clause-row
returns-in-Commits-clause-row g c =
    let d = c.args.self.now in
    rw (c.in-Commits.is, c.pending_answer_of-in-Commits.ensures) (commit_carried_out (view_of_core d) (view_of_core c.commit_taken.new.self)
    (take c.in-Commits.written (spare_of d.slots)) (stage_of c.in-Commits.mode [] []) c.in-Commits.reply c.args.asked c.commit_taken.result
    c.commit_taken.ensures.done c.commit_taken.ensures.failed)
