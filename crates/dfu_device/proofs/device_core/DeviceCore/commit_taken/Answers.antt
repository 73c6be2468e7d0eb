use Rattle.std.proofs.Common.{length}
use Rattle.dfu_slots.specs.Changes.{fault_of}
use Rattle.dfu_device.proofs.Commits.{device_store_is_shaped, synced_store_is_ready_to_commit, empty_mode_is_device_part, worked_commit_fits_table, commit_fault_fits_table}
use Rattle.dfu_device.proofs.device_core.DeviceCore.commit_taken.Goals as goal

pub returns-in-Ok-clause-done : goal.returns-in-Ok-clause-done
returns-in-Ok-clause-done g c =
    let d = c.args.self.now in
    let r = synced_store_is_ready_to_commit (length d.block.items) c.args.written d.slots
    (device_store_is_shaped d.mode (length d.block.items) d.slots d.sound) c.requires.taken in
    worked_commit_fits_table d.config d.slots c.commit.new.self c.args.next d.block.items c.args.written r
    (c.in-Ok.ensures.common.call r.begun r.room) c.in-Ok.ensures.image c.in-Ok.ensures.common.room c.requires.next

pub returns-in-Err-clause-failed : goal.returns-in-Err-clause-failed
returns-in-Err-clause-failed g c =
    let d = c.args.self.now in
    let r = synced_store_is_ready_to_commit (length d.block.items) c.args.written d.slots
    (device_store_is_shaped d.mode (length d.block.items) d.slots d.sound) c.requires.taken in
    rw c.commit_code.ensures (rw c.write_fault-fault.ensures (commit_fault_fits_table (fault_of c.in-Err.fault) d.config d.slots
    c.commit.new.self d.block.items c.args.written r (c.in-Err.ensures.common.call r.begun r.room) c.in-Err.ensures.kept
    c.in-Err.ensures.common.room))

pub invariant_of-self : goal.invariant_of-self
invariant_of-self g c =
    record {
      sound = empty_mode_is_device_part c.args.next (length c.args.self.now.block.items) c.commit.new.self c.requires.next
          c.in-Ok.ensures.common.shape;
    }
