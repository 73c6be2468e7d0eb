use Rattle.std.proofs.Common.{◌≡◌, ◌⊎◌, ℕ, ◌+◌, inl, inr, true, length, arith, ap, sym, ◌∙◌, subst}
use Rattle.dfu_device.specs.declared.device_state.DeviceState.TheVariants as device_state
use Rattle.dfu_device.specs.Parts.{is_put}
use Rattle.dfu_device.proofs.Commits.{block_room, written_mode_is_device_part}
use Rattle.dfu_device.proofs.device_core.DeviceCore.write_block.Goals as goal
use Rattle.dfu_device.proofs.device_core.DeviceCore.write_block.Goals.{then-late, else-late}

pub invariant_of-self : goal.invariant_of-self
invariant_of-self g c =
    let d = c.args.self.now in
    let s = c.put_block.new.slots in
    let size = ap length c.as_slice-in-Ok.ensures.value in
    let n = c.args.written + length c.as_slice-in-Ok.result.now in
    let found = block_room c.args.written (length d.block.items) c.args.number d.slots c.requires in
    let either : (c.if-late.self ≡ device_state.DownloadSyncWritten n c.args.number)
    ⊎ (c.if-late.self ≡ device_state.DownloadIdle n c.args.number) =
    elim c.if-late.branch [ then-late w ↦ inl w.self-is | else-late w ↦ inr w.self-is ] in
    record {
      sound = written_mode_is_device_part c.if-late.self (length d.block.items) n c.args.number s either (omega (arith, found.some, size))
          (omega (arith, found.room, size, c.in-Ok.ensures.room)) c.in-Ok.ensures.shape
          (subst (λ (k : ℕ). is_put (c.args.written + k) s ≡ true) (ap length c.as_slice.ensures.value ∙ sym size) c.in-Ok.ensures.put);
    }
