use Rattle.dfu_suffix.proofs.Tables.{register_after_next_byte, register_after_no_bytes}
use Rattle.dfu_suffix.proofs.small.after_bytes.Goals as goal

pub loop-byte-init : goal.loop-byte-init
loop-byte-init c = register_after_no_bytes c.args.start

pub loop-byte-preserved : goal.loop-byte-preserved
loop-byte-preserved c = register_after_next_byte c.args.start c.loop-byte.register _ c.args.bytes.now c.loop-byte.byte-index
    c.loop-byte-test.true
    c.loop-byte.invariant c.after_byte-register.ensures
