use Rattle.std.proofs.Common.{refl}
use Rattle.dfu_asks.specs.Lent.{lent}
use Rattle.dfu_asks.proofs.asking.Asking.would_stall.Goals as goal

pub returns-clause-told : goal.returns-clause-told
returns-clause-told c block held flash is size =
    c.mode_stalls.ensures (lent c.args.self.now block held) flash (record { config_is = refl; mode_is = refl; device = is }) refl size
