use Rattle.std.proofs.Common.{refl}
use Rattle.dfu_asks.specs.Lent.{lent}
use Rattle.dfu_asks.proofs.asking.Asking.closes.Goals as goal

pub returns-clause-told : goal.returns-clause-told
returns-clause-told c block held flash is =
    c.mode_closes.ensures (lent c.args.self.now block held) flash (record { config_is = refl; mode_is = refl; device = is })
