use Rattle.std.proofs.Common.{◌≡◌, ◌≤◌, refl}
use Rattle.std.proofs.Math.Bridge.{le_prop}
use Rattle.dfu_asks.specs.declared.asking.Asking.{Asking}
use Rattle.dfu_asks.specs.Lent.{lent}
use Rattle.dfu_asks.proofs.asking.Asking.too_long.Goals as goal

pub returns-in-Some-clause-row : goal.returns-in-Some-clause-row
returns-in-Some-clause-row c block held flash is so body body_is =
    let l = lent c.args.self.now block held in
    (c.in-Some.ensures.row l flash (record { config_is = refl; mode_is = refl; device = is })).1 body body_is

pub returns-in-Some-clause-is_device : goal.returns-in-Some-clause-is_device
returns-in-Some-clause-is_device c block held flash is =
    (c.in-Some.ensures.row (lent c.args.self.now block held) flash (record { config_is = refl; mode_is = refl; device = is })).0

-- Two devices with equal fields are equal, whichever proofs of the two length bounds they contain.
length_facts_are_unique : (a : Asking) (short : a.block_len ≤ 4096) (few : a.held_len ≤ 256) → record a { short = short; few = few } ≡ a
length_facts_are_unique a short few = λ i. record a { short = le_prop short a.short i; few = le_prop few a.few i }

pub returns-in-None-clause-other : goal.returns-in-None-clause-other
returns-in-None-clause-other c so = length_facts_are_unique c.args.self.now _ _
