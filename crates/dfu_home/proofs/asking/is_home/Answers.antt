use Rattle.std.proofs.Common.{arith}
use Rattle.dfu_home.proofs.SecondSlotImage.{test_finds_second_slot}
use Rattle.dfu_home.proofs.asking.is_home.Goals as goal

pub returns-else-places-eq0-clause-away : goal.returns-else-places-eq0-clause-away
returns-else-places-eq0-clause-away g c =
    λ _. test_finds_second_slot (g.M.Medium.state c.args.medium.now) c.in-Ok.places.active c.in-Ok.ensures.ok
    c.in-Ok.ensures.active (λ zero. omega (arith, c.if-places-eq0.false, zero))
