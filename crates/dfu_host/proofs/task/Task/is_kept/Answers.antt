use Rattle.std.proofs.Common.{◌≡◌, suc, ◌+◌, ◌==◌, nat_lt, true, false, refl, arith}
use Rattle.std.proofs.lemmas.Bool.{lt-ltb, le-ltb, eq-eqb, ne_eqb}
use Rattle.dfu_host.proofs.task.Task.is_kept.Goals as goal

pub returns-then-len-transfer : goal.returns-then-len-transfer
returns-then-len-transfer c =
    let short : nat_lt c.args.len c.args.self.now.transfer ≡ true = lt-ltb _ _ c.if-len-transfer.true in
    rw short refl

pub returns-then-len-transfer-2 : goal.returns-then-len-transfer-2
returns-then-len-transfer-2 c =
    let long : nat_lt c.args.len c.args.self.now.transfer ≡ false = le-ltb _ _ c.if-len-transfer.false in
    let full : (c.args.len == c.args.self.now.transfer) ≡ true = eq-eqb _ _ c.if-len-transfer-2.true in
    let next : c.args.number + 1 ≡ suc c.args.number = omega arith in
    rw (long, full, next) refl

pub returns-else-len-transfer-2 : goal.returns-else-len-transfer-2
returns-else-len-transfer-2 c =
    let long : nat_lt c.args.len c.args.self.now.transfer ≡ false = le-ltb _ _ c.if-len-transfer.false in
    let other : (c.args.len == c.args.self.now.transfer) ≡ false = ne_eqb _ _ c.if-len-transfer-2.false in
    rw (long, other) refl
