use Rattle.std.proofs.Common.{◌≡◌, Bool, true, false, not, inl, inr, ap}
use Rattle.dfu_sim.proofs.acting.take_in.Goals as goal

not_both : (b : Bool) → b ≡ false → b ≡ true → ⊥
not_both b f t = absurd cc

pub returns-in-None : goal.returns-in-None
returns-in-None g c = rw c.in-None.is c.handle.ensures.row

pub returns-then-refuse_close : goal.returns-then-refuse_close
returns-then-refuse_close g c =
    rw c.in-Some.is (inl (rw c.clear.ensures (c.refuse_close.ensures.row c.if-refuse_close.true)))

pub returns-else-refuse_close : goal.returns-else-refuse_close
returns-else-refuse_close g c =
    rw c.in-Some.is (inr (
      (λ closes. not_both c.refuse_close.result c.if-refuse_close.false (c.refuse_close.ensures.closes.1 closes)),
      rw (c.refuse_close.ensures.unchanged (ap not c.if-refuse_close.false)) at c.handle-in-Some.ensures.row,
    ))
