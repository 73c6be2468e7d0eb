use Rattle.dfu_sim.specs.Bytes.{unseen, once, again, late}
use Rattle.dfu_sim.proofs.acting.reach.Goals as goal

pub returns-in-Unseen : goal.returns-in-Unseen
returns-in-Unseen g c = rw c.in-Unseen.is unseen

pub returns-in-Once : goal.returns-in-Once
returns-in-Once g c = rw c.in-Once.is (once c.take_in.ensures)

pub returns-in-Again : goal.returns-in-Again
returns-in-Again g c = rw c.in-Again.is (again _ _ _ c.take_in-in-Again.ensures c.handle.ensures.row)

pub returns-in-Late : goal.returns-in-Late
returns-in-Late g c = rw c.in-Late.is (late _ c.take_in-answer.ensures c.elapse.ensures.row)
