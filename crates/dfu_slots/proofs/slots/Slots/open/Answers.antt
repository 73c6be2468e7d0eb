use Rattle.dfu_slots.proofs.Refused.{faulty_medium_has_no_image}
use Rattle.dfu_slots.proofs.VisibleStores.{medium_makes_fresh_store}
use Rattle.dfu_slots.proofs.slots.Slots.open.Goals as goal

pub invariant_of-result : goal.invariant_of-result
invariant_of-result g c =
    record {
      store = (medium_makes_fresh_store c.in-Ok.ensures.ok c.nothing.ensures.held c.nothing.ensures.end).store;
      active_there = c.in-Ok.ensures.active;
      spare_there = c.in-Ok.ensures.spare;
    }

pub returns-in-Ok-clause-active : goal.returns-in-Ok-clause-active
returns-in-Ok-clause-active g c = (medium_makes_fresh_store c.in-Ok.ensures.ok c.nothing.ensures.held c.nothing.ensures.end).active

pub returns-in-Ok-clause-shape : goal.returns-in-Ok-clause-shape
returns-in-Ok-clause-shape g c = (medium_makes_fresh_store c.in-Ok.ensures.ok c.nothing.ensures.held c.nothing.ensures.end).shape

pub returns-in-Ok-clause-fresh : goal.returns-in-Ok-clause-fresh
returns-in-Ok-clause-fresh g c = (medium_makes_fresh_store c.in-Ok.ensures.ok c.nothing.ensures.held c.nothing.ensures.end).fresh

pub returns-in-Err-clause-opens : goal.returns-in-Err-clause-opens
returns-in-Err-clause-opens g c = (
  λ ok. absurd (cc),
  λ has. absurd (faulty_medium_has_no_image c.in-Err.fault (g.M.Medium.state c.args.medium) c.in-Err.ensures.fault
      has),
)

pub returns-in-Err-clause-refused : goal.returns-in-Err-clause-refused
returns-in-Err-clause-refused g c = faulty_medium_has_no_image c.in-Err.fault (g.M.Medium.state c.args.medium) c.in-Err.ensures.fault
