use Rattle.std.proofs.Common.{ap, ◌∙◌}
use Rattle.dfu_slots.specs.StoreView.{image_of}
use Rattle.dfu_slots.proofs.Refused.{faulty_medium_has_no_image}
use Rattle.dfu_slots.proofs.VisibleStores.{medium_makes_fresh_store, reopening_keeps_image}
use Rattle.dfu_slots.proofs.slots.Slots.reopen.Goals as goal

pub unreachable-requires : goal.unreachable-requires
unreachable-requires g c =
    faulty_medium_has_no_image c.in-Err.field-0 (g.M.Medium.state c.self.inside.medium) c.in-Err.ensures.fault
    c.self.invariant.store.has_image

pub invariant_of-self : goal.invariant_of-self
invariant_of-self g c =
    record {
      store = (medium_makes_fresh_store c.self.invariant.store.has_image c.clear.ensures.held c.clear.ensures.end).store;
      active_there = c.in-Ok.ensures.active;
      spare_there = c.in-Ok.ensures.spare;
    }

pub returns-clause-store : goal.returns-clause-store
returns-clause-store g c = rw (← c.self.view_is)
    (medium_makes_fresh_store c.self.invariant.store.has_image c.clear.ensures.held c.clear.ensures.end).fresh

pub returns-clause-image : goal.returns-clause-image
returns-clause-image g c = rw (← c.self.view_is)
    (ap image_of (medium_makes_fresh_store c.self.invariant.store.has_image c.clear.ensures.held c.clear.ensures.end).fresh
    ∙ reopening_keeps_image _)

pub returns-clause-shape : goal.returns-clause-shape
returns-clause-shape g c = (medium_makes_fresh_store c.self.invariant.store.has_image c.clear.ensures.held c.clear.ensures.end).shape
