use Rattle.std.proofs.Common.{refl}
use Rattle.dfu_slots.specs.StoreView.{format_series, store_of}
use Rattle.dfu_slots.specs.Changes.{CanFormat}
use Rattle.dfu_slots.proofs.Formatting.{StoreAfterFormat, tested_can_be_formatted, format_leaves_its_store}
use Rattle.dfu_slots.proofs.Series.{broken_writes_raise_count}
use Rattle.dfu_slots.proofs.slots.Slots.format.Given as given
use Rattle.dfu_slots.proofs.slots.Slots.format.Goals.{Else-image-from, After-nothing}
use Rattle.dfu_slots.proofs.slots.Slots.format.Goals as goal

can : (g : given.Over) (c : goal.Else-image-from g) → CanFormat (g.M.Medium.state c.args.medium) c.args.image.now
can g c = tested_can_be_formatted c.args.image.now (c.is_sized.ensures.0 c.if-not-is_sized.false) c.if-image-from.false c.from.ensures
    c.capacity_of.ensures

-- After the format the store shows the image, and no bytes were put yet.
left : (g : given.Over) (c : goal.After-nothing g) → StoreAfterFormat
    (store_of (g.M.Medium.state c.write_image.new.medium) c.nothing.result.held.items c.nothing.result.end) c.args.image.now
left g c = format_leaves_its_store (g.M.Medium.state c.write_image.new.medium)
    (tested_can_be_formatted c.args.image.now (c.is_sized.ensures.0 c.if-not-is_sized.false) c.if-image-from.false c.from.ensures
    c.capacity_of.ensures)
    c.in-Ok.ensures c.nothing.ensures.held c.nothing.ensures.end

pub invariant_of-result : goal.invariant_of-result
invariant_of-result g c =
    record {
      store = (left g (goal.at.invariant_of-result g c).After-nothing).fresh.store;
      active_there = c.look-places.ensures.active;
      spare_there = c.look-places.ensures.spare;
    }

pub look-places-requires : goal.look-places-requires
look-places-requires g c = (format_leaves_its_store (g.M.Medium.state c.write_image.new.medium)
    (can g (goal.at.look-places-requires g c).Else-image-from) c.in-Ok.ensures refl refl).active.sized

pub returns-in-Ok-clause-active : goal.returns-in-Ok-clause-active
returns-in-Ok-clause-active g c = (left g (goal.at.returns-in-Ok-clause-active g c).After-nothing).active

pub returns-in-Ok-clause-image : goal.returns-in-Ok-clause-image
returns-in-Ok-clause-image g c = (left g (goal.at.returns-in-Ok-clause-image g c).After-nothing).image_is

pub returns-in-Ok-clause-shape : goal.returns-in-Ok-clause-shape
returns-in-Ok-clause-shape g c = (left g (goal.at.returns-in-Ok-clause-shape g c).After-nothing).fresh.shape

pub returns-in-Ok-clause-fresh : goal.returns-in-Ok-clause-fresh
returns-in-Ok-clause-fresh g c = (left g (goal.at.returns-in-Ok-clause-fresh g c).After-nothing).fresh.fresh

pub returns-in-Err-clause-rose : goal.returns-in-Err-clause-rose
returns-in-Err-clause-rose g c is =
    broken_writes_raise_count c.in-Err.field-0 (format_series (g.M.Medium.state c.args.medium) c.args.image.now) (g.M.Medium.state
    c.args.medium)
    (g.M.Medium.state c.write_image.new.medium) c.in-Err.ensures

pub returns-in-Ok-clause-formats : goal.returns-in-Ok-clause-formats
returns-in-Ok-clause-formats g c = can g (goal.at.returns-in-Ok-clause-formats g c).Else-image-from

pub returns-in-Err-clause-fault : goal.returns-in-Err-clause-fault
returns-in-Err-clause-fault g c = can g (goal.at.returns-in-Err-clause-fault g c).Else-image-from
