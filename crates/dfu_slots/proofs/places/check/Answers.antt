use Rattle.std.proofs.Common.{sym, ◌∙◌, arith}
use Rattle.dfu_slots.specs.Layout.{slot_size}
use Rattle.dfu_slots.specs.Image.{gate_of, slot_of}
use Rattle.dfu_slots.proofs.Counting.{neither_slot_counts, one_slot_counts}
use Rattle.dfu_slots.proofs.Stands.{sized_medium_has_two_slots}
use Rattle.dfu_slots.proofs.Newest.{tested_slot_is_newest, active_place_ends_within}
use Rattle.dfu_slots.proofs.Opening.{found_places_have_two_counting, tested_places_have_image, found_places_have_bad_header}
use Rattle.dfu_slots.proofs.places.check.Goals as goal

pub returns-then-is_none-clause-fault : goal.returns-then-is_none-clause-fault
returns-then-is_none-clause-fault g c =
    let m = g.M.Medium.state c.args.medium.now in
    let counted = c.count_slots-counted in
    let none = neither_slot_counts (slot_of m 0) (slot_of m (slot_size m.bytes)) counted.result.first counted.result.second
    counted.ensures.first counted.ensures.second (sym c.is_none.ensures ∙ c.if-is_none.true) in
    (c.is_sized.ensures.0 c.if-not-is_sized.false, none.0, none.1)

pub returns-then-not-has_newest-clause-fault : goal.returns-then-not-has_newest-clause-fault
returns-then-not-has_newest-clause-fault g c =
    let m = g.M.Medium.state c.args.medium.now in
    let counted = c.count_slots-counted in
    let both = found_places_have_two_counting m c.find_places-places.ensures.active c.find_places-places.ensures.spare
    (sym c.has_newest.ensures ∙ c.if-not-has_newest.true) (one_slot_counts (slot_of m 0) (slot_of m (slot_size m.bytes))
    counted.result.first counted.result.second counted.ensures.first counted.ensures.second (sym c.is_none.ensures ∙ c.if-is_none.false)) in
    (c.is_sized.ensures.0 c.if-not-is_sized.false, both.0, both.1, both.2)

pub returns-in-Some-clause-ok : goal.returns-in-Some-clause-ok
returns-in-Some-clause-ok g c =
    tested_places_have_image (g.M.Medium.state c.args.medium.now) c.find_places-places.ensures.active c.find_places-places.ensures.spare
    c.in-Some.field-0 (c.is_sized.ensures.0 c.if-not-is_sized.false) (sym c.has_newest.ensures ∙ c.if-not-has_newest.false)
    c.in-Some.ensures.some

pub returns-in-None-clause-fault : goal.returns-in-None-clause-fault
returns-in-None-clause-fault g c = (
  c.is_sized.ensures.0 c.if-not-is_sized.false,
  found_places_have_bad_header (g.M.Medium.state c.args.medium.now) c.find_places-places.ensures.active c.find_places-places.ensures.spare
      (sym c.has_newest.ensures ∙ c.if-not-has_newest.false) c.in-None.ensures.none,
)

pub header_len-requires-clause-counts : goal.header_len-requires-clause-counts
header_len-requires-clause-counts g c =
    let m = g.M.Medium.state c.args.medium.now in
    let found = c.find_places-places in
    (tested_slot_is_newest (slot_of m found.result.active) (slot_of m found.result.spare)
    (sym c.has_newest.ensures ∙ c.if-not-has_newest.false)).counts

pub header_len-requires-clause-within : goal.header_len-requires-clause-within
header_len-requires-clause-within g c =
    let m = g.M.Medium.state c.args.medium.now in
    omega (
      arith,
      c.find_places-places.ensures.active,
      active_place_ends_within (gate_of m) m.bytes (sized_medium_has_two_slots m (c.is_sized.ensures.0 c.if-not-is_sized.false)),
    )
