use Rattle.std.proofs.Common.{ℕ, ◌≡◌, length, subst, arith}
use Rattle.dfu_slots.specs.Medium.{IsWritableAhead}
use Rattle.dfu_slots.specs.Operations.{held_from}
use Rattle.dfu_slots.specs.StoreView.{store_of, held_data_place, data_place}
use Rattle.dfu_slots.proofs.steps.put.Goals as goal

pub put_units-requires-clause-ahead : goal.put_units-requires-clause-ahead
put_units-requires-clause-ahead g c =
    let m = g.M.Medium.state c.args.medium.now in
    let held = c.args.puts.now.held.items in
    let s = store_of m held c.args.puts.now.end in
    let here : data_place s (held_data_place s) ≡ held_from m.grain c.args.places.spare c.args.at (length held) =
    omega (arith, c.requires.spare, c.requires.place) in
    subst (λ (p : ℕ). IsWritableAhead m p) here c.requires.puts.ahead
