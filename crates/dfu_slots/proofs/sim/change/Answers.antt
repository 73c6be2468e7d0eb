use Rattle.std.proofs.Common.{arith, refl, ◌∙◌, ap, length, take, ◌≡◌}
use Rattle.dfu_slots.specs.Medium.{written}
use Rattle.dfu_slots.specs.inside.Sim.{sim_state}
use Rattle.dfu_slots.proofs.Simulated.{ok_write_worked_or_lied}
use Rattle.dfu_slots.proofs.sim.change.Goals as goal

pub returns-in-Lying-2-clause-ok : goal.returns-in-Lying-2-clause-ok
returns-in-Lying-2-clause-ok c grain =
    let fuse = c.args.fuse.now in
    let bytes = c.args.bytes.now.items in
    let left : c.tear_front-in-Lying-2.new.bytes.items ≡ written bytes c.args.at (take (length c.args.new.now) fuse.tear.items) =
    c.tear_front-in-Lying-2.ensures
    ∙ ap (λ t. written bytes c.args.at (take (length c.args.new.now) t)) c.as_slice-in-Lying-2.ensures.value in
    ok_write_worked_or_lied (sim_state bytes fuse grain) c.args.at c.args.new.now c.tear_front-in-Lying-2.new.bytes.items
    c.saturating_add-fuse-in-Lying-2.result fuse.mode fuse.writes fuse.tear.items fuse.stop refl c.in-Lying.is (omega arith)
    c.requires left (omega arith)
