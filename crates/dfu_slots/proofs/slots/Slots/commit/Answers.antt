use Rattle.dfu_slots.specs.StoreView.{SlotsState, store_of}
use Rattle.dfu_slots.proofs.AfterCommit.{commit_result_holds}
use Rattle.dfu_slots.proofs.slots.Slots.commit.Goals as goal

pub invariant_of-self : goal.invariant_of-self
invariant_of-self g c =
    let done = c.commit-done in
    let now : SlotsState = store_of (g.M.Medium.state done.new.medium) done.new.puts.held.items done.new.puts.end in
    record {
      store = (commit_result_holds c.self.view_is c.self.invariant.store now c.args.len c.requires done.result done.ensures.not_begun
          done.ensures.not_too_large done.ensures.changes).common.store;
      active_there = c.look-self-inside.ensures.active;
      spare_there = c.look-self-inside.ensures.spare;
    }

pub look-self-inside-requires : goal.look-self-inside-requires
look-self-inside-requires g c =
    let done = c.commit-done in
    let now : SlotsState = store_of (g.M.Medium.state done.new.medium) done.new.puts.held.items done.new.puts.end in
    (commit_result_holds c.self.view_is c.self.invariant.store now c.args.len c.requires done.result done.ensures.not_begun
    done.ensures.not_too_large done.ensures.changes).common.store.has_image.active.sized

pub returns : goal.returns
returns g c =
    let done = c.commit-done in
    let now : SlotsState = store_of (g.M.Medium.state done.new.medium) done.new.puts.held.items done.new.puts.end in
    commit_result_holds c.self.view_is c.self.invariant.store now c.args.len c.requires done.result done.ensures.not_begun
    done.ensures.not_too_large done.ensures.changes
