use Rattle.dfu_host.specs.Table.{deed}
use Rattle.dfu_sim.specs.inside.Acting.{delivery_of_given}
use Rattle.dfu_sim.proofs.ActionClauses.{row_request_is_delivered, send_action_delivered, wait_action_delivered, reset_action_delivered}
use Rattle.dfu_sim.proofs.acting.act.Goals as goal

pub returns-in-Send : goal.returns-in-Send
returns-in-Send g c =
    let h = c.args.host.now in
    let delivery = delivery_of_given c.args.delivery in
    record {
      heard = c.tell.ensures.heard;
      acts = send_action_delivered (deed h.task h.phase) delivery _ c.in-Send.body c.tell.ensures.heard c.come_back-back.result
          c.in-Send.ensures.act (row_request_is_delivered delivery c.reach-came.ensures c.come_back-back.ensures) c.as_slice.ensures.value
          c.tell.ensures.hears;
      room = c.tell.ensures.room;
      same = c.tell.ensures.same;
    }

pub returns-in-Wait : goal.returns-in-Wait
returns-in-Wait g c =
    let h = c.args.host.now in
    let row = c.take.ensures.row in
    record {
      heard = row.heard;
      acts = wait_action_delivered (deed h.task h.phase) (delivery_of_given c.args.delivery) c.in-Wait.ms c.args.device.now
          c.wait-seen.new.device row.heard
          c.in-Wait.ensures.act (c.wait-seen.ensures.hears _ _ row.hears);
      room = row.room;
      same = row.same;
    }

pub returns-in-Reset : goal.returns-in-Reset
returns-in-Reset g c =
    let h = c.args.host.now in
    let row = c.take-in-Reset.ensures.row in
    record {
      heard = row.heard;
      acts = reset_action_delivered (deed h.task h.phase) (delivery_of_given c.args.delivery) c.args.device.now c.reset_bus-seen.new.device
          row.heard
          c.in-Reset.ensures.act (c.reset_bus-seen.ensures.hears _ _ row.hears);
      room = row.room;
      same = row.same;
    }
