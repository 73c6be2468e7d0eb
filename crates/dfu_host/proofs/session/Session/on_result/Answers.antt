use Rattle.std.proofs.Common.{◌≡◌, sym, subst, arith}
use Rattle.dfu_host.specs.declared.parts.Parts.{Parts}
use Rattle.dfu_host.specs.Goals.{CarriesPayload}
use Rattle.dfu_host.specs.InParts.{host_of}
use Rattle.dfu_host.specs.UploadBuffer.{MemoryAfterSeen}
use Rattle.dfu_host.specs.TakeCall.{TakeResult}
use Rattle.dfu_host.specs.Host.{HostRow, after}
use Rattle.dfu_host.proofs.Budget.{row_uses_up_one_input, row_keeps_finished_host}
use Rattle.dfu_host.specs.Rooms.{FetchResultIn}
use Rattle.dfu_host.specs.Uploading.{FetchResult}
use Rattle.dfu_host.specs.inside.Refusing.{RefusesAnswerByRoom}
use Rattle.dfu_host.specs.inside.View.{meaning_of_heard, part_of, host_of_progress}
use Rattle.dfu_host.proofs.ImageParts.{part_is_taken_or_refused, no_room_needs_memory}
use Rattle.dfu_host.proofs.Rooms.{part_is_taken_by_room}
use Rattle.dfu_host.proofs.session.Session.on_result.Goals as goal

pub returns-clause-takes : goal.returns-clause-takes
returns-clause-takes c = λ memory memory' kept.
    let task = c.self.inside.task in
    let p = c.self.inside.progress in
    let before = host_of_progress memory task p in
    let now = host_of_progress memory' c.after-self-inside.new.task c.after-self-inside.result in
    let seen = c.args.seen in
    let part = part_of seen in
    let word = c.hear-heard.result in
    let stored : MemoryAfterSeen task.transfer p.phase seen c.args.refused memory memory' =
    subst (λ (z : Parts). MemoryAfterSeen z.transfer z.phase seen c.args.refused memory memory') (sym c.self.view_is) kept in
    let same : now ≡ after before (meaning_of_heard part word) =
    c.after-self-inside.ensures.state memory memory' part (c.hear-heard.ensures.keeps memory memory' stored)
    c.hear-heard.ensures.compares in
    let step : HostRow before seen now =
    record {
      heard = meaning_of_heard part word;
      hears = c.hear-heard.ensures.hears memory;
      room = no_room_needs_memory task p.phase part word memory c.hear-heard.ensures.room;
      same = same;
    } in
    let taken : FetchResult before before.phase seen now =
    part_is_taken_or_refused memory task p seen word now (c.hear-heard.ensures.hears memory) c.hear-heard.ensures.room same in
    subst (λ (z : Parts). TakeResult (host_of memory z) seen now) c.self.view_is (record {
      row = step;
      budget = omega (arith, row_uses_up_one_input before now seen step);
      over = row_keeps_finished_host before now seen step;
      part = taken;
    })

pub returns-clause-payload : goal.returns-clause-payload
returns-clause-payload c = λ payload carries. c.after-self-inside.ensures.payload payload
    (subst (λ (z : Parts). CarriesPayload payload z.goal) (sym c.self.view_is) carries)

pub returns-clause-room : goal.returns-clause-room
returns-clause-room c = λ memory memory' room kept full.
    let task = c.self.inside.task in
    let p = c.self.inside.progress in
    let seen = c.args.seen in
    let stored : MemoryAfterSeen task.transfer p.phase seen c.args.refused memory memory' =
    subst (λ (z : Parts). MemoryAfterSeen z.transfer z.phase seen c.args.refused memory memory') (sym c.self.view_is) kept in
    let refuses : RefusesAnswerByRoom room task.transfer p.phase memory seen c.args.refused =
    subst (λ (z : Parts). RefusesAnswerByRoom room z.transfer z.phase memory seen c.args.refused) (sym c.self.view_is) full in
    let now = host_of_progress memory' c.after-self-inside.new.task c.after-self-inside.result in
    let same : now ≡ after (host_of_progress memory task p) (meaning_of_heard (part_of seen) c.hear-heard.result) =
    c.after-self-inside.ensures.state memory memory' (part_of seen) (c.hear-heard.ensures.keeps memory memory' stored)
    c.hear-heard.ensures.compares in
    subst (λ (z : Parts). FetchResultIn room (host_of memory z) (host_of memory z).phase seen now) c.self.view_is
    (part_is_taken_by_room room memory task p seen c.args.refused c.hear-heard.result now
    (c.hear-heard.ensures.by memory memory' stored) refuses same)
