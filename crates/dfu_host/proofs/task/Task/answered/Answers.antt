use Rattle.std.proofs.Common.{subst}
use Rattle.dfu_host.specs.InParts.{HasPhaseNeeds}
use Rattle.dfu_host.proofs.ImageParts.{part_answers_upload}
use Rattle.dfu_host.proofs.task.Task.answered.Goals as goal

pub returns-in-Find-clause-room : goal.returns-in-Find-clause-room
returns-in-Find-clause-room c = c.status_in.ensures.room c.args.self.now c.args.phase c.args.bytes.now

pub returns-in-Ask-clause-room : goal.returns-in-Ask-clause-room
returns-in-Ask-clause-room c = c.state_in.ensures.room c.args.self.now c.args.phase c.args.bytes.now

pub returns-in-Fetch-clause-hears : goal.returns-in-Fetch-clause-hears
returns-in-Fetch-clause-hears c = λ memory.
    rw c.in-Fetch.is (part_answers_upload c.args.self.now c.in-Fetch.number c.args.bytes.now c.received.result
    (subst (HasPhaseNeeds c.args.self.now.goal c.args.self.now.transfer) c.in-Fetch.is c.requires).1
    c.received.ensures.heard c.received.ensures.room)
