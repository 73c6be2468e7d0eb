use Rattle.std.proofs.Common.{subst}
use Rattle.dfu_host.specs.Host.{HostState}
use Rattle.dfu_host.specs.InParts.{host_of}
use Rattle.dfu_host.specs.TakeCall.{TakeResult}
use Rattle.dfu_host.specs.inside.Memories.{bytes_of}
use Rattle.dfu_host.proofs.host.Host.take.Goals as goal

pub returns : goal.returns
returns c =
    let takes : TakeResult c.args.self.now c.args.seen (host_of (bytes_of c.refuses-refused.new.self) c.on_result.new.self) =
    subst (λ (z : HostState). TakeResult z c.args.seen (host_of (bytes_of c.refuses-refused.new.self) c.on_result.new.self)) c.self.view_is
    (c.on_result.ensures.takes (bytes_of c.self.inside.memory) (bytes_of c.refuses-refused.new.self) c.refuses-refused.ensures) in
    record { row = takes.row; budget = takes.budget; over = takes.over; part = takes.part }
