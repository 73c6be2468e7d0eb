use Rattle.std.proofs.Common.{rules}
use Rattle.dfu_wire.specs.OneRequest.{setup_asks_for_one_request}
use Rattle.dfu_wire.specs.declared.requests.Request.TheVariants as request
use Rattle.dfu_wire.proofs.setups.Setup.request.Goals as goal

pub returns-in-33-eq0-clause-only : goal.returns-in-33-eq0-clause-only
returns-in-33-eq0-clause-only c q asks =
    let s = c.args.self.now in setup_asks_for_one_request s (request.Detach s.value) q (search rules) asks

pub returns-in-33-eq1-clause-only : goal.returns-in-33-eq1-clause-only
returns-in-33-eq1-clause-only c q asks =
    let s = c.args.self.now in setup_asks_for_one_request s (request.Dnload s.value s.length) q (search rules) asks

pub returns-in-33-eq4-clause-only : goal.returns-in-33-eq4-clause-only
returns-in-33-eq4-clause-only c q asks =
    setup_asks_for_one_request c.args.self.now request.ClrStatus q (search rules) asks

pub returns-in-33-eq6-clause-only : goal.returns-in-33-eq6-clause-only
returns-in-33-eq6-clause-only c q asks =
    setup_asks_for_one_request c.args.self.now request.Abort q (search rules) asks

pub returns-in-161-eq2-clause-only : goal.returns-in-161-eq2-clause-only
returns-in-161-eq2-clause-only c q asks =
    let s = c.args.self.now in setup_asks_for_one_request s (request.Upload s.value s.length) q (search rules) asks

pub returns-in-161-eq3-clause-only : goal.returns-in-161-eq3-clause-only
returns-in-161-eq3-clause-only c q asks =
    let s = c.args.self.now in setup_asks_for_one_request s (request.GetStatus s.length) q (search rules) asks

pub returns-in-161-eq5-clause-only : goal.returns-in-161-eq5-clause-only
returns-in-161-eq5-clause-only c q asks =
    let s = c.args.self.now in setup_asks_for_one_request s (request.GetState s.length) q (search rules) asks
