use Rattle.std.proofs.Common.{refl}
use Rattle.dfu_sim.proofs.Events.{faulty_offer_is_bad, faultless_offer_opens_session}
use Rattle.dfu_sim.proofs.offering.begin.Goals as goal

pub returns-in-Err-clause-err : goal.returns-in-Err-clause-err
returns-in-Err-clause-err c = λ s functional ids. (c.in-Err.ensures.fault c.in-Err.fault).0 refl

pub returns-in-Ok-open-clause-ok : goal.returns-in-Ok-open-clause-ok
returns-in-Ok-open-clause-ok c = λ s functional ids.
    faultless_offer_opens_session s c.args.purpose c.args.file.now c.args.limits c.in-Ok.file c.args.functional.now c.args.ids
    c.in-Ok-open.host
    functional ids c.in-Ok.ensures.found c.in-Ok-open.ensures.refused c.in-Ok-open.ensures.started

pub returns-in-Err-open-clause-err : goal.returns-in-Err-open-clause-err
returns-in-Err-open-clause-err c = λ s functional ids.
    faulty_offer_is_bad s c.args.purpose c.args.file.now c.in-Ok.file c.args.functional.now c.args.ids c.in-Err-open.fault
    functional ids c.in-Ok.ensures.found ((c.in-Err-open.ensures.refused c.in-Err-open.fault).0 refl)
