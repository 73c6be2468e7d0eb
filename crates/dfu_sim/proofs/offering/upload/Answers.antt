use Rattle.std.proofs.Common.{sym, ◌∙◌, refl}
use Rattle.dfu_sim.specs.Happening.{Uploads}
use Rattle.dfu_sim.proofs.Events.{event_in_session_is_refused}
use Rattle.dfu_sim.proofs.Uploads.{faulty_upload_is_refused, upload_makes_session}
use Rattle.dfu_sim.proofs.offering.upload.Goals as goal

pub returns-then-is_some : goal.returns-then-is_some
returns-then-is_some g c = event_in_session_is_refused (Uploads c.args.limits) _ _ (λ k. tt) (sym c.is_some.ensures ∙ c.if-is_some.true)

pub returns-in-Ok : goal.returns-in-Ok
returns-in-Ok g c =
    upload_makes_session c.args.limits _ _ c.in-Ok.begun c.functional.result (sym c.is_some.ensures ∙ c.if-is_some.false) c.requires.unarmed
    c.functional.ensures c.in-Ok.ensures.refused c.in-Ok.ensures.started

pub returns-in-Err : goal.returns-in-Err
returns-in-Err g c =
    faulty_upload_is_refused c.args.limits _ _ c.functional.result c.in-Err.fault (sym c.is_some.ensures
    ∙ c.if-is_some.false) c.functional.ensures
    ((c.in-Err.ensures.refused c.in-Err.fault).0 refl)
