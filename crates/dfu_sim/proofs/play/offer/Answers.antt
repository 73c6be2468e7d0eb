use Rattle.std.proofs.Common.{refl, sym, ◌∙◌}
use Rattle.dfu_sim.specs.declared.fault.LinkFault.TheVariants.{BadOffer}
use Rattle.dfu_sim.specs.Happening.{Offers}
use Rattle.dfu_sim.proofs.Events.{event_in_session_is_refused, sessionless_event_is_refused, offer_makes_session}
use Rattle.dfu_sim.proofs.play.offer.Goals as goal

pub returns-then-is_some : goal.returns-then-is_some
returns-then-is_some g c = event_in_session_is_refused (Offers c.args.purpose c.args.file.now c.args.limits) _ _ (λ k. tt)
    (sym c.is_some.ensures ∙ c.if-is_some.true)

pub returns-in-Ok : goal.returns-in-Ok
returns-in-Ok g c = offer_makes_session _ _ _ _ _ _ (sym c.is_some.ensures ∙ c.if-is_some.false) c.requires.unarmed
    (c.in-Ok.ensures.ok c.args.device.now.config c.functional.ensures c.ids.ensures)

pub returns-in-Err : goal.returns-in-Err
returns-in-Err g c = sessionless_event_is_refused (Offers c.args.purpose c.args.file.now c.args.limits) (BadOffer c.in-Err.fault) _ _
    (sym c.is_some.ensures ∙ c.if-is_some.false) (refl, c.in-Err.ensures.err c.args.device.now.config c.functional.ensures c.ids.ensures)
