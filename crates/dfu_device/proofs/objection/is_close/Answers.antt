use Rattle.std.proofs.Common.{◌≡◌, true, sym, subst, ◌∙◌}
use Rattle.dfu_wire.specs.declared.setups.Setup.{Setup}
use Rattle.dfu_wire.specs.declared.requests.Request.{Request as Asked}
use Rattle.dfu_wire.specs.Request.{SetupAsksFor}
use Rattle.dfu_device.specs.Rows.{is_close}
use Rattle.dfu_device.proofs.objection.is_close.Goals as goal

-- The eight bytes of a setup packet encode exactly one request.
pub returns : goal.returns
returns c = (
  λ yes. (c.decode.result, c.request.result, c.decode.ensures.fields, c.request.ensures.asks, sym c.closes.ensures ∙ yes),
  λ (p, q, reads, asks, close). c.closes.ensures
      ∙ subst (λ (r : Asked). is_close r ≡ true) (sym (c.request.ensures.only q (subst (λ (s : Setup). SetupAsksFor s q)
      (sym (c.decode.ensures.only p reads)) asks))) close,
)
