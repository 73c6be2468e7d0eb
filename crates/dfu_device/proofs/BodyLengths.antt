-- Lemmas about the length of a body, compared with the length that its request states.
use Rattle.std.proofs.Common.{◌≡◌, ◌==◌, true, ℕ, List, length, if◌then◌else◌, sym, ◌∙◌}
use Rattle.std.proofs.lemmas.Bool.{eqb-true}
use Rattle.dfu_wire.specs.declared.setups.Setup.{Setup}
use Rattle.dfu_wire.specs.declared.requests.Request.{Request as Asked}
use Rattle.dfu_wire.specs.declared.requests.Request.TheVariants as asked
use Rattle.dfu_wire.specs.Request.{SetupAsksFor}
use Rattle.dfu_device.specs.Decision.{HasBodyLength}
use Rattle.dfu_device.specs.Rows.{is_served, body_length}

-- If a body has the length that its setup packet requires, it has the length that the request states.
pub body_length_fits_request : (p : Setup) (q : Asked) (body : List ℕ) → SetupAsksFor p q → length body ≡ body_length p →
    HasBodyLength q body
body_length_fits_request p (asked.Dnload block len) body asks fits =
    fits ∙ (λ i. if asks.0.kind i == 0x21 then p.length else 0) ∙ sym asks.2
body_length_fits_request p q body asks fits = tt

-- If a request has a row in the table, the body has the length that the request states.
pub served_body_length_fits : (p : Setup) (q : Asked) (body : List ℕ) → SetupAsksFor p q → is_served p q body ≡ true → HasBodyLength q body
served_body_length_fits p (asked.Dnload block len) body asks on =
    body_length_fits_request p (asked.Dnload block len) body asks (eqb-true (length body) (body_length p) on)
served_body_length_fits p q body asks on = tt
