use Rattle.std.proofs.Common.{◌≡◌, List, ℕ, subst, refl}
use Rattle.dfu_link.specs.Falls.{refused}
use Rattle.dfu_link.specs.inside.Forming.{FormattedStore}
use Rattle.dfu_link.specs.inside.SetupView.{setup_grain, image_bytes}
use Rattle.dfu_link.proofs.scripting.starting.start_device.Goals as goal

pub returns-in_default-clause-fault : goal.returns-in_default-clause-fault
returns-in_default-clause-fault c = refused c.in_default.field-0 c.in_default.ensures.err

pub returns-clause-ok : goal.returns-clause-ok
returns-clause-ok c =
    let setup = c.args.setup.now in
    let w = setup_grain setup.unit setup.sector in
    let image : c.first_image.result.now ≡ image_bytes setup.image = c.first_image.ensures in
    let formed : FormattedStore w setup.room.bytes (image_bytes setup.image) c.in_ok-slots.slots = subst
    (λ (bytes : List ℕ). FormattedStore w setup.room.bytes bytes c.in_ok-slots.slots) image c.in_ok-slots.ensures.ok in
    rw c.start.ensures (record {
      config = c.in-Ok.ensures.ok;
      allowed = c.in-Ok.ensures.allowed;
      whole = formed.whole;
      fits = formed.fits;
      formatted = formed.formatted;
      active = formed.active;
      image = formed.image_is;
      stage = refl;
    })
