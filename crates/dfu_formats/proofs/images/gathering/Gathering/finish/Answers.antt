use Rattle.std.proofs.Common.{sym, ◌∙◌, subst}
use Rattle.dfu_formats.specs.images.Elements.{AreApart}
use Rattle.dfu_formats.proofs.PlaceLaws.{no_shared_address_means_apart}
use Rattle.dfu_formats.proofs.images.gathering.Gathering.finish.Goals as goal

pub returns-in-None-clause-apart : goal.returns-in-None-clause-apart
returns-in-None-clause-apart c =
    subst (AreApart 0) c.deref.ensures.value (no_shared_address_means_apart 0 c.deref.result.now (sym c.shared.ensures ∙ c.in-None.is))
