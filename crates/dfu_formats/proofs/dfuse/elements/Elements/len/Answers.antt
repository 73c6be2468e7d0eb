use Rattle.std.proofs.Common.{length, sym, ap, ◌∙◌}
use Rattle.dfu_formats.proofs.WalkLaws.{found_elements_are_counted}
use Rattle.dfu_formats.proofs.dfuse.elements.Elements.len.Goals as goal

pub returns : goal.returns
returns c = sym (ap length (sym c.self.view_is) ∙ found_elements_are_counted c.self.inside.left c.self.inside.rest.now _ c.self.invariant)
