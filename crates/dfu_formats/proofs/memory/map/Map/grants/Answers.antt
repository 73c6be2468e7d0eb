use Rattle.std.proofs.Common.{◌≡◌, ◌↔◌, List, ap, ◌∙◌, subst, IsTrue}
use Rattle.dfu_formats.specs.declared.memory.pages.Pages.{Pages}
use Rattle.dfu_formats.specs.memory.Reading.{MapContent}
use Rattle.dfu_formats.specs.memory.Lookups.{AllGranted}
use Rattle.dfu_formats.proofs.memory.map.Map.grants.Goals as goal

pub returns : goal.returns
returns c =
    let same : c.deref.result.now ≡ c.args.self.now.ranges = c.deref.ensures.0 ∙ ap (λ (m : MapContent). m.ranges) c.self.view_is in
    subst (λ (ranges : List Pages). IsTrue c.all_granted.result ↔ AllGranted c.args.wanted c.args.start c.args.end ranges) same c.all_granted.ensures
