use Rattle.std.proofs.Common.{rules}
use Rattle.std.proofs.lemmas.List.Sorted.{IsNonDecreasingBy-from_sort_by_key}
use Rattle.std.proofs.Common.{arith}
use Rattle.dfu_formats.specs.declared.dfuse.element.Element.{Element}
use Rattle.dfu_formats.proofs.ImageLaws.{sorted_elements_ascend}
use Rattle.dfu_formats.proofs.dfuse.image.sort_all.Goals as goal

pub returns-clause-sorted : goal.returns-clause-sorted
returns-clause-sorted c =
    sorted_elements_ascend 0 _ (IsNonDecreasingBy-from_sort_by_key (λ (e : Element). e.address) _ c.sort_unstable_by_key.ensures.sorted (λ
    a r q k. search rules))
    (λ d h. omega arith)
