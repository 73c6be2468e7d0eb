use Rattle.std.proofs.Common.{◌≡◌, List, take, map, subst, arith}
use Rattle.std.proofs.lemmas.List.Sorted.{IsPermutation-map}
use Rattle.std.specs.List.Sorted.{IsPermutation}
use Rattle.dfu_formats.specs.images.Elements.{Piece}
use Rattle.dfu_formats.specs.dfuse.Found.{piece_of}
use Rattle.dfu_formats.proofs.dfuse.file.File.image.Goals as goal

pub returns-clause-image : goal.returns-clause-image
returns-clause-image c =
    let listed = c.in-Ok.ensures.listed in record {
      number = omega (arith, listed.0);
      within = omega (arith, listed.1, c.sort.ensures.size);
      same = subst (λ (xs : List Piece). IsPermutation xs (map piece_of (take c.in-Ok.count c.sort.new.room))) listed.2
          (IsPermutation-map piece_of (take c.in-Ok.count c.listed.new.room) (take c.in-Ok.count c.sort.new.room) c.sort.ensures.permutation);
      sorted = c.sort.ensures.sorted;
    }
