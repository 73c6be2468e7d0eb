use Rattle.std.proofs.Common.{length, arith}
use Rattle.dfu_boot.proofs.WholeStarts.{sectors_are_whole_parts, part_of_place_ends_by_edge}
use Rattle.dfu_boot.proofs.NextDifference.{next_byte_in_image}
use Rattle.dfu_boot.proofs.install.deciding.mend.Goals as goal

pub may_program-requires-clause-inside : goal.may_program-requires-clause-inside
may_program-requires-clause-inside c =
    let area = c.requires.ready.area in
    part_of_place_ends_by_edge 256 c.args.at (length c.args.run.now)
    (sectors_are_whole_parts 256 c.args.sector (length c.args.run.now) area.pieces
    area.whole)
    (omega (arith, c.requires.ready.fits, next_byte_in_image c.args.image.now c.args.run.now c.args.last c.args.at c.requires.next))
