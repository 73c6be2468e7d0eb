use Rattle.std.proofs.Common.{◌≡◌, ◌-◌, ◌*◌, ◌≤◌, length}
use Rattle.dfu_formats.specs.images.Reading.{parts_read}
use Rattle.dfu_formats.specs.images.Elements.{empty_gathering}
use Rattle.dfu_formats.proofs.images.parts.parts_read.Given as goal

abbrev pub invariant-loop-index : goal.invariant-loop-index
invariant-loop-index g l = record {
  within : l.index ≤ l.total;
  left : (l.total - l.index) * l.size ≤ length l.rest;
  so_far : parts_read l.size (g.F.ByPart.part_read l.file) (l.total - l.index) l.index l.gathering l.rest
      ≡ parts_read l.size (g.F.ByPart.part_read l.file) l.total 0 empty_gathering l.parts;
}

abbrev pub decreases-loop-index : goal.decreases-loop-index
decreases-loop-index g l = l.total - l.index
