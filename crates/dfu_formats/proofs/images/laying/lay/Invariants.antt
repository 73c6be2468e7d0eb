use Rattle.std.proofs.Common.{◌≤◌, length, drop}
use Rattle.dfu_formats.specs.images.Laying.{laid_bytes, lowest_address}
use Rattle.dfu_formats.proofs.LayLaws.{LaidRestMakesWhole}
use Rattle.dfu_formats.proofs.images.laying.lay.Given as goal

abbrev pub invariant-loop-element : goal.invariant-loop-element
invariant-loop-element l = record {
  few : length l.bytes.items ≤ 16777216;
  on : LaidRestMakesWhole (laid_bytes l.fill 0 (lowest_address l.elements) l.elements) l.fill l.bytes.items l.end (drop l.element-index
      l.elements);
}
