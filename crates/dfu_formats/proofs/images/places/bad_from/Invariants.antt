use Rattle.std.proofs.Common.{◌≡◌, ◌+◌, ◌≤◌, drop}
use Rattle.dfu_formats.specs.images.Places.{bad_from}
use Rattle.dfu_formats.specs.declared.images.places.Part.TheVariants.{Front}
use Rattle.dfu_formats.proofs.images.places.bad_from.Given as goal

abbrev pub invariant-loop-byte : goal.invariant-loop-byte
invariant-loop-byte l = record {
  lines : l.line ≤ l.byte-index + 1;
  columns : l.column ≤ l.byte-index + 1;
  so_far : bad_from l.mark l.part l.line l.column (drop l.byte-index l.text) ≡ bad_from l.mark Front 1 1 l.text;
}
