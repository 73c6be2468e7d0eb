use Rattle.std.proofs.Common.{◌≡◌, ◌+◌, ◌≤◌, ◌++◌, length, map, take}
use Rattle.dfu_formats.specs.dfuse.Found.{piece_of}
use Rattle.dfu_formats.proofs.dfuse.listing.put.Given as goal

abbrev pub invariant-loop-element : goal.invariant-loop-element
invariant-loop-element l = record {
  within : l.count ≤ length l.room;
  size : length l.room ≡ length l.initial.room;
  number : l.count + length l.left ≡ l.initial.count + length l.initial.left;
  listed : map piece_of (take l.count l.room) ++ l.left ≡ map piece_of (take l.initial.count l.initial.room) ++ l.initial.left;
}

abbrev pub decreases-loop-element : goal.decreases-loop-element
decreases-loop-element l = length l.left
