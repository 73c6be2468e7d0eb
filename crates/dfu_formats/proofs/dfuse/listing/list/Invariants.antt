use Rattle.std.proofs.Common.{◌≡◌, ◌-◌, ◌≤◌, length, map, take}
use Rattle.dfu_formats.specs.dfuse.Found.{piece_of}
use Rattle.dfu_formats.proofs.dfuse.listing.list.Given as goal

abbrev pub invariant-loop-count : goal.invariant-loop-count
invariant-loop-count l = record {
  within : l.count ≤ length l.pieces;
  size : length l.room ≡ length l.initial.room;
  listed : map piece_of (take l.count l.room) ≡ take l.count l.pieces;
}

abbrev pub decreases-loop-count : goal.decreases-loop-count
decreases-loop-count l = length l.pieces - l.count
