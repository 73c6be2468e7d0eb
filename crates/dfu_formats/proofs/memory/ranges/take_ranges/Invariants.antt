use Rattle.std.proofs.Common.{◌-◌, ◌^◌, ◌<◌, ◌≤◌, length}
use Rattle.std.specs.List.{All}
use Rattle.dfu_formats.specs.memory.Ranges.{IsRange}
use Rattle.dfu_formats.specs.memory.Reading.{ranges_at}
use Rattle.dfu_formats.proofs.RangeLaws.{RestMakesWholeRanges}
use Rattle.dfu_formats.proofs.memory.ranges.take_ranges.Given as goal

abbrev pub invariant-loop-group : goal.invariant-loop-group
invariant-loop-group l = record {
  fits : l.at < 2 ^ 33;
  few : length l.ranges.items ≤ 32;
  sound : All IsRange l.ranges.items;
  goes : RestMakesWholeRanges (ranges_at 32 l.fn.start l.fn.text) l.ranges.items l.at l.rest;
}

abbrev pub decreases-loop-group : goal.decreases-loop-group
decreases-loop-group l = 32 - length l.ranges.items
