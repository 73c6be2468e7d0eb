use Rattle.std.proofs.Common.{◌≡◌, ◌≤◌, take}
use Rattle.dfu_formats.specs.memory.Reading.{trimmed_name}
use Rattle.dfu_formats.proofs.memory.name.trimmed.Given as goal

abbrev pub invariant-loop-byte : goal.invariant-loop-byte
invariant-loop-byte l = record {
  counted : l.count ≡ l.byte-index;
  within : l.end ≤ l.byte-index;
  kept : trimmed_name (take l.byte-index l.bytes) ≡ take l.end l.bytes;
}
