use Rattle.std.proofs.Common.{◌≡◌, ◌+◌, ◌^◌, ◌≤◌, take}
use Rattle.dfu_formats.specs.images.SRecord.{number_of_bytes}
use Rattle.dfu_formats.proofs.images.srec_line.number.Given as goal

abbrev pub invariant-loop-byte : goal.invariant-loop-byte
invariant-loop-byte l = (l.value ≡ number_of_bytes (take l.byte-index l.bytes)) × (l.value + 1 ≤ 256 ^ l.byte-index)
