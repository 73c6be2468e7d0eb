use Rattle.std.proofs.Common.{◌≡◌, ◌*◌, ◌≤◌, take, sum}
use Rattle.dfu_formats.proofs.images.digits.sum_of.Given as goal

abbrev pub invariant-loop-byte : goal.invariant-loop-byte
invariant-loop-byte l = (l.sum ≡ sum (take l.byte-index l.bytes)) × (l.sum ≤ 255 * l.byte-index)
