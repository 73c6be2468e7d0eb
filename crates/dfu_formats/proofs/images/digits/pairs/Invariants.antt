use Rattle.std.proofs.Common.{◌≡◌, ◌-◌, ◌*◌, ◌≤◌, length, drop}
use Rattle.dfu_formats.specs.images.Digits.{bytes_of_pairs}
use Rattle.dfu_formats.proofs.PairLaws.{bytes_before_spelled}
use Rattle.dfu_formats.proofs.images.digits.pairs.Given as goal

abbrev pub invariant-loop-at : goal.invariant-loop-at
invariant-loop-at l = record {
  within : l.at ≤ length l.digits;
  halves : 2 * length l.bytes.items ≡ l.at;
  so_far : bytes_before_spelled l.bytes.items (bytes_of_pairs (drop l.at l.digits)) ≡ bytes_of_pairs l.digits;
}

abbrev pub decreases-loop-at : goal.decreases-loop-at
decreases-loop-at l = length l.digits - l.at
