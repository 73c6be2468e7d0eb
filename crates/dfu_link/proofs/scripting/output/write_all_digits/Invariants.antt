use Rattle.std.proofs.Common.{◌-◌, ◌≤◌, take, Ok}
use Rattle.hex.specs.Hex.{encode_lower}
use Rattle.dfu_link.specs.inside.Expected.{WriteEnds}
use Rattle.dfu_link.proofs.scripting.output.write_all_digits.Given as goal

abbrev pub invariant-loop-at : goal.invariant-loop-at
invariant-loop-at g l = record {
  within : l.at ≤ l.all;
  told : WriteEnds (encode_lower (take l.at l.bytes)) (g.W.Write.contents l.fn.writer) (g.W.Write.contents l.writer) (Ok tt);
}

abbrev pub decreases-loop-at : goal.decreases-loop-at
decreases-loop-at g l = l.all - l.at
