use Rattle.std.specs.Prelude.{◌≡◌, ◌≤◌, ◌+◌, ◌-◌, length, drop}
use Rattle.dfu_fs.specs.Parts.{list_length}
use Rattle.dfu_fs.proofs.json.words.list_length.Given as goal

abbrev pub invariant-bytes : goal.invariant-bytes
invariant-bytes l = (l.count + list_length (drop l.count l.line) ≡ list_length l.line) × (l.count ≤ length l.line)

abbrev pub decreases-bytes : goal.decreases-bytes
decreases-bytes l = length l.line - l.count
