use Rattle.std.proofs.Common.{◌≡◌, ◌+◌, drop}
use Rattle.dfu_formats.specs.memory.Reading.{digits_in}
use Rattle.dfu_formats.proofs.memory.digits.digits_in.Given as goal

abbrev pub invariant-loop-byte : goal.invariant-loop-byte
invariant-loop-byte l = (l.count ≡ l.byte-index) × (digits_in l.base l.text ≡ l.count + digits_in l.base (drop l.count l.text))
