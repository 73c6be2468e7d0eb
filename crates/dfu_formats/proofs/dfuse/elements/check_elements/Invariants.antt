use Rattle.std.proofs.Common.{◌≡◌, ◌-◌}
use Rattle.dfu_formats.specs.dfuse.Reading.{elements_at}
use Rattle.dfu_formats.specs.dfuse.Found.{fault_of_result}
use Rattle.dfu_formats.proofs.dfuse.elements.check_elements.Given as goal

abbrev pub invariant-loop : goal.invariant-loop
invariant-loop l = fault_of_result (elements_at l.count l.bytes) ≡ fault_of_result (elements_at (l.count - l.counter) l.rest)
