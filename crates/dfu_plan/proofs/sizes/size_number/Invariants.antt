use Rattle.std.specs.Prelude.{◌≡◌, Some, take}
use Rattle.std.specs.List.{fold}
use Rattle.dfu_plan.specs.Sizes.{number_with_digit}
use Rattle.dfu_plan.proofs.sizes.size_number.Given as goal

abbrev pub invariant-loop-byte : goal.invariant-loop-byte
invariant-loop-byte l = l.number ≡ fold (number_with_digit l.base) (Some 0) (take l.byte-index l.digits)
