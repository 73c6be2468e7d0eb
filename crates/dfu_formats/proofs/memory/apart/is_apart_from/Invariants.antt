use Rattle.std.proofs.Common.{◌≡◌, drop}
use Rattle.dfu_formats.specs.memory.Ranges.{is_apart_from}
use Rattle.dfu_formats.proofs.memory.apart.is_apart_from.Given as goal

abbrev pub invariant-loop-other : goal.invariant-loop-other
invariant-loop-other l = is_apart_from l.one l.others ≡ is_apart_from l.one (drop l.other-index l.others)
