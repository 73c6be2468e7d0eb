use Rattle.std.proofs.Common.{◌≡◌, drop}
use Rattle.dfu_link.specs.ScriptRun.{has_front}
use Rattle.dfu_link.specs.inside.AcceptedImage.{candidate_bytes_of}
use Rattle.dfu_link.proofs.scripting.event_parts.begins.Given as goal

abbrev pub invariant-loop-i : goal.invariant-loop-i
invariant-loop-i g l = has_front l.check (candidate_bytes_of l.slots l.candidate)
    ≡ has_front (drop l.i l.check) (drop l.i (candidate_bytes_of l.slots l.candidate))
