use Rattle.std.specs.Prelude.{length}
use Rattle.std.specs.String.{string_bytes}
use Rattle.dfu_output.proofs.SuccessiveDescriptors.{DescriptorsTextSoFar}
use Rattle.dfu_output.proofs.configuration.walk.Given as goal

-- The line holds the text of the descriptors before `rest`.
abbrev pub invariant-loop-rest : goal.invariant-loop-rest
invariant-loop-rest l = DescriptorsTextSoFar l.fn.bytes (string_bytes l.fn.line) l.inside l.rest (string_bytes l.line)

-- Each descriptor leaves fewer bytes.
abbrev pub decreases-loop-rest : goal.decreases-loop-rest
decreases-loop-rest l = length l.rest
