-- Bytes that a buffer has passed on to its writer.
use Rattle.std.proofs.Common.{refl, sym, ℕ, List, None, Option, Some, IfSome}
use Rattle.std.specs.Io.KnownBytes.{Keeps, append_known}
use Rattle.dfu_cmd.specs.Buffering.{HasWrittenPrefix}

-- The bytes that a buffer has passed on to its writer are a prefix of the bytes written into the buffer.
pub buffer_front_is_out : (written behind : Option (List ℕ)) (buffer : List ℕ) → Keeps written (append_known behind buffer)
    → IfSome written (λ w. HasWrittenPrefix w behind)
buffer_front_is_out None behind buffer kept = tt
buffer_front_is_out (Some w) None buffer kept = absurd kept
buffer_front_is_out (Some w) (Some front) buffer kept = record { front = front; rest = buffer; whole = sym kept; out = refl }
