-- The body of an action lies within the payload.
use Rattle.std.proofs.Common.{◌≡◌, ℕ, ◌+◌, ◌≤◌, List, length, take, drop, ap, arith}
use Rattle.std.proofs.lemmas.List.{length-take, length-drop}
use Rattle.dfu_host.specs.declared.parts.Parts.{Parts}
use Rattle.dfu_host.specs.declared.phase.Phase.{Phase}
use Rattle.dfu_host.specs.declared.phase.Phase.TheVariants as phase
use Rattle.dfu_host.specs.Goals.{payload_of}
use Rattle.dfu_host.specs.InParts.{ArePartsOfSession, HasPhaseNeeds, body_offset}

-- A body that is a slice of the payload, and begins within it, ends within the payload.
pub body_ends_in_payload : (payload body : List ℕ) (from : ℕ) → body ≡ take (length body) (drop from payload) → from ≤ length payload
    → from + length body ≤ length payload
body_ends_in_payload payload body from e within =
    let f : length body ≡ length (take (length body) (drop from payload)) = ap length e in
    omega (arith, f, length-take (length body) (drop from payload), length-drop from payload, within)

-- The body of a session's action begins within the session's payload.
pub body_begins_in_payload : (p : Parts) → ArePartsOfSession p → body_offset p.transfer p.phase ≤ length (payload_of p.goal)
body_begins_in_payload p sound = by_phase p.phase sound.within
  where
    by_phase : (which : Phase) → HasPhaseNeeds p.goal p.transfer which → body_offset p.transfer which ≤ length (payload_of p.goal)
    by_phase (phase.Block n) h = omega (arith, h)
    by_phase which h = omega arith
