use Rattle.std.specs.Prelude.{◌≡◌, ◌<◌, ◌==◌, ℕ}
use Rattle.std.specs.Int.{bit_at}
use Rattle.dfu_conformance.specs.Candidates.{holds_device}
use Rattle.dfu_conformance.specs.inside.Stepped.{passes_below}
use Rattle.dfu_conformance.proofs.held.readings_of.Given as goal

-- Bit `r` of `all` is 1 exactly if one of the words before index `a` contains a device with the set of habits `r`.
abbrev pub invariant-loop-a : goal.invariant-loop-a
invariant-loop-a l = (r : ℕ) → r < 64 → (bit_at l.all r == 1) ≡ passes_below (λ (a : ℕ). holds_device l.devices a r) l.a
