use Rattle.std.specs.Prelude.{◌≡◌, ◌||◌, ℕ, Bool}
use Rattle.std.proofs.Common.{ap, sym, ◌∙◌, arith, add-one}
use Rattle.dfu_conformance.specs.Candidates.{holds_device}
use Rattle.dfu_conformance.specs.inside.Stepped.{passes_below, has_candidate}
use Rattle.dfu_conformance.proofs.JoinedBits.{or_has_bit_of_either_word}
use Rattle.dfu_conformance.proofs.Words.{none}
use Rattle.dfu_conformance.proofs.held.readings_of.Goals as goal

pub loop-a-init : goal.loop-a-init
loop-a-init c r below = none r below

pub loop-a-preserved : goal.loop-a-preserved
loop-a-preserved c r below =
    let has : ℕ → Bool = λ a. holds_device c.args.devices.now a r in
    or_has_bit_of_either_word _ _ r ∙ ap (λ (b : Bool). b || has c.loop-a.a) (c.loop-a.invariant r below)
    ∙ ap (λ (k : ℕ). passes_below has k) (sym (add-one c.loop-a.a))

pub returns : goal.returns
unfolding has_candidate
returns c r below = let e : c.loop-a.a ≡ 16 = omega arith in
    c.loop-a.invariant r below ∙ ap (λ (n : ℕ). passes_below (λ (a : ℕ). holds_device c.args.devices.now a r) n) e
