use Rattle.std.proofs.Common.{◌∙◌, refl, sym, arith}
use Rattle.dfu_link.specs.inside.AcceptedImage.{candidate_bytes_of}
use Rattle.dfu_link.proofs.Checking.{front_goes_on_after_byte, front_breaks_at_byte, front_is_found_at_end}
use Rattle.dfu_link.proofs.scripting.event_parts.begins.Goals as goal

pub loop-i-init : goal.loop-i-init
loop-i-init g c = refl

pub returns-then-not-has_byte : goal.returns-then-not-has_byte
returns-then-not-has_byte g c =
    sym (c.loop-i.invariant ∙ front_breaks_at_byte c.args.check.now (candidate_bytes_of c.args.slots.now c.args.candidate) c.loop-i.i
    c.loop-i-test.true
    (sym c.has_byte.ensures ∙ c.if-not-has_byte.true))

pub loop-i-preserved : goal.loop-i-preserved
loop-i-preserved g c =
    c.loop-i.invariant ∙ front_goes_on_after_byte c.args.check.now (candidate_bytes_of c.args.slots.now c.args.candidate) c.loop-i.i
    c.loop-i-test.true
    (sym c.has_byte.ensures ∙ c.if-not-has_byte.false)

pub returns : goal.returns
returns g c =
    sym (c.loop-i.invariant ∙ front_is_found_at_end c.args.check.now (candidate_bytes_of c.args.slots.now c.args.candidate) c.loop-i.i
    (omega (arith, c.loop-i-test.false)))
