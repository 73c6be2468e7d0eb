use Rattle.std.proofs.Common.{◌+◌, ℕ, take, ap, arith}
use Rattle.dfu_suffix.proofs.ReadLaws.{empty_read_means_end}
use Rattle.dfu_suffix.proofs.StreamLaws.{further_piece_keeps_check_state, end_check_is_check_of_all, end_findings_are_of_all, piece_over_limit_is_too_large, no_findings_over_limit}
use Rattle.dfu_suffix.proofs.checking.check_with.Goals as goal

pub returns-in-Ok-eq0-clause-answer : goal.returns-in-Ok-eq0-clause-answer
returns-in-Ok-eq0-clause-answer g c =
    let over = empty_read_means_end (g.R.Read.remaining c.loop-turn.reader) (g.R.Read.remaining c.read.new.self) c.in-Ok-eq0.field-0
    c.read.new.buf (omega (arith, c.in-Ok-eq0.field-0-test)) (omega arith) c.in-Ok-eq0.ensures.bytes in
    end_check_is_check_of_all _ _ _ _ _ _ _ _ c.loop-turn.invariant over c.check_register.ensures.answer c.value-register.ensures

pub returns-in-Ok-eq0-clause-findings : goal.returns-in-Ok-eq0-clause-findings
returns-in-Ok-eq0-clause-findings g c =
    let over = empty_read_means_end (g.R.Read.remaining c.loop-turn.reader) (g.R.Read.remaining c.read.new.self) c.in-Ok-eq0.field-0
    c.read.new.buf (omega (arith, c.in-Ok-eq0.field-0-test)) (omega arith) c.in-Ok-eq0.ensures.bytes in
    end_findings_are_of_all _ _ _ _ _ _ _ _ _ c.loop-turn.invariant over c.findings_of.ensures.count c.findings_of.ensures.suffix
    c.findings_of.ensures.crc (omega arith) c.findings_of.ensures.register c.value-register.ensures

pub returns-then-taken-count-clause-answer : goal.returns-then-taken-count-clause-answer
returns-then-taken-count-clause-answer g c =
    let p = c.in-Ok.ensures.bytes in
    let b = c.in-Ok.ensures.bound in
    let over = c.if-taken-count.true in
    piece_over_limit_is_too_large _ _ _ _ _ _ _ _ c.loop-turn.invariant p.0 (omega (arith, b.1))

pub returns-then-taken-count-clause-findings : goal.returns-then-taken-count-clause-findings
returns-then-taken-count-clause-findings g c =
    let p = c.in-Ok.ensures.bytes in
    let b = c.in-Ok.ensures.bound in
    let over = c.if-taken-count.true in
    no_findings_over_limit _ _ _ _ _ _ _ _ _ c.loop-turn.invariant p.0 (omega (arith, b.1))

pub loop-turn-preserved : goal.loop-turn-preserved
loop-turn-preserved g c =
    let b = c.in-Ok.ensures.bound in
    further_piece_keeps_check_state _ _ _ _ _ _ _ _ _ _ (take c.in-Ok.taken c.read.new.buf) c.loop-turn.invariant c.in-Ok.ensures.bytes.0
    c.slide.ensures.bytes (omega (arith, b.1, c.in-Ok.taken-test.1)) c.update_long.ensures.more
    (ap (λ (n : ℕ). c.loop-turn.count + n) b.1) c.slide.ensures.last (omega (arith, b.1))
