use Rattle.std.proofs.Common.{◌<◌, length, take, arith}
use Rattle.dfu_suffix.proofs.GatherLaws.{gathered_is_all_at_end, gathered_piece_is_appended, piece_over_limit_puts_all_over}
use Rattle.dfu_suffix.proofs.ReadLaws.{empty_read_means_end}
use Rattle.dfu_suffix.proofs.gathering.gather.Goals as goal

pub returns-in-Ok-eq0-clause-all : goal.returns-in-Ok-eq0-clause-all
returns-in-Ok-eq0-clause-all g c =
    let room : 0 < length c.read.new.buf = omega arith in
    let test = c.in-Ok-eq0.field-0-test in
    let over = empty_read_means_end (g.R.Read.remaining c.loop-turn.reader) (g.R.Read.remaining c.read.new.self) c.in-Ok-eq0.field-0
    c.read.new.buf
    (omega arith) room c.in-Ok-eq0.ensures.bytes in
    gathered_is_all_at_end _ _ _ _ _ c.loop-turn.invariant over

pub returns-then-taken-limit-clause-all : goal.returns-then-taken-limit-clause-all
returns-then-taken-limit-clause-all g c =
    let p = c.in-Ok.ensures.bytes in
    let b = c.in-Ok.ensures.bound in
    let more = c.if-taken-limit.true in
    piece_over_limit_puts_all_over _ _ _ _ _ _ _ c.loop-turn.invariant p.0 (omega (arith, b.1))

pub loop-turn-preserved : goal.loop-turn-preserved
loop-turn-preserved g c =
    let p = c.in-Ok.ensures.bytes in
    let b = c.in-Ok.ensures.bound in
    let more = take c.in-Ok.taken c.read.new.buf in
    let some : 0 < length more = omega (arith, b.1, c.in-Ok.taken-test.1) in
    gathered_piece_is_appended _ _ _ _ _ _ more _ c.loop-turn.invariant p.0 some (omega (arith, b.1))
    c.in-Ok-extend_from_slice.ensures.items
