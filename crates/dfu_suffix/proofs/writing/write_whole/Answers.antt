use Rattle.std.proofs.Common.{◌≡◌, ◌<◌, ℕ, List, [], length, take, drop, subst, arith, sym}
use Rattle.std.specs.Io.KnownBytes.{Appends}
use Rattle.dfu_suffix.proofs.Progress.{WrittenSoFar, write_advances_progress, stopped_text_is_partly_written, kept_contents_mean_no_bytes}
use Rattle.dfu_suffix.proofs.writing.write_whole.Goals as goal

pub returns-in-Ok-eq0 : goal.returns-in-Ok-eq0
returns-in-Ok-eq0 g c =
    let some : 0 < length c.loop-rest.rest.now = grind (arith, c.loop-rest-test.ensures) in
    let zero = c.in-Ok-eq0.field-0-test in
    let e : c.in-Ok-eq0.field-0 ≡ 0 = omega arith in
    let mid = g.W.Write.contents c.loop-rest.writer in
    let new = g.W.Write.contents c.write.new.self in
    let none : Appends mid new [] = subst (λ (n : ℕ). Appends mid new (take n c.loop-rest.rest.now)) e c.in-Ok-eq0.ensures.bytes in
    stopped_text_is_partly_written (g.W.Write.contents c.args.writer.now) mid new c.args.text.now c.loop-rest.rest.now c.loop-rest.invariant
    some none

pub loop-rest-preserved : goal.loop-rest-preserved
loop-rest-preserved g c =
    let p : WrittenSoFar (g.W.Write.contents c.args.writer.now) (g.W.Write.contents c.write.new.self) c.args.text.now
    (drop c.in-Ok.taken c.loop-rest.rest.now) =
    write_advances_progress (g.W.Write.contents c.args.writer.now) (g.W.Write.contents c.loop-rest.writer)
    (g.W.Write.contents c.write.new.self) c.args.text.now c.loop-rest.rest.now c.in-Ok.taken c.loop-rest.invariant
    c.in-Ok.ensures.bytes in
    subst (λ (left : List ℕ). WrittenSoFar (g.W.Write.contents c.args.writer.now) (g.W.Write.contents c.write.new.self)
    c.args.text.now left) (sym c.split_at.ensures.back) p

pub returns-in-Err : goal.returns-in-Err
returns-in-Err g c =
    let some : 0 < length c.loop-rest.rest.now = grind (arith, c.loop-rest-test.ensures) in
    stopped_text_is_partly_written (g.W.Write.contents c.args.writer.now) (g.W.Write.contents c.loop-rest.writer)
    (g.W.Write.contents c.write.new.self) c.args.text.now c.loop-rest.rest.now c.loop-rest.invariant some
    (kept_contents_mean_no_bytes _ _ c.in-Err.ensures.bytes)
