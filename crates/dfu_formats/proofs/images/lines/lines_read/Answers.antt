use Rattle.std.proofs.Common.{List, ℕ, sym, ap, ◌∙◌, arith, Bor}
use Rattle.dfu_formats.specs.images.Lines.{State, lines, line_read}
use Rattle.dfu_formats.proofs.LineLaws.{lines_have_first_line}
use Rattle.dfu_formats.proofs.ReadLaws.{read_line_leaves_rest, line_fault_is_text_fault, whole_end_gives_state, missing_end_is_fault}
use Rattle.dfu_formats.proofs.images.lines.lines_read.Goals as goal

pub returns-in-Err : goal.returns-in-Err
returns-in-Err g c =
    let first = lines_have_first_line c.take_line.result.1 (λ (rest : Bor (List ℕ)). lines rest.now) _ _ c.take_line.ensures.value in
    line_fault_is_text_fault (line_read g.F.TextFormat.step) c.in-Err.fault _ _ _ _ _ _ _ first.1 c.bare.ensures
    c.in-Err.ensures.value c.loop-next.invariant.so_far

pub returns-in-None : goal.returns-in-None
returns-in-None g c =
    let only = rw c.in-None.is at c.take_line.ensures.value in
    let done = read_line_leaves_rest (line_read g.F.TextFormat.step) _ _ _ _ _ _ _ _ only c.bare.ensures
    c.in-Ok.ensures.value c.loop-next.invariant.so_far in
    whole_end_gives_state (line_read g.F.TextFormat.step) _ _ _ (sym (ap (λ (s : State). s.is_whole) c.state.view_is)
    ∙ c.if-state.true) done

pub returns-in-None-2 : goal.returns-in-None-2
returns-in-None-2 g c =
    let only = rw c.in-None-2.is at c.take_line.ensures.value in
    let done = read_line_leaves_rest (line_read g.F.TextFormat.step) _ _ _ _ _ _ _ _ only c.bare.ensures
    c.in-Ok.ensures.value c.loop-next.invariant.so_far in
    missing_end_is_fault (line_read g.F.TextFormat.step) _ _ _ (sym (ap (λ (s : State). s.is_whole) c.state.view_is)
    ∙ c.if-state.false) done

pub loop-next-preserved : goal.loop-next-preserved
loop-next-preserved g c =
    let first = rw c.in-Some.is at c.take_line.ensures.value in
    let shorter = rw c.in-Some.is at c.take_line.ensures.shorter in
    record {
      few = omega (arith, shorter, c.loop-next.invariant.few);
      counted = omega (arith, c.in-Ok.ensures.counted, c.loop-next.invariant.counted);
      so_far = read_line_leaves_rest (line_read g.F.TextFormat.step) _ _ _ _ _ _ _ _ first c.bare.ensures
          c.in-Ok.ensures.value c.loop-next.invariant.so_far;
    }
