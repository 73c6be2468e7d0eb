use Rattle.std.proofs.Common.{ap, inl, inr, refl, subst, sym, ◌∙◌, IfSome}
use Rattle.std.specs.Io.Buffered.{into_inner_error_writer, writer_buffer, writer_contents, writer_inner}
use Rattle.dfu_cmd.specs.Buffering.{HasWrittenPrefix}
use Rattle.dfu_cmd.proofs.Fronts.{buffer_front_is_out}
use Rattle.dfu_cmd.proofs.buffering.run_buffered_with_fault.Goals as goal

pub returns-in-Ok : goal.returns-in-Ok
returns-in-Ok g c = record {
  written = writer_contents g.W.Write.contents c.run_with_fault-exit.new.writer;
  end = c.run_with_fault-exit.result.0;
  run = c.run_with_fault-exit.ensures.run;
  printed = c.run_with_fault-exit.ensures.printed;
  written_is_flushed = inl (c.in-Ok.ensures.ok, refl);
}

pub returns-in-Err : goal.returns-in-Err
returns-in-Err g c =
    let left = into_inner_error_writer c.in-Err.error in
    let behind = c.into_parts-writer.ensures.inner ∙ ap writer_inner c.into_inner-in-Err.ensures in
    let written = writer_contents g.W.Write.contents c.run_with_fault-exit.new.writer in
    let front = buffer_front_is_out written (g.W.Write.contents (writer_inner left)) (writer_buffer left) c.in-Err.ensures.err in
    record {
      written = written;
      end = c.run_with_fault-exit.result.0;
      run = c.run_with_fault-exit.ensures.run;
      printed = c.run_with_fault-exit.ensures.printed;
      written_is_flushed = inr (subst (λ x. IfSome written (λ w. HasWrittenPrefix w (g.W.Write.contents x))) (sym behind) front, refl);
    }
