use Rattle.dfu_cmd.specs.RunText.{ran_to_end, stopped_at_fault, whole_text_is_printed, text_part_is_printed}
use Rattle.std.proofs.Common.{refl}
use Rattle.dfu_cmd.proofs.running.end_text.Goals as goal

pub returns-in-Ok-clause-run : goal.returns-in-Ok-clause-run
returns-in-Ok-clause-run g c = λ file given old ended. ran_to_end (rw c.in-Ok.is at ended) refl

pub returns-in-Ok-clause-printed : goal.returns-in-Ok-clause-printed
returns-in-Ok-clause-printed g c = λ file given old printed. whole_text_is_printed (rw c.in-Ok.is at printed) refl

pub returns-in-Err-clause-run : goal.returns-in-Err-clause-run
returns-in-Err-clause-run g c = λ file given old ended.
    stopped_at_fault (g.W.Write.contents c.args.writer.now) c.in-Err.fault (rw c.in-Err.is at ended) c.stop_text.ensures

pub returns-in-Err-clause-printed : goal.returns-in-Err-clause-printed
returns-in-Err-clause-printed g c = λ file given old printed.
    text_part_is_printed (g.W.Write.contents c.args.writer.now) c.in-Err.fault (rw c.in-Err.is at printed) c.stop_text.ensures
