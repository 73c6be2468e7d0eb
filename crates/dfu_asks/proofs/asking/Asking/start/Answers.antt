use Rattle.std.proofs.Common.{Some, refl, sym}
use Rattle.dfu_slots.specs.StoreView.{spare_of}
use Rattle.dfu_asks.specs.declared.pending_writes.PendingWrites.{PendingWrites}
use Rattle.dfu_asks.specs.Lent.{LentDevice, lent}
use Rattle.dfu_asks.specs.Asks.{flash_store, writes_in, steps_in}
use Rattle.dfu_asks.proofs.SeriesBytes.{no_bytes_carried}
use Rattle.dfu_asks.proofs.Pieces.{zero_bytes_end_at_piece}
use Rattle.dfu_asks.proofs.CallResults.{device_with_job_works_for_row, due_row_begins, not_true_if_false}
use Rattle.dfu_asks.proofs.asking.Asking.start.Goals as goal

pub returns-then-not-is_ahead-clause-outcome : goal.returns-then-not-is_ahead-clause-outcome
returns-then-not-is_ahead-clause-outcome c = λ len is due.
    absurd (not_true_if_false c.is_ahead.result c.if-not-is_ahead.true (c.is_ahead.ensures c.args.block.now c.args.held.now
    c.requires.memory is))

pub returns-clause-outcome : goal.returns-clause-outcome
returns-clause-outcome c = λ len is due.
    let flash = c.args.medium.now.bytes.now in
    let l = lent c.args.self.now c.args.block.now c.args.held.now in
    let s = flash_store l flash in
    let job = c.begin_job-job.result in
    let work : PendingWrites = record { job = job.0; asked = c.args.asked; done = 0 } in
    let now : LentDevice = lent
    (record c.args.self.now { held_len = job.1; put_end = job.2; work = Some work; few = c.begin_job-job.ensures.at_most_256 })
    c.args.block.now c.args.held.now in
    let working = device_with_job_works_for_row now l.mode l.block s flash
    (spare_of s) l.block job.0 c.args.asked len refl refl refl is.store is.sound is.noted due
    (c.begin_job-job.ensures.due c.args.block.now (spare_of s) l.block c.args.asked len is due) in
    due_row_begins l flash c.args.out.now len (lent c.advance.new.self c.args.block.now c.advance.new.held) c.advance.new.out
    c.advance.result
    (c.advance.ensures.outcome work len s flash refl working
    (sym (no_bytes_carried (writes_in now work) flash)) (zero_bytes_end_at_piece (steps_in now work)))
    (λ x count is_x. c.advance.ensures.begun work len s x count refl working refl is_x)
