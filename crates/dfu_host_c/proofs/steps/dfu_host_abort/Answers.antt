use Rattle.std.proofs.Common.{inl, refl}
use Rattle.dfu_host_core.specs.Calls.{AbortedRecord}
use Rattle.dfu_host_c.proofs.steps.dfu_host_abort.Goals as goal

pub returns : goal.returns
returns c =
    let first : AbortedRecord c.args.session.now c.record_of.result c.args.payload = record {
      parts = c.in-Some.host;
      next = c.abort.new.self;
      before = c.in-Some.ensures.some.0;
      later = c.record_of.ensures.says c.args.payload (c.abort.ensures.payload c.args.payload c.in-Some.ensures.some.1);
      written = c.record_of.ensures.written;
      same = c.abort.ensures.given_up;
      kept = c.record_of.ensures.kept;
    } in
    record { outcome = inl (refl, first) }
