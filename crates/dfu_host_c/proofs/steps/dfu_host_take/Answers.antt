use Rattle.std.proofs.Common.{inl, refl, sym, ◌∙◌, arith}
use Rattle.dfu_host_core.specs.Calls.{TakeSeenResult}
use Rattle.dfu_host_core.specs.Sessions.{IsRecordAndBuffer}
use Rattle.dfu_host_c.proofs.steps.dfu_host_take.Goals as goal

pub returns : goal.returns
returns c =
    let held : IsRecordAndBuffer c.args.session.now c.args.payload c.args.kept.now c.in-Some.host = record {
      stands = c.in-Some.ensures.some.0;
      room = omega (arith, c.if-session-kept.false);
    } in
    let took : TakeSeenResult c.args.session.now c.step.result c.args.payload c.args.kept.now c.step.new.kept c.args.seen c.args.bytes = record {
      parts = c.in-Some.host;
      word = c.in-Some-seen_at.seen;
      next = c.step.new.host;
      before = held;
      seen_is = sym c.seen_at.ensures ∙ c.in-Some-seen_at.is;
      later = c.step.ensures.held c.args.payload c.in-Some.ensures.some.1;
      written = c.step.ensures.written;
      row = c.step.ensures.row;
      room = c.step.ensures.room;
      stores = c.step.ensures.stores;
    } in
    record { outcome = inl (refl, took) }
