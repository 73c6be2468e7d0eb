use Rattle.std.proofs.Common.{◌≡◌, inl, inr, refl, sym, ◌∙◌, Some}
use Rattle.dfu_host_c.specs.dfuse.Calls.{DfuseTakeResult}
use Rattle.dfu_host_c.specs.dfuse.Sessions.{IsDfuseRecordOf, session_in}
use Rattle.dfu_host_c.proofs.DfuseSessions.{record_holds_session}
use Rattle.dfu_host_c.proofs.dfuse.steps.dfuse_take.Goals as goal

pub returns : goal.returns
returns c =
    let says : session_in c.args.session.now _ c.args.image ≡ Some c.in-Some-session_of.host = sym c.session_of.ensures.value ∙ c.in-Some-session_of.is in
    let held : IsDfuseRecordOf c.args.session.now c.args.map.now c.args.image c.in-Some-session_of.host = record {
      map = _;
      is_map = c.in-Some.ensures.some;
      says = says;
    } in
    let took : DfuseTakeResult c.args.session.now c.record_of.result c.args.map.now c.args.image c.args.seen c.args.bytes = record {
      session = c.in-Some-session_of.host;
      next = c.take.new.self;
      word = c.in-Some-dfuse_seen_at.seen;
      held = held;
      seen_is = sym c.dfuse_seen_at.ensures ∙ c.in-Some-dfuse_seen_at.is;
      row = c.take.ensures.row;
      says = c.record_of.ensures.value;
      later =
          record_holds_session c.args.session.now c.record_of.result c.args.map.now c.args.image c.in-Some-session_of.host c.take.new.self
          held
          c.take.ensures.plan c.record_of.ensures.says;
    } in
    record { outcome = inl (refl, took) }

pub returns-in_default : goal.returns-in_default
returns-in_default c = record { outcome = inr (inl (refl, inl (c.map_of.ensures.none c.in_default.is), refl)) }
