use Rattle.std.specs.Prelude.{◌≡◌, ◌<◌, List, take, length, is_some}
use Rattle.std.proofs.Common.{sym, ap, subst, arith}
use Rattle.std.proofs.lemmas.List.{take_more, take_all}
use Rattle.dfu_conformance.specs.declared.event.LogEvent.{LogEvent}
use Rattle.dfu_conformance.specs.dfuse.Runs.{DfuseCanAnswer}
use Rattle.dfu_conformance.specs.dfuse.Verdicts.{PlacesExact}
use Rattle.dfu_conformance.proofs.DfuseVerdicts.{empty_list_can_be_answered, departure_is_first}
use Rattle.dfu_conformance.proofs.dfuse.whole.first_departure.Goals as goal

pub loop-n-init : goal.loop-n-init
loop-n-init c = record { can = empty_list_can_be_answered; held = c.new-judge.ensures }

pub loop-n-preserved : goal.loop-n-preserved
loop-n-preserved c =
    let events = c.args.events.now in
    let n = c.loop-n.n in
    let below : n < length events = omega arith in
    let both = c.take.ensures.kept (ap is_some c.in_default.is) (take n events) c.loop-n.invariant.held in
    record {
      can = subst DfuseCanAnswer (sym (take_more events n _ below)) both.0;
      held = subst (λ (es : List LogEvent). PlacesExact c.take.new.self.at es) (sym (take_more events n _ below)) both.1;
    }

pub returns-in-Some-clause-departs : goal.returns-in-Some-clause-departs
returns-in-Some-clause-departs c =
    let events = c.args.events.now in
    let n = c.loop-n.n in
    let below : n < length events = omega arith in
    departure_is_first events n _ c.in-Some.departure c.take.new.self.at below c.loop-n.invariant.can (take_more events n _ below)
    c.in-Some.ensures.departs.0 (c.in-Some.ensures.departs.1 (take n events) c.loop-n.invariant.held)

pub returns-clause-kept : goal.returns-clause-kept
returns-clause-kept c is_none =
    let events = c.args.events.now in
    subst DfuseCanAnswer (take_all c.loop-n.n events (omega arith)) c.loop-n.invariant.can
