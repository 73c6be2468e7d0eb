use Rattle.std.proofs.Common.{rules, inl, inr, refl, sym, ◌∙◌}
use Rattle.dfu_host_c.specs.dfuse.Sessions.{IsDfuseRecordOf}
use Rattle.dfu_host_c.proofs.dfuse.action.dfuse_next.Goals as goal

pub returns : goal.returns
returns c =
    let held : IsDfuseRecordOf c.args.session.now c.args.map.now c.args.image c.in-Some-session_of.host = record {
      map = _;
      is_map = c.in-Some.ensures.some;
      says = sym c.session_of.ensures.value ∙ c.in-Some-session_of.is;
    } in
    record {
      outcome = elim (c.tell.ensures.outcome _ c.next.ensures) [
        | inl told ↦ inl (search (rules, told.0), record { session = c.in-Some-session_of.host; held = held; tells = told.1 })
        | inr none ↦ inr (inl (search (rules, none.0), record { session = c.in-Some-session_of.host; held = held; larger = none.1 }, none.2, none.3))
      ];
    }

pub returns-in_default : goal.returns-in_default
returns-in_default c = record {
  outcome = inr (inr (refl, inl (c.map_of.ensures.none c.in_default.is), refl, refl));
}
