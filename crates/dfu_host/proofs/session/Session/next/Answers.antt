use Rattle.std.proofs.Common.{List, ℕ, subst}
use Rattle.dfu_host.specs.declared.parts.Parts.{Parts}
use Rattle.dfu_host.specs.Goals.{payload_of}
use Rattle.dfu_host.specs.Host.{Act}
use Rattle.dfu_host.specs.InParts.{BodyIsSliceOfPayload, body_offset, host_of}
use Rattle.dfu_host.proofs.Budget.{final_action_has_no_inputs_left}
use Rattle.dfu_host.proofs.session.Session.next.Goals as goal

pub returns : goal.returns
returns c =
    let act : (memory : List ℕ) → Act (host_of memory c.args.self.now) c.action.result =
    λ memory. rw (← c.self.view_is) (c.action.ensures.spells memory) in
    record {
      act = act;
      done = λ memory. final_action_has_no_inputs_left (host_of memory c.args.self.now) c.action.result (act memory);
      cut = subst (λ (p : Parts). BodyIsSliceOfPayload (payload_of p.goal) (body_offset p.transfer p.phase) c.action.result)
          c.self.view_is c.action.ensures.cut;
    }
