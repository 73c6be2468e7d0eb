-- A session that is read from a record has the map and the image that were passed with the record.
use Rattle.std.proofs.Common.{rules, ◌≡◌, ℕ, List, Some, sym, ap, ◌∙◌, subst}
use Rattle.std.specs.Borrow.{Bor}
use Rattle.dfu_formats.specs.memory.Reading.{MapContent}
use Rattle.dfu_formats.specs.declared.dfuse.element.Element.{Element}
use Rattle.dfuse_host.specs.declared.phase.Phase.{Phase}
use Rattle.dfuse_host.specs.declared.plan.Plan.{Plan}
use Rattle.dfuse_host.specs.declared.session.Session.{Session}
use Rattle.std.specs.Prelude.{Option, None, option_map}
use Rattle.dfu_host_c.specs.dfuse.Sessions.{IsDfuseRecordOf, phase_in, session_in, dfuse_session_in_phase}
use Rattle.dfu_host_c.specs.declared.dfuse.session.DfuseSession.{DfuseSession}

session_has_map_and_image : (r : DfuseSession) (map : Bor MapContent) (image : Bor (List Element)) (o : Option Phase) (s : Session) →
    option_map (dfuse_session_in_phase r map image) o ≡ Some s → (s.plan.map ≡ map) × (s.plan.image ≡ image)
session_has_map_and_image r map image None s e = absurd cc
session_has_map_and_image r map image (Some phase) s e =
    let same : dfuse_session_in_phase r map image phase ≡ s = search (rules, e) in
    (sym (ap (λ (t : Session). t.plan.map) same), sym (ap (λ (t : Session). t.plan.image) same))

-- If the next session has the same plan and is read from the new record, the new record holds it, with the same map and image.
pub record_holds_session : (r r' : DfuseSession) (text : List ℕ) (image : Bor (List Element)) (s next : Session)
    → IsDfuseRecordOf r text image s →
    next.plan ≡ s.plan → session_in r' next.plan.map next.plan.image ≡ Some next → IsDfuseRecordOf r' text image next
record_holds_session r r' text image s next held plan says =
    let both : (s.plan.map ≡ held.map) × (s.plan.image ≡ image) = session_has_map_and_image r held.map image (phase_in r) s held.says
    in
    let map : next.plan.map ≡ held.map = ap (λ (p : Plan). p.map) plan ∙ both.0 in
    let over : next.plan.image ≡ image = ap (λ (p : Plan). p.image) plan ∙ both.1 in record {
      map = held.map;
      is_map = held.is_map;
      says = subst (λ (i : Bor (List Element)). session_in r' held.map i ≡ Some next) over
          (subst (λ (m : Bor MapContent). session_in r' m next.plan.image ≡ Some next) map says);
    }
