-- Once a session reports Verified, the device's memory holds the image.
use Rattle.std.proofs.Common.{◌≡◌, ℕ, List, ◌∷◌, refl, sym, ap, ◌∙◌, subst}
use Rattle.std.specs.List.{AllByRecursion}
use Rattle.dfu_formats.specs.declared.dfuse.element.Element.{Element}
use Rattle.dfuse_host.specs.declared.plan.Plan.{Plan}
use Rattle.dfuse_host.specs.declared.phase.Phase.{Phase}
use Rattle.dfuse_host.specs.declared.seen.Seen.{Seen}
use Rattle.dfuse_host.specs.declared.session.Session.{Session}
use Rattle.dfuse_host.specs.declared.limits.Limits.{Limits}
use Rattle.dfuse_host.specs.ReadBack.{WasReadInPhase, OnlyReadBack, AlwaysClosesAfterCompare}
use Rattle.dfuse_host.specs.Sessions.{initial_dfuse_session, SessionRow}
use Rattle.dfuse_link.specs.Chips.{Chip, Device}
use Rattle.dfuse_link.specs.Reactions.{BytesInMemoryAt}
use Rattle.dfuse_link.specs.Histories.{History, so_far, passes, turns}
use Rattle.dfuse_link.specs.Promises.{IsPlanFor, VerifiedIsTrue}
use Rattle.dfuse_link.proofs.Rows.{turn_is_session_row}
use Rattle.dfuse_host.proofs.RunLaws.{heard_phase_keeps_plan}
use Rattle.dfuse_link.proofs.Bytes.{all_elements_are_in_memory}
use Rattle.dfuse_link.proofs.Passing.{advance_keeps_session_facts}
use Rattle.dfuse_link.proofs.SessionTurns.{SessionFactsHold, plan_elements_are_apart, turn_keeps_session_facts}
use Rattle.dfuse_link.proofs.Pairs.{session_begun_with, device_with_session}

-- The facts hold when a session begins, because the session has not read back any byte.
pub begun_session_has_facts : (chip : Chip) (plan : Plan) (limits : Limits) (d : Device) → IsPlanFor chip plan →
    SessionFactsHold chip (session_begun_with d plan limits)
begun_session_has_facts chip plan limits d for = record { for = for; closes = tt; stands = tt; right = λ a b was. absurd was }

pub history_has_session_facts : (chip : Chip) → OnlyReadBack → AlwaysClosesAfterCompare →
    (d d' : Device) (s s' : Session) (seens : List Seen) →
    History chip d s seens d' s' → SessionFactsHold chip (device_with_session d s) → SessionFactsHold chip (device_with_session d' s')
history_has_session_facts chip only always d _ s _ _ so_far so = so
history_has_session_facts chip only always d d' s s' seens (passes mid more rest) so =
    history_has_session_facts chip only always mid d' s s' seens rest (advance_keeps_session_facts chip (device_with_session d s) mid
    more so)
history_has_session_facts chip only always d d' s s' (x ∷ seens) (turns {mid = mid} {at = at} turn rest) so =
    history_has_session_facts chip only always mid d' at s' seens rest (turn_keeps_session_facts chip only always (device_with_session d s)
    (device_with_session mid at) x turn so)

row_keeps_plan : (s s' : Session) (x : Seen) → SessionRow s x s' → s'.plan ≡ s.plan
row_keeps_plan s s' x row = ap (λ (t : Session). t.plan) row.same ∙ heard_phase_keeps_plan s s.phase row.heard

-- The plan of a session stays the same through a history.
pub history_keeps_plan : (chip : Chip) (d d' : Device) (s s' : Session) (seens : List Seen) → History chip d s seens d' s' → s'.plan
    ≡ s.plan
history_keeps_plan chip d _ s _ _ so_far = refl
history_keeps_plan chip d d' s s' seens (passes mid more rest) = history_keeps_plan chip mid d' s s' seens rest
history_keeps_plan chip d d' s s' (x ∷ seens) (turns {mid = mid} {at = at} turn rest) =
    history_keeps_plan chip mid d' at s' seens rest ∙ row_keeps_plan s at x (turn_is_session_row chip (device_with_session d s)
    (device_with_session mid at) x turn)

pub verified_is_true : OnlyReadBack → AlwaysClosesAfterCompare → VerifiedIsTrue
verified_is_true only always chip plan limits d d' s seens leaving for history over =
    let so = history_has_session_facts chip only always d d' (initial_dfuse_session plan limits) s seens history (begun_session_has_facts
    chip plan limits d for) in
    let counts = λ (a : ℕ). subst (λ (p : Phase). WasReadInPhase s.plan p a) (sym over) tt in
    let all = all_elements_are_in_memory d'.memory 0 s.plan.image.now (plan_elements_are_apart chip s.plan so.for) (λ a b. (so.right a b
    (counts a)).0) in
    subst
    (λ (q : Plan). AllByRecursion (λ (e : Element). BytesInMemoryAt d'.memory e.address e.bytes.now) q.image.now)
    (history_keeps_plan chip d d' (initial_dfuse_session plan limits) s seens history) all
