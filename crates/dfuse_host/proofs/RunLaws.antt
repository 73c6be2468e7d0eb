-- A session that ends as Verified has read back every byte of its image.
use Rattle.std.proofs.Common.{◌≡◌, ℕ, zero, suc, ◌⊎◌, inl, inr, true, List, [], ◌∷◌, refl, sym, ap, ◌∙◌, subst}
use Rattle.dfuse_host.specs.declared.plan.Plan.{Plan}
use Rattle.dfuse_host.specs.declared.phase.Phase.{Phase}
use Rattle.dfuse_host.specs.declared.phase.Phase.TheVariants.{On, Over}
use Rattle.dfuse_host.specs.declared.work.Work.{Work}
use Rattle.dfuse_host.specs.declared.work.Work.TheVariants as work
use Rattle.dfuse_host.specs.declared.place.Place.{Place}
use Rattle.dfuse_host.specs.declared.step.Step.{Step}
use Rattle.dfuse_host.specs.declared.step.Step.TheVariants as step
use Rattle.dfuse_host.specs.declared.heard.Heard.{Heard}
use Rattle.dfuse_host.specs.declared.heard.Heard.TheVariants as heard
use Rattle.dfuse_host.specs.declared.seen.Seen.{Seen}
use Rattle.dfuse_host.specs.declared.session.Session.{Session}
use Rattle.dfuse_host.specs.Refusing.{apart_from}
use Rattle.dfuse_host.specs.Sessions.{initial_dfuse_session, phase_resumed, session_with_restart_taken, restarted_leaving, session_after_restart, session_after_step_heard, session_after_phase_heard, SessionRow, SessionRows, seen_all, sees}
use Rattle.dfuse_host.specs.ReadBack.{HasByte, WasReadInPhase, PhaseReadsBack, PhaseClosesAfterCompare}
use Rattle.dfuse_host.specs.ReadInRun.{IsReadInRun, VerifiedReadEachByte}
use Rattle.dfuse_host.proofs.CloseLaws.{session_closes_after_compare}
use Rattle.dfuse_host.proofs.ReadBackLaws.{only_read_back}

restarted_session_keeps_plan : (s : Session) (p : Phase) (n : ℕ) → (session_with_restart_taken s p n).plan ≡ s.plan
restarted_session_keeps_plan s p zero = refl
restarted_session_keeps_plan s p (suc n) = refl

restart_leaving_keeps_plan : (s : Session) (p : Place) (at : Step) → (restarted_leaving s p at).plan ≡ s.plan
restart_leaving_keeps_plan s p step.Close = refl
restart_leaving_keeps_plan s p step.CloseProbe = refl
restart_leaving_keeps_plan s p step.ClosePoll = refl
restart_leaving_keeps_plan s p at = restarted_session_keeps_plan s (phase_resumed s.plan work.Leave p at) s.restarts

restart_keeps_plan : (s : Session) (w : Work) (p : Place) (at : Step) → (session_after_restart s w p at).plan ≡ s.plan
restart_keeps_plan s work.Leave p at = restart_leaving_keeps_plan s p at
restart_keeps_plan s w p at = restarted_session_keeps_plan s (phase_resumed s.plan w p at) s.restarts

-- No result changes the plan of a session that is not over.
pub heard_step_keeps_plan : (s : Session) (w : Work) (p : Place) (at : Step) (h : Heard) → (session_after_step_heard s w p at h).plan
    ≡ s.plan
heard_step_keeps_plan s w p at heard.Restarted = restart_keeps_plan s w p at
heard_step_keeps_plan s w p at h = refl

-- No result changes the plan of a session.
pub heard_phase_keeps_plan : (s : Session) (p : Phase) (h : Heard) → (session_after_phase_heard s p h).plan ≡ s.plan
heard_phase_keeps_plan s (Over r) h = refl
heard_phase_keeps_plan s (On at) h = heard_step_keeps_plan s at.work at.place at.step h

-- The image has a byte at `a`, its elements ascend and don't overlap, and the session reaches the leave request only after the comparison.
record ReadByteFacts (s : Session) (a : ℕ) : Type 0 where
  apart : apart_from 0 s.plan.image.now ≡ true
  has : HasByte a s.plan.image.now
  closes : PhaseClosesAfterCompare s.phase

read_facts_after_row : (s mid : Session) (seen : Seen) (a : ℕ) → SessionRow s seen mid → ReadByteFacts s a → ReadByteFacts mid a
read_facts_after_row s mid seen a step c =
    let plan : mid.plan ≡ s.plan = ap (λ (t : Session). t.plan) step.same ∙ heard_phase_keeps_plan s s.phase step.heard in record {
      apart = subst (λ (q : Plan). apart_from 0 q.image.now ≡ true) (sym plan) c.apart;
      has = subst (λ (q : Plan). HasByte a q.image.now) (sym plan) c.has;
      closes = subst (λ (t : Session). PhaseClosesAfterCompare t.phase) (sym step.same)
          (session_closes_after_compare s step.heard c.closes);
    }

-- After a result, a byte counts as read back only if it did before or if the session read it back with this result.
result_adds_only_read_byte : (s mid : Session) (seen : Seen) (a : ℕ) (step : SessionRow s seen mid) → ReadByteFacts s a →
    WasReadInPhase mid.plan mid.phase a →
    WasReadInPhase s.plan s.phase a ⊎ PhaseReadsBack s.plan s.phase step.heard a
result_adds_only_read_byte s mid seen a step c h =
    let plan : mid.plan ≡ s.plan = ap (λ (t : Session). t.plan) step.same ∙ heard_phase_keeps_plan s s.phase step.heard in
    let here : WasReadInPhase s.plan mid.phase a = subst (λ (q : Plan). WasReadInPhase q mid.phase a) plan h in
    only_read_back s step.heard a c.apart c.has c.closes (subst (λ (t : Session). WasReadInPhase s.plan t.phase a) step.same here)

longer_run_reads_byte_too : (s mid s' : Session) (seen : Seen) (more : List Seen) (a : ℕ) → SessionRow s seen mid
    → IsReadInRun mid more s' a →
    IsReadInRun s (seen ∷ more) s' a
longer_run_reads_byte_too s mid s' seen more a step r = record {
  before = seen ∷ r.before;
  answer = r.answer;
  behind = r.behind;
  at = r.at;
  next = r.next;
  cut = ap (λ (xs : List Seen). seen ∷ xs) r.cut;
  reached = sees step r.reached;
  row = r.row;
  reads = r.reads;
  rest = r.rest;
}

counted_byte_is_read_in_run : (s s' : Session) (seens : List Seen) (a : ℕ) → SessionRows s seens s' → ReadByteFacts s a →
    WasReadInPhase s'.plan s'.phase a →
    WasReadInPhase s.plan s.phase a ⊎ IsReadInRun s seens s' a
counted_byte_is_read_in_run s s' [] a seen_all c h = inl h
counted_byte_is_read_in_run s s' (seen ∷ more) a (sees {mid = mid} step rows) c h =
    elim (counted_byte_is_read_in_run mid s' more a rows (read_facts_after_row s mid seen a step c) h) [
      | inl w ↦ elim (result_adds_only_read_byte s mid seen a step c w) [
        | inl k ↦ inl k
        | inr k ↦ inr (record {
          before = [];
          answer = seen;
          behind = more;
          at = s;
          next = mid;
          cut = refl;
          reached = seen_all;
          row = step;
          reads = k;
          rest = rows;
        })
      ]
      | inr w ↦ inr (longer_run_reads_byte_too s mid s' seen more a step w)
    ]

-- A session that ends as Verified has read back every byte of its image, if the elements ascend and don't overlap.
pub verified_session_read_each_byte : VerifiedReadEachByte
verified_session_read_each_byte plan limits seens s' leaving a apart rows over b =
    let counts : ReadByteFacts (initial_dfuse_session plan limits) a = record { apart = apart; has = b; closes = tt } in
    let end : WasReadInPhase s'.plan s'.phase a = subst (λ (p : Phase). WasReadInPhase s'.plan p a) (sym over) tt in
    elim (counted_byte_is_read_in_run (initial_dfuse_session plan limits) s' seens a rows counts end) [ inl w ↦ absurd w | inr w ↦ w ]
