-- Sequences of passes of a session, for each budget.
use Rattle.std.proofs.Common.{◌≡◌, ℕ, suc, ◌+◌, Bool, List, refl, ap, ◌∙◌, subst, arith}
use Rattle.dfu_device.specs.Stage.{Profile, Stage}
use Rattle.dfu_device.specs.Outcome.{Luck, Works}
use Rattle.dfu_host.specs.Phases.{Goal, Phase, Over, OverUploaded, Heard}
use Rattle.dfu_host.specs.Table.{deed}
use Rattle.dfu_host.specs.Host.{HostState, IsLivePhase, phase_in_budget}
use Rattle.dfu_sim.specs.Happening.{Pass}
use Rattle.dfu_sim.specs.Delivery.{delivery_of}
use Rattle.dfu_sim.specs.LinkView.{HostSession}
use Rattle.dfu_sim.specs.Opening.{task_for}
use Rattle.dfu_sim.specs.Play.{Link, silent, HostOutcome, settled_session, host_outcome, heard_with_room, has_room, ActionResult, action_result}
use Rattle.dfu_sim.specs.CleanRun.{PassesTo, QuietPasses, here, there}

-- If j quiet passes are followed by k quiet passes, together they are j + k quiet passes.
pub quiet_passes_compose : {c : Profile} {a b d : Link} {j k : ℕ} → QuietPasses c a j b → QuietPasses c b k d → QuietPasses c a (j + k) d
quiet_passes_compose {c = c} {a = a} {d = d} {k = k} here q = subst (λ n. QuietPasses c a n d) (let e : k ≡ 0 + k = omega arith in e) q
quiet_passes_compose {c = c} {a = a} {d = d} {k = k} (there {n = j} e q) r =
    subst (λ n. QuietPasses c a n d) (let e : suc (j + k) ≡ suc j + k = omega arith in e) (there e (quiet_passes_compose q r))

module _ (c : Profile) (goal : Goal) (again : ℕ) where
  -- Host with the task for `goal`, in this phase, that may still perform `left` actions and survive `again` restarts.
  abbrev pub host_in_phase : Phase → ℕ → HostState
  host_in_phase phase left = record { task = task_for c goal; phase = phase; actions = left; restarts = again }

  -- Link of a device with this image, in this stage, and of `host_in_phase` with this phase and `left` actions.
  abbrev pub at : List ℕ → Stage → Phase → ℕ → Link
  at image stage phase left = record { device = record { image = image; stage = stage }; session = HostSession (host_in_phase phase left) }

  -- k quiet passes lead from one image, stage and phase to another, with any budget that leaves at least one action after these passes.
  pub record Leads (i : List ℕ) (s : Stage) (phase : Phase) (k : ℕ) (j : List ℕ) (t : Stage) (next : Phase) : Type 0 where
    pub by : (l : ℕ) → QuietPasses c (at i s phase (k + suc l)) k (at j t next (suc l))

  -- Zero passes lead from a phase to itself.
  pub none : {i : List ℕ} {s : Stage} {phase : Phase} → Leads i s phase 0 i s phase
  none {i = i} {s = s} {phase = phase} = record {
    by = λ l. let e : suc l ≡ 0 + suc l = omega arith in
        subst (λ z. QuietPasses c (at i s phase z) 0 (at i s phase (suc l))) e here;
  }

  -- One pass leads from a phase to the next one, if it does so with any number of actions left.
  pub one : {i j : List ℕ} {s t : Stage} {phase next : Phase}
      → ((l : ℕ) → PassesTo c (at i s phase (suc (suc l))) (at j t next (suc l)) silent) → Leads i s phase 1 j t next
  one {i = i} {j = j} {s = s} {t = t} {phase = phase} {next = next} f = record {
    by = λ l.
        let e : suc (suc l) ≡ 1 + suc l = omega arith in
        subst (λ z. QuietPasses c (at i s phase z) 1 (at j t next (suc l))) e (there (f l) here);
  }

  -- Outcome of a host that enters a phase with at least one action left: the session is live in that phase, or over if the phase is an end.
  abbrev pub comes_to : Phase → ℕ → HostOutcome
  comes_to phase l = let q = phase_in_budget (suc l) phase in settled_session (host_in_phase q (suc l)) q

  -- If a host enters a phase that is not an end, its session is live in that phase.
  host_comes_to_live_phase : (phase : Phase) (l : ℕ) → IsLivePhase phase
      → comes_to phase l ≡ record { session = HostSession (host_in_phase phase (suc l)); answer = silent }
  host_comes_to_live_phase (Over report) l on = elim on [ ]
  host_comes_to_live_phase (OverUploaded kept) l on = elim on [ ]
  host_comes_to_live_phase phase l on = refl

  -- If an action with the fate Pass changes the device and gives the host a result, and the host then enters a live phase, one pass leads
  -- to that phase.
  pub action_leads_to_phase : {i j : List ℕ} {s t : Stage} {phase next : Phase} (heard : Heard) (mid : Phase)
      → ((k : Luck) → action_result c (record { image = i; stage = s }) (deed (task_for c goal) phase) (delivery_of Pass) Works k
      ≡ record { device = record { image = j; stage = t }; heard = heard })
      → ((l : ℕ) (room : Bool) → host_outcome (host_in_phase phase (suc (suc l))) (heard_with_room heard (has_room phase room))
      ≡ comes_to mid l)
      → mid ≡ next → IsLivePhase next
      → Leads i s phase 1 j t next
  action_leads_to_phase {j = j} {t = t} {phase = phase} {next = next} heard mid e f g on = one (λ l k room.
      ap (λ (d : ActionResult). let q = host_outcome (host_in_phase phase (suc (suc l))) (heard_with_room d.heard (has_room phase room)) in
      record { link = record { device = d.device; session = q.session }; answer = q.answer }) (e k)
      ∙ ap (λ (q : HostOutcome). record {
        link = record { device = record { image = j; stage = t }; session = q.session };
        answer =
            q.answer;
      })
      (f l room ∙ ap (λ x. comes_to x l) g ∙ host_comes_to_live_phase next l on))

-- If k passes lead to a phase, and n passes lead from there to a later phase, k + n passes lead to the later phase.
pub leading_passes_compose : {c : Profile} {goal : Goal} {again : ℕ} {i j m : List ℕ} {s t u : Stage} {a b d : Phase} {k n : ℕ}
    → Leads c goal again i s a k j t b → Leads c goal again j t b n m u d → Leads c goal again i s a (k + n) m u d
leading_passes_compose {c = c} {goal = goal} {again = again} {i = i} {j = j} {m = m} {s = s} {t = t} {u = u} {a = a} {b = b} {d = d} {k = k}
    {n =
    n} x y =
    record {
      by = λ l.
          let from = at c goal again i s a in
          let mid = at c goal again j t b in
          let end = at c goal again m u d (suc l) in
          let e : n + suc l ≡ suc (n + l) = omega arith in
          let f : k + suc (n + l) ≡ k + n + suc l = omega arith in
          let q : QuietPasses c (from (k + suc (n + l))) k (mid (suc (n + l))) = x.by (n + l) in
          let r = y.by l in
          subst (λ z. QuietPasses c (from z) (k + n) end) f (quiet_passes_compose q (subst (λ z. QuietPasses c (mid z) n end) e r));
    }
