-- A run step by step, with the clauses of each step.
use Rattle.std.proofs.Common.{◌≡◌, ◌⊎◌, inl, inr, ℕ, ◌+◌, ◌<◌, ◌≤◌, List, [], ◌∷◌, ◌++◌, length, take, map, get_or, Option, Result, Ok, Err, refl, sym, ap, ◌∙◌, subst, arith, append_assoc}
use Rattle.std.proofs.lemmas.List.{append-nil, take_all, take-map, map_more, drop-map, drop_more, length-map}
use Rattle.dfu_slots.specs.Medium.{MediumState}
use Rattle.dfu_slots.specs.Image.{Active}
use Rattle.dfu_device.specs.Stage.{Profile}
use Rattle.dfu_device.specs.DeviceView.{DeviceView, profile_of, profile}
use Rattle.dfu_host.specs.declared.report.Report.{Report}
use Rattle.dfu_sim.specs.declared.event.Event.{Event as GivenEvent}
use Rattle.dfu_sim.specs.declared.fault.LinkFault.{LinkFault}
use Rattle.dfu_sim.specs.declared.fault.LinkFault.TheVariants as fault
use Rattle.dfu_sim.specs.Session.{Machine, IsOneOf, Kind, Legal, stops, and_then, report_list}
use Rattle.dfu_sim.specs.Play.{Answered, uploaded_after}
use Rattle.dfu_sim.specs.Agreement.{AgreesOn}
use Rattle.dfu_sim.proofs.MachineReports.{only_offered}
use Rattle.dfu_sim.specs.LinkView.{LinkView, WorldView, world_of_bench}
use Rattle.dfu_sim.specs.UploadResults.{UploadOrUnchanged}
use Rattle.dfu_sim.specs.Happening.{Happening, Resets, happening}
use Rattle.dfu_sim.specs.Refusing.{IsRefused}
use Rattle.dfu_sim.specs.EventResults.{EventResult, refuses, happens, report_of_result, upload_of_result, WorldEventResult}
use Rattle.dfu_sim.specs.Following.{MachineFollows}
use Rattle.dfu_sim.specs.Sure.{HasSameSetting, EventFollowsTable}
use Rattle.dfu_sim.specs.Running.{EventsRun, rests, comes, happenings, StopsWithFault, RunStopsAt}
use Rattle.dfu_sim.specs.FollowingRun.{EventsHaveKinds, IsFollowedRun}

-- An event was applied by `World::step` and not refused. Its report and the clauses of `step` are known.
pub record EventCame (w : WorldView) (h : Happening) (w' : WorldView) (report : Option Report) : Type 0 where
  pub play : WorldEventResult w h w' (Ok report)
  pub legal : (m : Machine) → AgreesOn w.bench w.up m → MachineFollows w h w' report m
  pub sure : EventFollowsTable w.bench h w'.bench report
  pub gives : UploadOrUnchanged w w' (Ok report)

-- Events that were applied in order and not refused, with their reports.
pub data EventChain : WorldView → List Happening → List Report → WorldView → Type 0 where
  empty_chain : {b : WorldView} → EventChain b [] [] b
  one_more : {b mid b' : WorldView} {h : Happening} {hs : List Happening} {report : Option Report} {reports : List Report}
      → EventCame b h mid report → EventChain mid hs reports b' → EventChain b (h ∷ hs) (report_list report ++ reports) b'

-- A chain with one more event that was not refused is a chain.
pub event_extends_chain : {b mid b' : WorldView} {hs : List Happening} {reports : List Report} {h : Happening} {report : Option Report}
    → EventChain b hs reports mid → EventCame mid h b' report → EventChain b (hs ++ h ∷ []) (reports ++ report_list report) b'
event_extends_chain {b = b} {b' = b'} {h = h} {report = report} empty_chain s =
    subst (λ (rs : List Report). EventChain b (h ∷ []) rs b') (append-nil (report_list report)) (one_more s empty_chain)
event_extends_chain {b = b} {b' = b'} {h = h} {report = report} (one_more {h = g} {hs = hs} {report = first} {reports = reports} t more) s =
    subst (λ (rs : List Report). EventChain b (g ∷ (hs ++ h ∷ [])) rs b') (sym (append_assoc (report_list first) reports (report_list
    report)))
    (one_more t (event_extends_chain more s))

-- A chain of events is a run.
pub chain_is_run : {b b' : WorldView} {hs : List Happening} {reports : List Report} → EventChain b hs reports b' → EventsRun b hs reports b'
chain_is_run empty_chain = rests
chain_is_run (one_more s more) = comes s.play s.gives (chain_is_run more)

-- Devices with the same setting and room have the same profile.
pub same_setting_has_same_profile : (w w' : DeviceView) → HasSameSetting w w' → profile w' ≡ profile w
same_setting_has_same_profile w w' same = λ k. profile_of (same.config k) (same.room k)

-- If a machine's image is active before a legal run, the image after the run was active before the run too, or is one of the machine's
-- offers after the run.
run_image_is_kept_or_offered : (before : MediumState) (c : Profile) (m after : Machine) (kinds : List Kind) (reports : List Report) →
    Active before m.cur
    → Legal c.tolerant c.transfer m kinds reports after
    → Active before after.cur ⊎ IsOneOf after.cur after.offers
run_image_is_kept_or_offered before c m after kinds reports active legal = elim ((only_offered c.tolerant c.transfer m after kinds reports
    legal).1) [
      | inl same ↦ inl (subst (λ (image : List ℕ). Active before image) (sym same) active)
      | inr one ↦ inr (subst (λ (offers : List (List ℕ)). IsOneOf after.cur offers)
          (sym (only_offered c.tolerant c.transfer m after kinds reports legal).0) one)
    ]

-- If a machine makes a legal run along a chain of events, it follows the run of the chain.
machine_follows_chain : {b b' : WorldView} {hs : List Happening} {reports : List Report} (m : Machine) (kinds : List Kind) (after : Machine)
    → AgreesOn b.bench b.up m → EventsHaveKinds hs kinds
    → Legal (profile b.bench.device).tolerant (profile b.bench.device).transfer m kinds reports after → AgreesOn b'.bench b'.up after
    → IsFollowedRun b hs reports b' m
machine_follows_chain {b = b} {reports = reports} m kinds after a are legal d = record {
  kinds = kinds;
  are = are;
  after = after;
  legal = legal;
  agrees = d;
  active = run_image_is_kept_or_offered b.bench.device.slots.medium (profile b.bench.device) m after kinds reports a.active legal;
}

-- Each machine that agrees with the first link of a chain makes a legal run that follows the chain.
pub chain_is_followed_run : {b b' : WorldView} {hs : List Happening} {reports : List Report} → EventChain b hs reports b' → (m : Machine)
    → AgreesOn b.bench b.up m → IsFollowedRun b hs reports b' m
chain_is_followed_run empty_chain m agrees = machine_follows_chain m [] m agrees tt stops agrees
chain_is_followed_run {b = b} (one_more {mid = mid} {hs = hs} {reports = reports} s more) m agrees =
    let f = s.legal m agrees in
    let rest = chain_is_followed_run more f.after f.agrees in
    let e : profile mid.bench.device ≡ profile b.bench.device = same_setting_has_same_profile b.bench.device mid.bench.device s.sure.kept in
    machine_follows_chain m (f.kind ∷ rest.kinds) rest.after agrees (f.is, rest.are)
    (and_then f.step (subst (λ (c : Profile). Legal c.tolerant c.transfer f.after rest.kinds reports rest.after) e rest.legal)) rest.agrees

-- Lemmas about refused events.

-- If the caller of an event gets a fault, the event changed nothing, and it is refused with that fault.
refused_result_is_fault : {b b' : LinkView} {h : Happening} {answer : Result Answered LinkFault} (up : List ℕ) (why : LinkFault)
    → EventResult b h b' answer
    → ◌≡◌ {A = Result (Option Report) LinkFault} (Err why) (report_of_result answer)
    → (world_of_bench b' (uploaded_after (upload_of_result answer) up) ≡ world_of_bench b up) × IsRefused b h why
refused_result_is_fault {b = b} {h = h} up why (refuses {fault = f} x) e = let same : f ≡ why = cc in
    (refl, subst (λ (y : LinkFault). IsRefused b h y) same x)
refused_result_is_fault up why (happens means play) e = absurd cc

-- A refused event changes nothing, and the condition of its fault holds.
pub refused_event_changes_nothing : {b b' : WorldView} {h : Happening} {why : LinkFault} → WorldEventResult b h b' (Err why)
    → (b' ≡ b) × IsRefused b.bench h why
refused_event_changes_nothing {b = b} {b' = b'} {why = why} x =
    let r = refused_result_is_fault b.up why x.comes x.told in
    (ap (λ (up : List ℕ). world_of_bench b'.bench up) x.up_is ∙ r.0, r.1)

-- A run may stop before an event that is refused, with the fault of the refusal.
pub refusal_stops_run : (b : LinkView) (next : Happening) (why : LinkFault) → IsRefused b next why → StopsWithFault b next why
refusal_stops_run b next fault.NoMemory h = tt
refusal_stops_run b next why h = h

-- Lemmas about runs of the first events of a list.

-- The first n events were applied in order, and none was refused.
abbrev pub FirstEventsRan : WorldView → List GivenEvent → (n : ℕ) → List Report → WorldView → Type 0
FirstEventsRan b events n reports mid = EventChain b (take n (happenings events)) reports mid

-- If the first n events ran and the next one is not refused, the first n + 1 events ran.
pub next_event_extends_run : {b mid b' : WorldView} {reports : List Report} {report : Option Report} (events : List GivenEvent) (n : ℕ) (d :
    GivenEvent)
    → n < length events → FirstEventsRan b events n reports mid
    → EventCame mid (happening (get_or events n d)) b' report → FirstEventsRan b events (n + 1) (reports ++ report_list report) b'
next_event_extends_run {b = b} {b' = b'} {reports = reports} {report = report} events n d h chain s =
    let next : take (n + 1) (happenings events) ≡ take n (happenings events) ++ happening (get_or events n d) ∷ [] =
    take-map happening (n + 1) events ∙ map_more happening events n d h
    ∙ ap (λ (hs : List Happening). hs ++ happening (get_or events n d) ∷ []) (sym (take-map happening n events)) in
    subst (λ (hs : List Happening). EventChain b hs (reports ++ report_list report) b') (sym next) (event_extends_chain chain s)

-- A run stopped before the event with index `at` with the fault `why`, after a chain of the events before it.
pub record Stopped (b : WorldView) (hs : List Happening) (why : LinkFault) (at : ℕ) (reports : List Report) (b' : WorldView) : Type 0 where
  pub runs : RunStopsAt b hs why at reports b'
  pub chain : EventChain b (take at hs) reports b'

-- If the first n events ran and there is no memory for the report of event n, the run stopped before event n with NoMemory.
pub run_stops_without_memory : {b mid : WorldView} {reports : List Report} (events : List GivenEvent) (n : ℕ) → n < length events
    → FirstEventsRan b events n reports mid → Stopped b (happenings events) fault.NoMemory n reports mid
run_stops_without_memory events n h chain =
    let here = drop_more (happenings events) n Resets (omega (arith, h, length-map events happening)) in
    record { runs = record { next = _; more = _; here = here; before = chain_is_run chain; why = tt }; chain = chain }

-- If the first n events ran and the next one is refused, the run stopped before event n with the fault of the refusal.
pub run_stops_at_refusal : {b mid b' : WorldView} {reports : List Report} {why : LinkFault} (events : List GivenEvent) (n : ℕ) (d :
    GivenEvent)
    → n < length events → FirstEventsRan b events n reports mid
    → WorldEventResult mid (happening (get_or events n d)) b' (Err why) → Stopped b (happenings events) why n reports b'
run_stops_at_refusal {b = b} {mid = mid} {reports = reports} {why = why} events n d h chain x =
    let r = refused_event_changes_nothing x in
    subst (λ (z : WorldView). Stopped b (happenings events) why n reports z) (sym r.0) (record {
      runs = record {
        next = happening (get_or events n d);
        more = _;
        here = drop-map happening n events ∙ ap (map happening) (drop_more events n d h);
        before = chain_is_run chain;
        why = refusal_stops_run mid.bench (happening (get_or events n d)) why r.1;
      };
      chain = chain;
    })

-- If the first n events ran and the list has no more than n, all events of the list form a chain.
pub all_events_form_chain : {b b' : WorldView} {reports : List Report} (events : List GivenEvent) (n : ℕ) → length events ≤ n →
    FirstEventsRan b events n reports b'
    → EventChain b (happenings events) reports b'
all_events_form_chain {b = b} {b' = b'} {reports = reports} events n h chain =
    subst (λ (hs : List Happening). EventChain b hs reports b') (take_all n (happenings events) (omega (
      arith,
      h,
      length-map events
          happening,
    )))
    chain
