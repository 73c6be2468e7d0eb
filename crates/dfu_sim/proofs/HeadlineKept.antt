-- The headline holds after each event, because session machines follow each event.
use Rattle.std.proofs.Common.{◌≡◌, ◌⊎◌, inl, inr, ℕ, List, [], ◌∷◌, ◌++◌, map, take, Option, Result, Ok, Err, refl, sym, ◌∙◌, subst}
use Rattle.std.proofs.lemmas.List.{take-map}
use Rattle.dfu_device.specs.Stage.{Stage, InAppIdle, InManifestSync, InManifest}
use Rattle.dfu_host.specs.Phases.{Goal, FetchGoal}
use Rattle.dfu_host.specs.declared.report.Report.{Report}
use Rattle.dfu_sim.specs.declared.event.Event.{Event}
use Rattle.dfu_sim.specs.declared.event.Event.TheVariants.{Abort}
use Rattle.dfu_sim.specs.declared.fault.LinkFault.{LinkFault}
use Rattle.dfu_sim.specs.Session.{Machine, LoadingPayload, IsOneOf, IsInPlaceReport}
use Rattle.dfu_sim.specs.Agreement.{AgreesOn, intake_of_stage, live_session_of, live_session_of_goal, IsClosedOffer}
use Rattle.dfu_sim.specs.LinkView.{Session, NoLiveSession, HostSession, LinkView, WorldView}
use Rattle.dfu_sim.specs.Happening.{Happening, happening}
use Rattle.dfu_sim.specs.Following.{MachineFollows, AllMachinesFollow}
use Rattle.dfu_sim.specs.Headline.{SessionBeginning, BeginningWithOffer, BeginningAsUpload, sessions_now, WasOffered, IsLastPayload, IsWaiting, IsGoalPayload, IsLivePayload, HeadlineInvariant, StepPreservesHeadline, no_event, one_event, EventsPreserveHeadline, HeadlineAtStart}
use Rattle.dfu_sim.specs.SessionStarts.{sessions_after_event}
use Rattle.dfu_sim.proofs.Offered.{MachineHasPastOffers, event_keeps_past_offers, reported_image_is_last_payload}
use Rattle.dfu_sim.proofs.AgreeingMachines.{closed_bytes_in, goal_payload_in, live_payload_in, closed_bytes_are_offer, live_payload_is_offer, machine_from_parts}
use Rattle.dfu_sim.proofs.Chains.{EventChain, empty_chain, one_more}

-- Lemmas about lists of offers.

-- An element of two lists joined is an element of one of them.
joined_offer_is_in_either_list : (a b : List (List ℕ)) (x : List ℕ) → IsOneOf x (a ++ b) → IsOneOf x a ⊎ IsOneOf x b
joined_offer_is_in_either_list [] b x one = inr one
joined_offer_is_in_either_list (y ∷ a) b x one = elim one [
  | inl e ↦ inl (inl e)
  | inr more ↦ elim (joined_offer_is_in_either_list a b x more) [
    | inl left ↦ inl (inr left)
    | inr right ↦ inr right
  ]
]

-- A list of one element contains no other element.
single_list_has_one_offer : (x y : List ℕ) → IsOneOf x (y ∷ []) → x ≡ y
single_list_has_one_offer x y (inl e) = e
single_list_has_one_offer x y (inr none) = absurd none

-- The payload of the last session was offered.
last_payload_was_offered : (past : List SessionBeginning) (x : List ℕ) → IsLastPayload past x → WasOffered past x
last_payload_was_offered [] x last = last
last_payload_was_offered (BeginningWithOffer file ∷ past) x last = inl last
last_payload_was_offered (BeginningAsUpload ∷ past) x last = absurd last

-- Lemmas about the payloads of a device's stage and of a session, as lists of offers.

-- The closed bytes of a stage are an image that waits to be put in place.
closed_bytes_are_waiting : (stage : Stage) (x : List ℕ) → IsOneOf x (closed_bytes_in stage) → IsWaiting stage x
closed_bytes_are_waiting (InManifestSync taken) x one = single_list_has_one_offer x taken one
closed_bytes_are_waiting (InManifest taken passed) x one = single_list_has_one_offer x taken one
closed_bytes_are_waiting stage x one = absurd one

-- If the closed bytes of a stage are an offer, an image that waits in that stage is one of the offers.
pub waiting_image_is_offer : (stage : Stage) (offers : List (List ℕ)) (x : List ℕ) → IsClosedOffer offers (intake_of_stage stage) →
    IsWaiting stage x
    → IsOneOf x offers
waiting_image_is_offer (InManifestSync taken) offers x one is = subst (λ (y : List ℕ). IsOneOf y offers) (sym is) one
waiting_image_is_offer (InManifest taken passed) offers x one is = subst (λ (y : List ℕ). IsOneOf y offers) (sym is) one
waiting_image_is_offer stage offers x one is = absurd is

-- An element of `goal_payload_in` is the goal's payload.
goal_offer_is_payload : (goal : Goal) (x : List ℕ) → IsOneOf x (goal_payload_in goal) → IsGoalPayload goal x
goal_offer_is_payload FetchGoal x one = one
goal_offer_is_payload goal x one = single_list_has_one_offer x _ one

-- An element of `live_payload_in` is the session's live payload.
session_offer_is_live_payload : (session : Session) (x : List ℕ) → IsOneOf x (live_payload_in session) → IsLivePayload session x
session_offer_is_live_payload NoLiveSession x one = one
session_offer_is_live_payload (HostSession h) x one = goal_offer_is_payload h.task.goal x one

-- The payload that the session machine loads for a goal is the goal's payload.
loaded_goal_is_payload : (goal : Goal) (x : List ℕ) → live_session_of_goal goal ≡ LoadingPayload x → IsGoalPayload goal x
loaded_goal_is_payload FetchGoal x e = absurd cc
loaded_goal_is_payload goal x e = cc

-- The payload that the session machine loads for a session is the session's live payload.
loaded_session_is_live_payload : (session : Session) (x : List ℕ) → live_session_of session ≡ LoadingPayload x → IsLivePayload session x
loaded_session_is_live_payload NoLiveSession x e = absurd cc
loaded_session_is_live_payload (HostSession h) x e = loaded_goal_is_payload h.task.goal x e

-- The payload of a goal is the one that the session machine loads for it.
goal_payload_is_loaded : (goal : Goal) (x : List ℕ) → IsGoalPayload goal x → live_session_of_goal goal ≡ LoadingPayload x
goal_payload_is_loaded FetchGoal x is = absurd is
goal_payload_is_loaded goal x is = cc

-- If a payload belongs to a live session, the session machine loads that payload.
pub live_payload_is_loaded : (session : Session) (x : List ℕ) → IsLivePayload session x → live_session_of session ≡ LoadingPayload x
live_payload_is_loaded NoLiveSession x is = absurd is
live_payload_is_loaded (HostSession h) x is = goal_payload_is_loaded h.task.goal x is

-- Session machine of a link that satisfies the headline with this image.
abbrev machine_of_headline : WorldView → List ℕ → Machine
machine_of_headline w image = machine_from_parts image w.bench.device.stage w.bench.session w.up

-- While the headline holds, `machine_of_headline` agrees with the world.
headline_machine_agrees : {factory : List ℕ} {past : List SessionBeginning} {before : Option Report} {w : WorldView}
    (k : HeadlineInvariant factory past before w.bench) → AgreesOn w.bench w.up (machine_of_headline w k.says.image)
headline_machine_agrees {w = w} k = record {
  active = k.says.active;
  pending = refl;
  live = refl;
  up_is = refl;
  sound = closed_bytes_are_offer w.bench.device.stage (live_payload_in w.bench.session);
  offered = live_payload_is_offer w.bench.session (closed_bytes_in w.bench.device.stage);
}

-- While the headline holds, the image of `machine_of_headline` is the factory image or was offered, and each of the machine's offers was
-- offered.
headline_machine_is_of_past : {factory : List ℕ} {past : List SessionBeginning} {before : Option Report} {w : WorldView}
    (k : HeadlineInvariant factory past before w.bench) → MachineHasPastOffers factory past (machine_of_headline w k.says.image)
headline_machine_is_of_past {past = past} {w = w} k = record {
  known = k.says.known;
  offers = λ x one. elim (joined_offer_is_in_either_list (closed_bytes_in w.bench.device.stage) (live_payload_in w.bench.session) x one) [
    | inl left ↦ k.kept.waiting x (closed_bytes_are_waiting w.bench.device.stage x left)
    | inr right ↦ last_payload_was_offered past x (k.kept.live x (session_offer_is_live_payload w.bench.session x right))
  ];
  live = λ x e. k.kept.live x (loaded_session_is_live_payload w.bench.session x e);
}

-- If a session machine agrees with the bench, its image, offers and live payload belong to the past sessions, and a report of Installed or
-- Verified is true, then the headline holds.
abbrev pub machine_has_headline : {factory : List ℕ} {past : List SessionBeginning} {report : Option Report} {b : LinkView} {up : List ℕ} {m
    : Machine}
    → AgreesOn b up m → MachineHasPastOffers factory past m → (IsInPlaceReport report → (b.device.stage ≡ InAppIdle)
    × IsLastPayload past m.cur)
    → HeadlineInvariant factory past report b
machine_has_headline {b = b} {m = m} agrees of_past in_place = record {
  says = record { image = m.cur; active = agrees.active; known = of_past.known; in_place = in_place };
  kept = record {
    waiting = λ x is. of_past.offers x (waiting_image_is_offer b.device.stage m.offers x agrees.sound is);
    live = λ x is. of_past.live x (agrees.live ∙ live_payload_is_loaded b.session x is);
  };
}

-- If a session machine with past offers follows an event, the headline holds after the event.
abbrev pub followed_event_gives_headline : {factory : List ℕ} {past : List SessionBeginning} {m : Machine} {w w' : WorldView}
    (h : Happening) {report : Option Report}
    → MachineHasPastOffers factory past m → MachineFollows w h w' report m →
    HeadlineInvariant factory (sessions_after_event h past) report w'.bench
followed_event_gives_headline h of_past f = machine_has_headline f.agrees (event_keeps_past_offers h of_past f) (λ e. (
  (f.in_place e).0,
  reported_image_is_last_payload h of_past f e,
))

-- If each agreeing session machine follows an event of the table of fates, the event preserves the headline.
pub event_keeps_headline : {factory : List ℕ} {past : List SessionBeginning} {before : Option Report} {w w' : WorldView}
    (h : Happening) {report : Option Report}
    → ((m : Machine) → AgreesOn w.bench w.up m → MachineFollows w h w' report m) → HeadlineInvariant factory past before w.bench
    → HeadlineInvariant factory (sessions_after_event h past) report w'.bench
event_keeps_headline {w = w} h follow k = followed_event_gives_headline h (headline_machine_is_of_past k) (follow (machine_of_headline w
    k.says.image) (headline_machine_agrees k))

-- Lemmas about the events of callers.

-- A caller's event and its event in the table of fates begin the same sessions.
event_begins_same_sessions : (event : Event) (past : List SessionBeginning) → sessions_after_event (happening event) past
    ≡ sessions_now event past
event_begins_same_sessions Abort past = refl
event_begins_same_sessions event past = refl

-- If each agreeing session machine follows a caller's event, the event preserves the headline.
followed_event_keeps_headline : {factory : List ℕ} {past : List SessionBeginning} {before : Option Report} {w w' : WorldView}
    (event : Event) {report : Option Report}
    → ((m : Machine) → AgreesOn w.bench w.up m → MachineFollows w (happening event) w' report m)
    → HeadlineInvariant factory past before w.bench
    → HeadlineInvariant factory (sessions_now event past) report w'.bench
followed_event_keeps_headline {factory = factory} {past = past} {w' = w'} event {report = report} follow k =
    subst (λ (sessions : List SessionBeginning). HeadlineInvariant factory sessions report w'.bench) (event_begins_same_sessions event past)
    (event_keeps_headline (happening event) follow k)

-- If each agreeing session machine follows a caller's event, the result of the event preserves the headline.
pub step_keeps_headline : (w w' : WorldView) (event : Event) (result : Result (Option Report) LinkFault)
    → AllMachinesFollow w (happening event) w' result
    → StepPreservesHeadline w event w' result
step_keeps_headline w w' event (Ok report) follow = λ factory past before k. followed_event_keeps_headline event follow k
step_keeps_headline w w' event (Err fault) follow = follow

-- A chain of events preserves the headline.
pub chain_keeps_headline : {w w' : WorldView} {reports : List Report} (events : List Event) → EventChain w (map happening events) reports w'
    → EventsPreserveHeadline w events reports w'
chain_keeps_headline [] empty_chain factory past before k = no_event
chain_keeps_headline (event ∷ events) (one_more {report = report} s more) factory past before k =
    let next = followed_event_keeps_headline event s.legal k in
    one_event next (chain_keeps_headline events more factory (sessions_now event past) report next)

-- A run that stopped preserves the headline through the events before the stop.
pub stopped_run_keeps_headline : {w w' : WorldView} {reports : List Report} (n : ℕ) (events : List Event)
    → EventChain w (take n (map happening events)) reports w' → EventsPreserveHeadline w (take n events) reports w'
stopped_run_keeps_headline {w = w} {w' = w'} {reports = reports} n events chain =
    chain_keeps_headline (take n events) (subst (λ (hs : List Happening). EventChain w hs reports w') (take-map happening n events) chain)

-- The headline holds at the start, if no session is live and no image waits to be put in place.
pub headline_at_start : HeadlineAtStart
headline_at_start b factory active none still = record {
  says = record { image = factory; active = active; known = inl refl; in_place = λ e. absurd e };
  kept = record {
    waiting = λ x is. absurd (still x is);
    live = λ x is. absurd (subst (λ (s : Session). IsLivePayload s x) none is);
  };
}
