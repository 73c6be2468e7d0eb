-- An event puts an image in place only if the image waited before.
use Rattle.std.proofs.Common.{◌≡◌, ◌⊎◌, inl, inr, ℕ, Bool, List, Option, None, refl, sym, ◌∙◌, subst}
use Rattle.dfu_device.specs.declared.objection.Objection.{Objection}
use Rattle.dfu_device.specs.Stage.{Request, Profile, Stage, InAppDetach}
use Rattle.dfu_device.specs.Table.{Plan, Sure, Writes, Commits, plan, time_plan, reset_stage}
use Rattle.dfu_device.specs.Outcome.{Situation, Luck, Works, FailsOld, FailsNew, plan_outcome, situation_after_ms, after_reset}
use Rattle.dfu_device.specs.Rows.{request_for_table}
use Rattle.dfu_host.specs.Phases.{Deed, Send, Wait, Reset, Done}
use Rattle.dfu_host.specs.Table.{deed}
use Rattle.dfu_sim.specs.declared.delivery.Handled.{Handled}
use Rattle.dfu_sim.specs.declared.delivery.Handled.TheVariants.{Unseen, Once, Again, Late}
use Rattle.dfu_sim.specs.declared.delivery.MediumFault.{MediumFault}
use Rattle.dfu_sim.specs.declared.delivery.MediumFault.TheVariants.{CutsPower}
use Rattle.dfu_sim.specs.Delivery.{Delivery, delivery_of}
use Rattle.dfu_sim.specs.Happening.{Fate, Happening, Offers, Uploads, Aborts, Goes, Passes, Resets, Cuts, Refuses}
use Rattle.dfu_sim.specs.LinkView.{Session, NoLiveSession, HostSession}
use Rattle.dfu_sim.specs.Play.{Link, Answered, PlayResult, plan_with_refusal, reached, situation_after_harm, situation_after_slip, wait_by_handling, action_result, next_action_result, play_of_event, Play}
use Rattle.dfu_sim.specs.Headline.{IsWaiting}
use Rattle.dfu_sim.specs.Accepting.{MayPlaceImage}
use Rattle.dfu_sim.proofs.Placing.{HasNoWaitingImage, IsDone, IsDnloadRequest, IsManifestSyncStage, done_stage_has_no_waiting_image, Leads, refused_plan_places_nothing, TimePlacesClosedImage, time_places_waiting, IsCalmPlan, calm_plan_of_done_stage, calm_time_plan_of_done_stage}

-- The image is unchanged; or the image that waited is in place, and no image waits after that.
abbrev pub Placed : Situation → Situation → Type 0
Placed s s' = (s'.image ≡ s.image) ⊎ (IsWaiting s.stage s'.image × HasNoWaitingImage s'.stage)

-- Effect of the first handling of a request. Either the image is unchanged, and only a DNLOAD can make an image wait; or the waiting image
-- is in place.
abbrev FirstOutcomePlaced : Request → Situation → Situation → Type 0
FirstOutcomePlaced r s s' = ((s'.image ≡ s.image) × ((t : List ℕ) → IsWaiting s'.stage t → IsWaiting s.stage t ⊎ (IsDnloadRequest r
    × IsManifestSyncStage s'.stage)))
    ⊎ (IsWaiting s.stage s'.image × IsDone s'.stage × (IsDnloadRequest r → ⊥))

-- If a plan puts only a waiting image in place, it has the effect of a first handling, for each luck of the medium.
plan_has_first_outcome : (s : Situation) (r : Request) (p : Plan) (luck : Luck) → Leads s.stage r p →
    FirstOutcomePlaced r s (plan_outcome s.image p luck).after
plan_has_first_outcome s r (Sure reply next) luck h = inl (refl, h)
plan_has_first_outcome s r (Writes before block reply next bad) Works h = inl (refl, λ t m. absurd (h t m))
plan_has_first_outcome s r (Writes before block reply next bad) (FailsOld fault) h = inl (refl, λ t m. absurd m)
plan_has_first_outcome s r (Writes before block reply next bad) (FailsNew fault) h = inl (refl, λ t m. absurd m)
plan_has_first_outcome s r (Commits taken reply next bad) Works h = inr h
plan_has_first_outcome s r (Commits taken reply next bad) (FailsOld fault) h = inl (refl, λ t m. absurd m)
plan_has_first_outcome s r (Commits taken reply next bad) (FailsNew fault) h = inr (h.0, tt, h.2)

-- Effect of passing time. Either the image is unchanged; or the waiting image is in place, the device is done, and it was not in
-- dfuMANIFEST-SYNC.
abbrev ImagePlacedByTime : Situation → Situation → Type 0
ImagePlacedByTime s s' = (s'.image ≡ s.image) ⊎ (IsWaiting s.stage s'.image × IsDone s'.stage × (IsManifestSyncStage s.stage → ⊥))

-- If a plan for passing time puts only a waiting image in place, it has the effect of passing time, for each luck of the medium.
time_has_outcome : (s : Situation) (p : Plan) (luck : Luck) → TimePlacesClosedImage s.stage p →
    ImagePlacedByTime s (plan_outcome s.image p luck).after
time_has_outcome s (Sure reply next) luck h = inl refl
time_has_outcome s (Writes before block reply next bad) Works h = inl refl
time_has_outcome s (Writes before block reply next bad) (FailsOld fault) h = inl refl
time_has_outcome s (Writes before block reply next bad) (FailsNew fault) h = inl refl
time_has_outcome s (Commits taken reply next bad) Works h = inr h
time_has_outcome s (Commits taken reply next bad) (FailsOld fault) h = inl refl
time_has_outcome s (Commits taken reply next bad) (FailsNew fault) h = inr (h.0, tt, h.2)

-- A calm plan does not change the image, and no image waits after it.
calm_plan_keeps_image : (image : List ℕ) (p : Plan) (luck : Luck) → IsCalmPlan p
    → ((plan_outcome image p luck).after.image ≡ image) × HasNoWaitingImage (plan_outcome image p luck).after.stage
calm_plan_keeps_image image (Sure reply next) luck h = (refl, h)
calm_plan_keeps_image image (Writes before block reply next bad) luck h = absurd h
calm_plan_keeps_image image (Commits taken reply next bad) luck h = absurd h

module _ (c : Profile) where
  -- Time that passes puts at most the waiting image in place.
  pub passing_time_places_waiting : (s : Situation) (ms : ℕ) (luck : Luck) → Placed s (situation_after_ms c s ms luck)
  passing_time_places_waiting s ms luck = elim (time_has_outcome s (time_plan c s.stage ms) luck (time_places_waiting c s.stage ms)) [
    | inl same ↦ inl same
    | inr placed ↦ inr (placed.0, done_stage_has_no_waiting_image _ placed.1)
  ]

  -- If the waiting image was put in place, a calm plan keeps that image, and no image waits after the plan.
  calm_plan_after_placing : (s s1 : Situation) (p : Plan) (luck : Luck) → IsWaiting s.stage s1.image → IsCalmPlan p
      → Placed s (plan_outcome s1.image p luck).after
  calm_plan_after_placing s s1 p luck waits h =
      let o = calm_plan_keeps_image s1.image p luck h in inr (subst (λ (x : List ℕ). IsWaiting s.stage x) (sym o.0) waits, o.1)

  -- A request that is handled a second time puts at most the waiting image in place.
  second_request_places_waiting : (s s1 : Situation) (r : Request) (luck : Luck) → FirstOutcomePlaced r s s1
      → Placed s (plan_outcome s1.image (plan c s1.image s1.stage r) luck).after
  second_request_places_waiting s s1 r luck (inr placed) =
      calm_plan_after_placing s s1 (plan c s1.image s1.stage r) luck placed.0 (calm_plan_of_done_stage c s1.image s1.stage r placed.1)
  second_request_places_waiting s s1 r luck (inl stays) =
      elim (plan_has_first_outcome s1 r (plan c s1.image s1.stage r) luck (refused_plan_places_nothing None c s1.image s1.stage r)) [
        | inl still ↦ inl (still.0 ∙ stays.0)
        | inr placed ↦ elim (stays.1 _ placed.0) [
          | inl waited ↦ inr (waited, done_stage_has_no_waiting_image _ placed.1)
          | inr closed ↦ absurd (placed.2 closed.0)
        ]
      ]

  -- Time that passes after a request puts at most the waiting image in place.
  later_time_places_waiting : (s s1 : Situation) (r : Request) (ms : ℕ) (luck : Luck) → FirstOutcomePlaced r s s1 →
      Placed s (situation_after_ms c s1 ms luck)
  later_time_places_waiting s s1 r ms luck (inr placed) = calm_plan_after_placing s s1 (time_plan c s1.stage ms) luck placed.0
      (calm_time_plan_of_done_stage c s1.stage ms placed.1)
  later_time_places_waiting s s1 r ms luck (inl stays) = elim (time_has_outcome s1 (time_plan c s1.stage ms) luck (time_places_waiting c
      s1.stage ms)) [
        | inl still ↦ inl (still ∙ stays.0)
        | inr placed ↦ elim (stays.1 _ placed.0) [
          | inl waited ↦ inr (waited, done_stage_has_no_waiting_image _ placed.1)
          | inr closed ↦ absurd (placed.2 closed.1)
        ]
      ]

  -- A request puts at most the waiting image in place, however often the device handles it.
  request_places_waiting : (s : Situation) (r : Request) (x : Option Objection) (how : Handled) (l k : Luck)
      → Placed s (reached c s r (plan_with_refusal x c s.image s.stage r) how l k).device
  request_places_waiting s r x Unseen l k = inl refl
  request_places_waiting s r x Once l k =
      elim (plan_has_first_outcome s r (plan_with_refusal x c s.image s.stage r) l (refused_plan_places_nothing x c s.image s.stage r)) [
        | inl stays ↦ inl stays.0
        | inr placed ↦ inr (placed.0, done_stage_has_no_waiting_image _ placed.1)
      ]
  request_places_waiting s r x Again l k =
      second_request_places_waiting s (plan_outcome s.image (plan_with_refusal x c s.image s.stage r) l).after r k
      (plan_has_first_outcome s r (plan_with_refusal x c s.image s.stage r) l (refused_plan_places_nothing x c s.image s.stage r))
  request_places_waiting s r x (Late ms) l k =
      later_time_places_waiting s (plan_outcome s.image (plan_with_refusal x c s.image s.stage r) l).after r ms k
      (plan_has_first_outcome s r (plan_with_refusal x c s.image s.stage r) l (refused_plan_places_nothing x c s.image s.stage r))

  -- If an action puts at most the waiting image in place, a cut of the power at its end puts no other image in place.
  power_cut_keeps_placed : (s s' : Situation) (harming : MediumFault) → Placed s s' → Placed s (situation_after_harm harming s')
  power_cut_keeps_placed s s' CutsPower (inl same) = inl same
  power_cut_keeps_placed s s' CutsPower (inr placed) = inr (placed.0, λ t m. m)
  power_cut_keeps_placed s s' harming placed = placed

  -- After a reset of the bus no image waits.
  no_image_waits_after_reset : (st : Stage) → HasNoWaitingImage (reset_stage st)
  no_image_waits_after_reset (InAppDetach timer passed) = λ t m. m
  no_image_waits_after_reset st = λ t m. m

  -- The time of a slip after a reset does not change the image.
  slipped_time_places_none : (s : Situation) (how : Handled) (l : Luck) → (situation_after_slip c (after_reset s) how l).image ≡ s.image
  slipped_time_places_none s (Late ms) l = elim (passing_time_places_waiting (after_reset s) ms l) [
    | inl same ↦ same
    | inr placed ↦ absurd (no_image_waits_after_reset s.stage _ placed.0)
  ]
  slipped_time_places_none s how l = refl

  -- An action of the host puts at most the waiting image in place.
  action_places_waiting : (s : Situation) (d : Deed) (delivery : Delivery) (l k : Luck) → Placed s (action_result c s d delivery l k).device
  action_places_waiting s (Send q body) delivery l k =
      power_cut_keeps_placed s _ delivery.harming (request_places_waiting s (request_for_table q body) delivery.refusing
      delivery.handling l k)
  action_places_waiting s (Wait ms) delivery l k = power_cut_keeps_placed s _ delivery.harming (passing_time_places_waiting s
      (wait_by_handling delivery.handling ms) l)
  action_places_waiting s Reset delivery l k = power_cut_keeps_placed s _ delivery.harming (inl (slipped_time_places_none s
      delivery.handling l))
  action_places_waiting s (Done report) delivery l k = inl refl

  -- The host's next action puts at most the waiting image in place.
  host_action_places_waiting : (w : Link) (session : Session) (fate : Fate) (l k : Luck) (room : Bool)
      → Placed w.device (next_action_result c w session fate l k room).link.device
  host_action_places_waiting w NoLiveSession fate l k room = inl refl
  host_action_places_waiting w (HostSession h) fate l k room = action_places_waiting w.device (deed h.task h.phase) (delivery_of fate) l k

  -- The image is unchanged after an event; or the event may put an image in place, the image that waited is in place, and no image waits
  -- after that.
  abbrev pub EventResult : Happening → Situation → Situation → Type 0
  EventResult h s s' = (s'.image ≡ s.image) ⊎ (MayPlaceImage h × IsWaiting s.stage s'.image × HasNoWaitingImage s'.stage)

  -- Each event of a play puts at most the waiting image in place.
  event_play_places_waiting : (w : Link) (h : Happening) (l k : Luck) (room : Bool) →
      EventResult h w.device (play_of_event c w h l k room).link.device
  event_play_places_waiting w (Goes fate harm) l k room = elim (host_action_places_waiting w w.session fate l k room) [
    | inl same ↦ inl same
    | inr placed ↦ inr (tt, placed.0, placed.1)
  ]
  event_play_places_waiting w (Passes ms) l k room = elim (passing_time_places_waiting w.device ms Works) [
    | inl same ↦ inl same
    | inr placed ↦ inr (tt, placed.0, placed.1)
  ]
  event_play_places_waiting w (Offers purpose payload limits) l k room = inl refl
  event_play_places_waiting w (Uploads limits) l k room = inl refl
  event_play_places_waiting w Aborts l k room = inl refl
  event_play_places_waiting w Resets l k room = inl refl
  event_play_places_waiting w Cuts l k room = inl refl
  event_play_places_waiting w (Refuses why) l k room = inl refl

  -- A play puts at most the waiting image in place.
  pub play_places_waiting : (w w' : Link) (h : Happening) (answer : Answered) → Play c w h w' answer → EventResult h w.device w'.device
  play_places_waiting w w' h answer p =
      subst (λ (x : PlayResult). EventResult h w.device x.link.device) p.same (event_play_places_waiting w h p.first p.second p.room)
