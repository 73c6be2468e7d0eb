-- The payloads of a session machine were offered in the sessions that have begun.
use Rattle.std.proofs.Common.{◌≡◌, ◌⊎◌, inl, inr, ℕ, Bool, List, [], ◌∷◌, ◌++◌, Option, sym, ◌∙◌, subst}
use Rattle.dfu_host.specs.declared.report.Report.{Report}
use Rattle.dfu_sim.specs.Session.{Machine, LoadingPayload, IsOneOf, ReportStep, reports_nothing, Kind, OfferKind, UploadKind, IsInPlaceReport, MachineStep, offered, uploads, restarts, refuses, goes, stops, and_then, report_list}
use Rattle.dfu_sim.specs.Simulation.{offers_after}
use Rattle.dfu_sim.specs.LinkView.{WorldView}
use Rattle.dfu_sim.specs.Happening.{Happening, Offers, Uploads}
use Rattle.dfu_sim.specs.Following.{EventHasKind, MachineFollows}
use Rattle.dfu_sim.specs.SessionStarts.{sessions_after_event}
use Rattle.dfu_sim.specs.Headline.{SessionBeginning, IsPayload, WasOffered, IsLastPayload}
use Rattle.dfu_sim.proofs.MachineReports.{taking_keeps_live_session, dropping_keeps_live_session, only_offered, in_place_step_had_live_payload}

-- Lemmas about the live payload after a step.

-- If a payload is live after a report, the payload was live before the report too.
live_payload_before_report : {tolerant : Bool} {m m' : Machine} {report : Option Report} (x : List ℕ) → ReportStep tolerant m report m' →
    m'.live ≡ LoadingPayload x
    → m.live ≡ LoadingPayload x
live_payload_before_report x reports_nothing e = e
live_payload_before_report x s e = absurd cc

-- The payload may be live after an event of this kind: after an offer only the offer's payload, after the start of an upload none, and
-- after any other event only the payload that was live before.
abbrev IsLivePayloadBy : Kind → Machine → List ℕ → Type 0
IsLivePayloadBy (OfferKind payload) m x = payload ≡ x
IsLivePayloadBy UploadKind m x = ⊥
IsLivePayloadBy kind m x = m.live ≡ LoadingPayload x

-- If a payload is live after a step, the event of the step offered it, or it was live before.
live_payload_was_offered_or_live : {tolerant : Bool} {t : ℕ} {kind : Kind} {m m' : Machine} {report : Option Report} (x : List ℕ)
    → MachineStep tolerant t kind m report m' → m'.live ≡ LoadingPayload x → IsLivePayloadBy kind m x
live_payload_was_offered_or_live x (offered none) e = cc
live_payload_was_offered_or_live x (uploads none) e = absurd cc
live_payload_was_offered_or_live x (restarts s plain) e = live_payload_before_report x s e
live_payload_was_offered_or_live x (refuses d) e = sym (dropping_keeps_live_session d) ∙ e
live_payload_was_offered_or_live x (goes b d s) e = sym (dropping_keeps_live_session d ∙ taking_keeps_live_session b)
    ∙ live_payload_before_report x s e
live_payload_was_offered_or_live x s e = e

-- If a step reports Installed or Verified, the event of the step offered the active image, or that image was the live payload before.
in_place_image_was_offered : {tolerant : Bool} {t : ℕ} {kind : Kind} {m m' : Machine} {report : Option Report} →
    MachineStep tolerant t kind m report m'
    → IsInPlaceReport report → IsLivePayloadBy kind m m'.cur
in_place_image_was_offered {tolerant = tolerant} {t = t} {m = m} (restarts s plain) e =
    in_place_step_had_live_payload {tolerant = tolerant} {t = t} (restarts {m = m} s plain) e
in_place_image_was_offered {tolerant = tolerant} {t = t} (goes b d s) e = in_place_step_had_live_payload {tolerant = tolerant} {t = t} (goes
    b d s) e
in_place_image_was_offered s e = elim e [ ]

-- Lemmas about the offers of the past sessions.

-- The machine's image is the factory image or was offered, each of its offers was offered, and its live payload is the last session's
-- payload.
pub record MachineHasPastOffers (factory : List ℕ) (past : List SessionBeginning) (m : Machine) : Type 0 where
  pub known : (m.cur ≡ factory) ⊎ WasOffered past m.cur
  pub offers : (x : List ℕ) → IsOneOf x m.offers → WasOffered past x
  pub live : (x : List ℕ) → m.live ≡ LoadingPayload x → IsLastPayload past x

-- A payload that was offered before an event is still among the offered payloads after the event.
past_offer_stays : (h : Happening) (past : List SessionBeginning) (x : List ℕ) → WasOffered past x →
    WasOffered (sessions_after_event h past) x
past_offer_stays (Offers purpose file limits) past x was = inr was
past_offer_stays h past x was = was

-- Each offer of the machine after an event was offered by the event or before it.
event_offers_were_offered : (h : Happening) (kind : Kind) (past : List SessionBeginning) (offers : List (List ℕ)) (x : List ℕ)
    → EventHasKind h kind
    → ((y : List ℕ) → IsOneOf y offers → WasOffered past y) → IsOneOf x (offers_after (kind ∷ []) offers)
    → WasOffered (sessions_after_event h past) x
event_offers_were_offered (Offers purpose file limits) kind past offers x is all one =
    let new : IsOneOf x (is.0 ∷ offers) = subst (λ (k : Kind). IsOneOf x (offers_after (k ∷ []) offers)) is.5 one in
    elim new [
      | inl e ↦ inl (subst (λ (y : List ℕ). IsPayload y file) (sym e) (is.1, is.2, is.3, is.4))
      | inr old ↦ inr (all x old)
    ]
event_offers_were_offered h kind past offers x is all one = all x (subst (λ (k : Kind). IsOneOf x (offers_after (k ∷ []) offers)) is one)

-- If the live payload before an event is the last session's, the live payload after it is the last session's too.
live_payload_is_last_offer : (h : Happening) (kind : Kind) (past : List SessionBeginning) (m : Machine) (x : List ℕ) → EventHasKind h kind
    → ((y : List ℕ) → m.live ≡ LoadingPayload y → IsLastPayload past y) → IsLivePayloadBy kind m x →
    IsLastPayload (sessions_after_event h past) x
live_payload_is_last_offer (Offers purpose file limits) kind past m x is all by =
    let same : is.0 ≡ x = subst (λ (k : Kind). IsLivePayloadBy k m x) is.5 by in
    subst (λ (y : List ℕ). IsPayload y file) same (is.1, is.2, is.3, is.4)
live_payload_is_last_offer (Uploads limits) kind past m x is all by = absurd (subst (λ (k : Kind). IsLivePayloadBy k m x) is by)
live_payload_is_last_offer h kind past m x is all by = all x (subst (λ (k : Kind). IsLivePayloadBy k m x) is by)

-- After an event that the machine follows, the machine's image, offers and live payload are those of the sessions that have begun.
pub event_keeps_past_offers : {factory : List ℕ} {past : List SessionBeginning} {m : Machine} {w w' : WorldView}
    (h : Happening) {report : Option Report}
    → MachineHasPastOffers factory past m → (f : MachineFollows w h w' report m) →
    MachineHasPastOffers factory (sessions_after_event h past) f.after
event_keeps_past_offers {factory = factory} {past = past} {m = m} {w = w} h {report = report} of_past f =
    let s = w.bench.device.config.functional in
    let one = only_offered s.tolerant s.transfer m f.after (f.kind ∷ []) (report_list report ++ []) (and_then f.step stops) in
    record {
      known = elim one.1 [
        | inr new ↦ inr (event_offers_were_offered h f.kind past m.offers f.after.cur f.is of_past.offers new)
        | inl stayed ↦ elim of_past.known [
          | inl first ↦ inl (stayed ∙ first)
          | inr old ↦ inr (subst (λ (x : List ℕ). WasOffered (sessions_after_event h past) x) (sym stayed) (past_offer_stays h past m.cur
              old))
        ]
      ];
      offers = λ x one_of. event_offers_were_offered h f.kind past m.offers x f.is of_past.offers
          (subst (λ (offers : List (List ℕ)). IsOneOf x offers) one.0 one_of);
      live = λ x e. live_payload_is_last_offer h f.kind past m x f.is of_past.live (live_payload_was_offered_or_live x f.step e);
    }

-- If an event that the machine follows reports Installed or Verified, the machine's image is the payload of the last session.
pub reported_image_is_last_payload : {factory : List ℕ} {past : List SessionBeginning} {m : Machine} {w w' : WorldView}
    (h : Happening) {report : Option Report}
    → MachineHasPastOffers factory past m → (f : MachineFollows w h w' report m) → IsInPlaceReport report
    → IsLastPayload (sessions_after_event h past) f.after.cur
reported_image_is_last_payload {past = past} {m = m} h of_past f e = live_payload_is_last_offer h f.kind past m f.after.cur f.is
    of_past.live (in_place_image_was_offered f.step e)
