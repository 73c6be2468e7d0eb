-- Reports and installed images in the steps of the session machine.
use Rattle.std.proofs.Common.{◌≡◌, ◌⊎◌, ℕ, Bool, List, [], ◌∷◌, Option, Some, refl, sym, ap, ◌∙◌, subst, inl, inr}
use Rattle.dfu_host.specs.declared.report.Report.{Report}
use Rattle.dfu_host.specs.declared.report.Report.TheVariants.{Installed, Uploaded, Verified}
use Rattle.dfu_sim.specs.Session.{Machine, LoadingPayload, IsOneOf, TakesOrInstalls, takes_nothing, installs, MayDrop, drops_nothing, drops, ReportStep, reports_nothing, reports_installed, reports_verified, reports_uploaded, reports_no_promise, Kind, OfferKind, IsInPlaceReport, ReportsNoPromise, MachineStep, time_installs_pending, restarts, refuses, goes, stops, and_then}
use Rattle.dfu_sim.specs.Simulation.{offers_after, ActiveImageWasOffered}

-- Taking a block or installing a payload leaves the live session unchanged.
pub taking_keeps_live_session : {t : ℕ} {m m' : Machine} → TakesOrInstalls t m m' → m'.live ≡ m.live
taking_keeps_live_session takes_nothing = refl
taking_keeps_live_session b = refl

-- Dropping the pending bytes leaves the live session unchanged.
pub dropping_keeps_live_session : {m m' : Machine} → MayDrop m m' → m'.live ≡ m.live
dropping_keeps_live_session drops_nothing = refl
dropping_keeps_live_session drops = refl

-- A report that promises nothing is neither Installed nor Verified.
pub plain_report_is_not_in_place : (report : Option Report) → ReportsNoPromise report → IsInPlaceReport report → ⊥
plain_report_is_not_in_place (Some Installed) plain e = plain
plain_report_is_not_in_place (Some Verified) plain e = plain
plain_report_is_not_in_place report plain e = e

-- If Installed or Verified is reported, the active image is the payload that was live before the report.
reported_payload_was_live : {tolerant : Bool} {m m' : Machine} {report : Option Report} → ReportStep tolerant m report m' →
    IsInPlaceReport report
    → m.live ≡ LoadingPayload m'.cur
reported_payload_was_live (reports_installed live none tolerant) e = live
reported_payload_was_live (reports_verified live none) e = live
reported_payload_was_live (reports_no_promise {report = report} plain one) e = absurd (plain_report_is_not_in_place (Some report) plain e)
reported_payload_was_live s e = elim e [ ]

-- If a step reports Installed or Verified, the active image after it is the payload that was live before it.
pub in_place_step_had_live_payload : {tolerant : Bool} {t : ℕ} {kind : Kind} {m m' : Machine} {report : Option Report} →
    MachineStep tolerant t kind m report m'
    → IsInPlaceReport report → m.live ≡ LoadingPayload m'.cur
in_place_step_had_live_payload {report = report} (restarts s plain) e = absurd (plain_report_is_not_in_place report plain e)
in_place_step_had_live_payload (goes b d s) e = sym (dropping_keeps_live_session d ∙ taking_keeps_live_session b)
    ∙ reported_payload_was_live s e
in_place_step_had_live_payload s e = elim e [ ]

-- After a report of Uploaded the last upload is the active image.
uploaded_report_gives_image : {tolerant : Bool} {m m' : Machine} {report : Option Report} → ReportStep tolerant m report m' → report
    ≡ Some Uploaded →
    m'.up ≡ m'.cur
uploaded_report_gives_image (reports_uploaded live) e = refl
uploaded_report_gives_image (reports_no_promise plain one) e = absurd (subst ReportsNoPromise e plain)
uploaded_report_gives_image s e = absurd cc

-- After a step that reports Uploaded the last upload is the active image.
pub uploaded_step_gives_active_image : {tolerant : Bool} {t : ℕ} {kind : Kind} {m m' : Machine} {report : Option Report} →
    MachineStep tolerant t kind m report m'
    → report ≡ Some Uploaded → m'.up ≡ m'.cur
uploaded_step_gives_active_image (restarts s plain) e = absurd (subst ReportsNoPromise e plain)
uploaded_step_gives_active_image (goes b d s) e = uploaded_report_gives_image s e
uploaded_step_gives_active_image s e = absurd cc

-- The active image is unchanged, or becomes one of the offers.
abbrev ImageStaysOrIsOffer : List (List ℕ) → Machine → Machine → Type 0
ImageStaysOrIsOffer offers m m' = (m'.cur ≡ m.cur) ⊎ IsOneOf m'.cur offers

-- Taking a block or installing a payload does not change the offers, and the active image after it is the earlier one or an offer.
taking_keeps_offers : {t : ℕ} {m m' : Machine} → TakesOrInstalls t m m' → (m'.offers ≡ m.offers) × ImageStaysOrIsOffer m.offers m m'
taking_keeps_offers (installs some h) = (refl, inr h)
taking_keeps_offers b = (refl, inl refl)

-- Dropping the pending bytes changes neither the offers nor the image.
dropping_keeps_offers_and_image : {m m' : Machine} → MayDrop m m' → (m'.offers ≡ m.offers) × (m'.cur ≡ m.cur)
dropping_keeps_offers_and_image drops_nothing = (refl, refl)
dropping_keeps_offers_and_image drops = (refl, refl)

-- A report changes neither the offers nor the image.
report_keeps_offers_and_image : {tolerant : Bool} {m m' : Machine} {report : Option Report} → ReportStep tolerant m report m'
    → (m'.offers ≡ m.offers) × (m'.cur ≡ m.cur)
report_keeps_offers_and_image reports_nothing = (refl, refl)
report_keeps_offers_and_image s = (refl, refl)

-- Offers after an event of this kind; the payload of a new offer is the first.
abbrev offers_with_event : Kind → List (List ℕ) → List (List ℕ)
offers_with_event (OfferKind payload) offers = payload ∷ offers
offers_with_event kind offers = offers

-- If an image is the earlier one or an offer, each image equal to it is too.
equal_image_is_kept_or_offered : (offers : List (List ℕ)) (x y z : List ℕ) → (y ≡ x) ⊎ IsOneOf y offers → z ≡ y → (z ≡ x) ⊎ IsOneOf z offers
equal_image_is_kept_or_offered offers x y z (inl e) f = inl (f ∙ e)
equal_image_is_kept_or_offered offers x y z (inr h) f = inr (subst (λ w. IsOneOf w offers) (sym f) h)

-- A step adds at most the payload that its event offers, and the active image after it is the earlier one or an offer.
step_adds_at_most_its_offer : {tolerant : Bool} {t : ℕ} {kind : Kind} {m m' : Machine} {report : Option Report} →
    MachineStep tolerant t kind m report m'
    → (m'.offers ≡ offers_with_event kind m.offers) × ImageStaysOrIsOffer m.offers m m'
step_adds_at_most_its_offer (time_installs_pending some h) = (refl, inr h)
step_adds_at_most_its_offer (restarts s plain) = ((report_keeps_offers_and_image s).0, inl (report_keeps_offers_and_image s).1)
step_adds_at_most_its_offer (refuses d) = ((dropping_keeps_offers_and_image d).0, inl (dropping_keeps_offers_and_image d).1)
step_adds_at_most_its_offer {m = m} {m' = m'} (goes {m1 = m1} b d s) = (
  (report_keeps_offers_and_image s).0 ∙ (dropping_keeps_offers_and_image d).0 ∙ (taking_keeps_offers b).0,
  equal_image_is_kept_or_offered m.offers m.cur m1.cur m'.cur (taking_keeps_offers b).1
      ((report_keeps_offers_and_image s).1 ∙ (dropping_keeps_offers_and_image d).1),
)
step_adds_at_most_its_offer s = (refl, inl refl)

-- Each earlier offer is among the offers after an event.
offer_stays_after_event : (x : List ℕ) (kind : Kind) (offers : List (List ℕ)) → IsOneOf x offers →
    IsOneOf x (offers_with_event kind offers)
offer_stays_after_event x (OfferKind payload) offers h = inr h
offer_stays_after_event x kind offers h = h

-- The later events of a list add their offers to those after the first event.
offers_after_first_kind : (kind : Kind) (kinds : List Kind) (offers : List (List ℕ))
    → offers_after (kind ∷ kinds) offers ≡ offers_after kinds (offers_with_event kind offers)
offers_after_first_kind (OfferKind payload) kinds offers = refl
offers_after_first_kind kind kinds offers = refl

-- Each earlier offer is among the offers after a list of events.
offer_stays_after_events : (x : List ℕ) (kinds : List Kind) (offers : List (List ℕ)) → IsOneOf x offers →
    IsOneOf x (offers_after kinds offers)
offer_stays_after_events x [] offers h = h
offer_stays_after_events x (kind ∷ kinds) offers h = subst (IsOneOf x) (sym (offers_after_first_kind kind kinds offers))
    (offer_stays_after_events x kinds (offers_with_event kind offers) (offer_stays_after_event x kind offers h))

-- After a legal run the offers are those of its events and those from before the run, and the active image is unchanged or is one of these
-- offers.
pub only_offered : ActiveImageWasOffered
only_offered tolerant t m m' [] [] stops = (refl, inl refl)
only_offered tolerant t m m' [] (report ∷ reports) run = elim run [ ]
only_offered tolerant t m m' (kind ∷ kinds) reports (and_then {mid = mid} {reports = rest} step more) =
    let one = step_adds_at_most_its_offer step in
    let all : (m'.offers ≡ offers_after kinds mid.offers) × ImageStaysOrIsOffer (offers_after kinds mid.offers) mid m' = only_offered
    tolerant t mid m'
    kinds rest more in
    let same : offers_after kinds mid.offers ≡ offers_after (kind ∷ kinds) m.offers = ap (offers_after kinds) one.0
    ∙ sym (offers_after_first_kind kind kinds m.offers) in (
      all.0 ∙ same,
      elim (all.1) [
        | inl e ↦ elim (one.1) [
          | inl f ↦ inl (e ∙ f)
          | inr h ↦ inr (subst (λ z. IsOneOf z (offers_after (kind ∷ kinds) m.offers)) (sym e)
              (offer_stays_after_events mid.cur (kind ∷ kinds) m.offers h))
        ]
        | inr h ↦ inr (subst (IsOneOf m'.cur) same h)
      ],
    )
