-- Each event has one meaning: it is refused with one fault, or it corresponds to one event of the table of fates.
use Rattle.std.proofs.Common.{◌≡◌, ℕ, List, Option, Some, None, refl, sym, ap, ◌∙◌, subst}
use Rattle.dfu_suffix.proofs.ForCallers.{grammar_file_is_faultless, one_reading}
use Rattle.dfu_host.specs.declared.fault.HostFault.{HostFault}
use Rattle.dfu_sim.specs.declared.offering.Purpose.{Purpose}
use Rattle.dfu_host.specs.Host.{HostState}
use Rattle.dfu_device.specs.Setting.{Setting}
use Rattle.dfu_sim.specs.declared.fault.LinkFault.TheVariants as fault
use Rattle.dfu_sim.specs.declared.fault.OfferFault.{OfferFault}
use Rattle.dfu_sim.specs.declared.fault.OfferFault.TheVariants as offer_fault
use Rattle.dfu_sim.specs.Play.{MayHappen}
use Rattle.dfu_sim.specs.LinkView.{Session, NoLiveSession, HostSession, IsLive}
use Rattle.dfu_sim.specs.Happening.{Happening, Offers, Uploads, Aborts, Goes}
use Rattle.dfu_sim.specs.Refusing.{first_offer_fault, IsOffered, IsBadOffer, ServesUpload, IsBadUpload}
use Rattle.dfu_sim.proofs.Events.{equal_offers_fail_alike}
use Rattle.dfu_sim.specs.OneAnswer.{EventHasOneRefusal, RefusedEventIsNoPlay, EventHasOneMeaning}

-- The offer of a file that the device accepts has no fault.
pub taken_offer_is_not_bad : (s : Setting) (purpose : Purpose) (file payload : List ℕ) (why : OfferFault) → IsOffered s purpose file payload
    → IsBadOffer s purpose file why → ⊥
taken_offer_is_not_bad s purpose file payload (offer_fault.Suffix f) o first =
    grammar_file_is_faultless file f (payload, o.ids, o.dfu, o.extra, o.reads) first
taken_offer_is_not_bad s purpose file payload (offer_fault.Host f) o (content, says, first) =
    let same = one_reading file content.payload payload _ _ _ _ _ _ says.reads o.reads in
    let taken : first_offer_fault purpose content s.functional s.ids ≡ None = equal_offers_fail_alike purpose content _ s.functional
    s.ids same.0 same.1
    ∙ o.taken in
    absurd cc

-- An offer is refused with at most one fault of its file or its session.
bad_offer_has_one_fault : (s : Setting) (purpose : Purpose) (file : List ℕ) (why other : OfferFault) → IsBadOffer s purpose file why
    → IsBadOffer s purpose file other
    → why ≡ other
bad_offer_has_one_fault s purpose file (offer_fault.Suffix f) (offer_fault.Suffix g) x y = let e : Some f ≡ Some g = sym x ∙ y in cc
bad_offer_has_one_fault s purpose file (offer_fault.Suffix f) (offer_fault.Host g) x (content, says, first) =
    absurd (grammar_file_is_faultless file f (content.payload, content.ids, content.dfu, says.extra, says.reads) x)
bad_offer_has_one_fault s purpose file (offer_fault.Host f) (offer_fault.Suffix g) (content, says, first) y =
    absurd (grammar_file_is_faultless file g (content.payload, content.ids, content.dfu, says.extra, says.reads) y)
bad_offer_has_one_fault s purpose file (offer_fault.Host f) (offer_fault.Host g) (content, says, first) (other, reads, second) =
    let same = one_reading file content.payload other.payload _ _ _ _ _ _ says.reads reads.reads in
    let e : Some f ≡ Some g = sym first ∙ (equal_offers_fail_alike purpose content other s.functional s.ids same.0 same.1 ∙ second) in
    cc

-- An upload is refused with at most one fault.
bad_upload_has_one_fault : (s : Setting) (why other : OfferFault) → IsBadUpload s why → IsBadUpload s other → why ≡ other
bad_upload_has_one_fault s (offer_fault.Host f) (offer_fault.Host g) x y = let e : Some f ≡ Some g = sym x ∙ y in cc
bad_upload_has_one_fault s (offer_fault.Host f) other x y = elim y [ ]
bad_upload_has_one_fault s why other x y = elim x [ ]

-- An upload from a device that serves uploads has no fault.
served_upload_is_not_bad : (s : Setting) (why : OfferFault) → IsBadUpload s why → ServesUpload s → ⊥
served_upload_is_not_bad s (offer_fault.Host f) x gives = let e : ◌≡◌ {A = Option HostFault} (Some f) None = sym x ∙ gives in absurd cc
served_upload_is_not_bad s why x gives = x

-- Lemmas about the fault of each refusal.

-- An event is refused with at most one fault.
pub event_has_one_refusal : EventHasOneRefusal
event_has_one_refusal b (Offers purpose file limits) fault.HostBusy (fault.BadOffer g) x y = absurd (subst IsLive y.0 x)
event_has_one_refusal b (Offers purpose file limits) (fault.BadOffer f) fault.HostBusy x y = absurd (subst IsLive x.0 y)
event_has_one_refusal b (Offers purpose file limits) (fault.BadOffer f) (fault.BadOffer g) x y =
    ap (λ (why : OfferFault). fault.BadOffer why) (bad_offer_has_one_fault b.device.config purpose file f g x.1 y.1)
event_has_one_refusal b (Uploads limits) fault.HostBusy (fault.BadOffer g) x y = absurd (subst IsLive y.0 x)
event_has_one_refusal b (Uploads limits) (fault.BadOffer f) fault.HostBusy x y = absurd (subst IsLive x.0 y)
event_has_one_refusal b (Uploads limits) (fault.BadOffer f) (fault.BadOffer g) x y =
    ap (λ (why : OfferFault). fault.BadOffer why) (bad_upload_has_one_fault b.device.config f g x.1 y.1)
event_has_one_refusal b Aborts fault.NoHost fault.NoHost x y = refl
event_has_one_refusal b (Goes fate harm) fault.NoHost fault.NoHost x y = refl
event_has_one_refusal b h why other x y = search

-- Lemmas about events while a session is live.

-- If an event may not happen with any live host, it may not happen while a session is live.
live_session_prevents_event : (s : Session) (h : Happening) → ((k : HostState) → MayHappen (HostSession k) h → ⊥) → IsLive s →
    MayHappen s h → ⊥
live_session_prevents_event NoLiveSession h never live a = live
live_session_prevents_event (HostSession k) h never live a = never k a

-- If an event is refused, no play of it may happen.
pub refused_event_is_no_play : RefusedEventIsNoPlay
refused_event_is_no_play b (Offers purpose file limits) fault.HostBusy event x m a =
    live_session_prevents_event b.session (Offers purpose m.0 limits) (λ k no. no) x (subst (MayHappen b.session) m.2 a)
refused_event_is_no_play b (Offers purpose file limits) (fault.BadOffer f) event x m a = taken_offer_is_not_bad b.device.config purpose
    file m.0 f m.1 x.1
refused_event_is_no_play b (Uploads limits) fault.HostBusy event x m a =
    live_session_prevents_event b.session (Uploads limits) (λ k no. no) x (subst (MayHappen b.session) m.1 a)
refused_event_is_no_play b (Uploads limits) (fault.BadOffer f) event x m a = served_upload_is_not_bad b.device.config f x.1 m.0
refused_event_is_no_play b Aborts fault.NoHost event x m a =
    subst (λ (s : Session). MayHappen s Aborts) x (subst (MayHappen b.session) m a)
refused_event_is_no_play b (Goes fate harm) fault.NoHost event x m a =
    subst (λ (s : Session). MayHappen s (Goes fate harm)) x (subst (MayHappen b.session) m a)
refused_event_is_no_play b h why event x m a = elim x [ ]

-- Lemmas about the meaning of each event.

-- Each event has at most one meaning.
pub one_event : EventHasOneMeaning
one_event s (Offers purpose file limits) event other m n =
    let same : m.0 ≡ n.0 = (one_reading file m.0 n.0 _ _ _ _ _ _ m.1.reads n.1.reads).0 in
    m.2 ∙ (ap (λ (p : List ℕ). Offers purpose p limits) same ∙ sym n.2)
one_event s (Uploads limits) event other m n = m.1 ∙ sym n.1
one_event s h event other m n = m ∙ sym n
