-- The headline: which image is active after any events, and the meaning of a report of Installed or Verified.
use Rattle.std.specs.Prelude.{◌≡◌, ◌⊎◌, ℕ, List, [], ◌∷◌, ◌++◌, take, Option, None, Result, Ok, Err}
use Rattle.std.specs.declared.vec.Vec.{Vec}
use Rattle.std.specs.declared.alloc.Global.{Global}
use Rattle.dfu_wire.specs.declared.ids.Ids.{Ids}
use Rattle.dfu_suffix.specs.Grammar.{IsFile}
use Rattle.dfu_slots.specs.Image.{Active}
use Rattle.dfu_device.specs.Stage.{Stage, InAppIdle, InManifestSync, InManifest}
use Rattle.dfu_host.specs.Phases.{Goal, LoadGoal, FetchGoal, VerifyGoal, CompareGoal}
use Rattle.dfu_host.specs.declared.report.Report.{Report}
use Rattle.dfu_sim.specs.declared.event.Event.{Event}
use Rattle.dfu_sim.specs.declared.event.Event.TheVariants.{Offer, OfferVerified, Upload}
use Rattle.dfu_sim.specs.declared.fault.LinkFault.{LinkFault}
use Rattle.dfu_sim.specs.declared.running.Stop.{Stop}
use Rattle.dfu_sim.specs.Session.{IsInPlaceReport, report_list}
use Rattle.dfu_sim.specs.LinkView.{Session, NoLiveSession, HostSession, LinkView, WorldView}

-- Beginning of a session: with the offer of a file, or as an upload of the active image.
pub data SessionBeginning : Type 0 where
  BeginningWithOffer : (file : List ℕ) → SessionBeginning
  BeginningAsUpload : SessionBeginning

-- Beginnings of sessions after a caller's event, the last one first. An offer or an upload adds one.
abbrev pub sessions_now : Event → List SessionBeginning → List SessionBeginning
sessions_now (Offer file limits) past = BeginningWithOffer file.now ∷ past
sessions_now (OfferVerified file limits) past = BeginningWithOffer file.now ∷ past
sessions_now (Upload limits) past = BeginningAsUpload ∷ past
sessions_now event past = past

-- The bytes are the whole payload of the file, by the grammar of DFU files.
abbrev pub IsPayload : List ℕ → (file : List ℕ) → Type 0
IsPayload x file = (ids : Ids) × (dfu : ℕ) × (extra : List ℕ) × IsFile x ids dfu extra file

-- The bytes are the whole payload of a file offered so far.
abbrev pub WasOffered : (past : List SessionBeginning) → List ℕ → Type 0
WasOffered [] x = ⊥
WasOffered (BeginningWithOffer file ∷ past) x = IsPayload x file ⊎ WasOffered past x
WasOffered (BeginningAsUpload ∷ past) x = WasOffered past x

-- The last session began with the offer of a file, and the bytes are its whole payload.
abbrev pub IsLastPayload : (past : List SessionBeginning) → List ℕ → Type 0
IsLastPayload [] x = ⊥
IsLastPayload (BeginningWithOffer file ∷ past) x = IsPayload x file
IsLastPayload (BeginningAsUpload ∷ past) x = ⊥

-- The headline for a link, after an event with `report`, when the sessions of `past` have begun. The active image is the factory image or
-- the payload of a file offered so far. After Installed or Verified the device is in appIDLE, and the last session's payload is active.
pub record HeadlineStatement (factory : List ℕ) (past : List SessionBeginning) (report : Option Report) (b : LinkView) : Type 0 where
  pub image : List ℕ
  pub active : Active b.device.slots.medium image
  pub known : (image ≡ factory) ⊎ WasOffered past image
  pub in_place : IsInPlaceReport report → (b.device.stage ≡ InAppIdle) × IsLastPayload past image

-- The device has all bytes of an image, and has not put it in place yet.
abbrev pub IsWaiting : Stage → List ℕ → Type 0
IsWaiting (InManifestSync taken) x = x ≡ taken
IsWaiting (InManifest taken passed) x = x ≡ taken
IsWaiting stage x = ⊥

-- The bytes are the payload that a session with this goal installs or compares.
abbrev pub IsGoalPayload : Goal → List ℕ → Type 0
IsGoalPayload (LoadGoal payload) x = x ≡ payload
IsGoalPayload FetchGoal x = ⊥
IsGoalPayload (VerifyGoal payload) x = x ≡ payload
IsGoalPayload (CompareGoal payload) x = x ≡ payload

-- A session is live, and the bytes are its payload.
abbrev pub IsLivePayload : Session → List ℕ → Type 0
IsLivePayload NoLiveSession x = ⊥
IsLivePayload (HostSession host) x = IsGoalPayload host.task.goal x

-- Facts that preserve the headline: an image that waits to be put in place was offered, and a live session's payload is that of the last
-- offer.
pub record HeadlineSupport (past : List SessionBeginning) (b : LinkView) : Type 0 where
  pub waiting : (x : List ℕ) → IsWaiting b.device.stage x → WasOffered past x
  pub live : (x : List ℕ) → IsLivePayload b.session x → IsLastPayload past x

-- The headline holds, and so do the facts that preserve it.
pub record HeadlineInvariant (factory : List ℕ) (past : List SessionBeginning) (report : Option Report) (b : LinkView) : Type 0 where
  pub says : HeadlineStatement factory past report b
  pub kept : HeadlineSupport past b

-- If the headline holds before an event, it holds after the event, with the event's report. A refused event changes nothing.
abbrev pub StepPreservesHeadline : WorldView → Event → WorldView → Result (Option Report) LinkFault → Type 0
StepPreservesHeadline w event w' (Ok report) = (factory : List ℕ) (past : List SessionBeginning) (before : Option Report)
    → HeadlineInvariant factory past before w.bench → HeadlineInvariant factory (sessions_now event past) report w'.bench
StepPreservesHeadline w event w' (Err fault) = w' ≡ w

-- The headline holds after each event of a list, with the report of that event.
pub data HeadlineAfterEach (factory : List ℕ) : (past : List SessionBeginning) → WorldView → List Event → List Report → WorldView
    → Type 0 where
  no_event : {past : List SessionBeginning} {w : WorldView} → HeadlineAfterEach factory past w [] [] w
  one_event : {past : List SessionBeginning} {w mid w' : WorldView} {event : Event} {events : List Event} {report : Option Report}
      {reports : List Report}
      → HeadlineInvariant factory (sessions_now event past) report mid.bench
      → HeadlineAfterEach factory (sessions_now event past) mid events reports w'
      → HeadlineAfterEach factory past w (event ∷ events) (report_list report ++ reports) w'

-- If the headline holds before a list of events, it holds after each of them.
abbrev pub EventsPreserveHeadline : WorldView → List Event → List Report → WorldView → Type 0
EventsPreserveHeadline w events reports w' = (factory : List ℕ) (past : List SessionBeginning) (before : Option Report)
    → HeadlineInvariant factory past before w.bench → HeadlineAfterEach factory past w events reports w'

-- A run preserves the headline through all of its events, or through the events before the one at which it stopped.
abbrev pub RunPreservesHeadline : WorldView → List Event → WorldView → Result (Vec Report Global) Stop → Type 0
RunPreservesHeadline w events w' (Ok reports) = EventsPreserveHeadline w events reports.items w'
RunPreservesHeadline w events w' (Err stop) = EventsPreserveHeadline w (take stop.at events) stop.reports.items w'

-- The headline holds at the start, if no session is live and no complete image waits to be put in place. The factory image is the image
-- that is active then.
abbrev pub HeadlineAtStart : Type 0
HeadlineAtStart = (b : LinkView) (factory : List ℕ) → Active b.device.slots.medium factory → b.session ≡ NoLiveSession
    → ((x : List ℕ) → IsWaiting b.device.stage x → ⊥) → HeadlineInvariant factory [] None b
