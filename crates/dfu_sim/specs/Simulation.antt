-- Statements on plays as steps of the session machine, and on the image after a legal run.
use Rattle.std.specs.Prelude.{◌≡◌, ◌⊎◌, ℕ, ◌<◌, Bool, List, [], ◌∷◌, Option}
use Rattle.dfu_device.specs.Stage.{Profile, InAppIdle}
use Rattle.dfu_host.specs.declared.report.Report.{Report}
use Rattle.dfu_sim.specs.Session.{Machine, LoadingPayload, IsOneOf, IsInPlaceReport, Kind, OfferKind, MachineStep, Legal}
use Rattle.dfu_sim.specs.Happening.{Happening}
use Rattle.dfu_sim.specs.Play.{kind_of, Link, Answered, uploaded_after, Play}
use Rattle.dfu_sim.specs.LinkAgreement.{Agrees}
use Rattle.dfu_sim.specs.Fact.{SessionFact}

-- The session machine follows an event: it makes one legal step, and agreement and the phase fact hold after it. If Installed or Verified
-- is reported, the device is in appIDLE, and the active image is the payload of the session that was live.
pub record StepIsFollowed (c : Profile) (m : Machine) (event : Happening) (w' : Link) (up' : List ℕ) (report : Option Report) : Type 0 where
  pub after : Machine
  pub step : MachineStep c.tolerant c.transfer (kind_of event) m report after
  pub agrees : Agrees w' up' after
  pub fact : SessionFact c w'.device w'.session
  pub in_place : IsInPlaceReport report → (w'.device.stage ≡ InAppIdle) × (m.live ≡ LoadingPayload w'.device.image)

-- If the transfer size is at least one byte and the phase fact holds, each play is one legal step of every session machine that agrees with
-- the link.
abbrev pub Simulation : Type 0
Simulation = (c : Profile) (w w' : Link) (up : List ℕ) (m : Machine) (event : Happening) (answer : Answered) → 0 < c.transfer
    → SessionFact c w.device w.session → Agrees w up m → Play c w event w' answer
    → StepIsFollowed c m event w' (uploaded_after answer.gave up) answer.report

-- Offers after events of these kinds, the last one first.
abbrev pub offers_after : List Kind → List (List ℕ) → List (List ℕ)
offers_after [] offers = offers
offers_after (OfferKind payload ∷ kinds) offers = offers_after kinds (payload ∷ offers)
offers_after (kind ∷ kinds) offers = offers_after kinds offers

-- After a legal run the payloads of its offers precede the machine's earlier offers, and the active image is the one before the run, or one
-- of these offers.
abbrev pub ActiveImageWasOffered : Type 0
ActiveImageWasOffered = (tolerant : Bool) (t : ℕ) (m m' : Machine) (kinds : List Kind) (reports : List Report) →
    Legal tolerant t m kinds reports m'
    → (m'.offers ≡ offers_after kinds m.offers) × ((m'.cur ≡ m.cur) ⊎ IsOneOf m'.cur (offers_after kinds m.offers))
