-- Refusals of events, with their faults.
use Rattle.std.specs.Prelude.{◌≡◌, ℕ, ◌+◌, List, length, Option, Some, None}
use Rattle.dfu_wire.specs.declared.ids.Ids.{Ids}
use Rattle.dfu_suffix.specs.Grammar.{Content, IsFile, First}
use Rattle.dfu_wire.specs.declared.functionals.Functional.{Functional}
use Rattle.dfu_host.specs.declared.fault.HostFault.{HostFault}
use Rattle.dfu_host.specs.Download.{first_download_fault, first_verify_fault}
use Rattle.dfu_host.specs.Uploading.{first_upload_fault}
use Rattle.dfu_device.specs.Setting.{Setting}
use Rattle.dfu_sim.specs.declared.offering.Purpose.{Purpose}
use Rattle.dfu_sim.specs.declared.offering.Purpose.TheVariants.{Install, Verify}
use Rattle.dfu_sim.specs.declared.fault.LinkFault.{LinkFault}
use Rattle.dfu_sim.specs.declared.fault.LinkFault.TheVariants as link_fault
use Rattle.dfu_sim.specs.declared.fault.OfferFault.{OfferFault}
use Rattle.dfu_sim.specs.declared.fault.OfferFault.TheVariants as offer_fault
use Rattle.dfu_sim.specs.LinkView.{NoLiveSession, IsLive, LinkView}
use Rattle.dfu_sim.specs.Happening.{Happening, Offers, Uploads, Aborts, Goes}

-- First fault of the session that an offer would begin, by the file's content and by the device's descriptor and identifiers.
abbrev pub first_offer_fault : Purpose → Content → Functional → Ids → Option HostFault
first_offer_fault Install file functional device = first_download_fault file functional device
first_offer_fault Verify file functional device = first_verify_fault file functional device

-- A device with this setting accepts the file: the file follows the grammar, it has this payload, and the session has no fault.
pub record IsOffered (s : Setting) (purpose : Purpose) (file payload : List ℕ) : Type 0 where
  pub ids : Ids
  pub dfu : ℕ
  pub extra : List ℕ
  pub reads : IsFile payload ids dfu extra file
  pub taken : first_offer_fault purpose (record { payload = payload; ids = ids; dfu = dfu; suffix = 16 + length extra }) s.functional
      s.ids ≡ None

-- The file follows the grammar of DFU files and has this content.
pub record ContentOfFile (file : List ℕ) (content : Content) : Type 0 where
  pub extra : List ℕ
  pub reads : IsFile content.payload content.ids content.dfu extra file
  pub suffix : content.suffix ≡ 16 + length extra

-- An offer is refused with a fault: the first fault of the file, or the first fault of the session that would begin.
abbrev pub IsBadOffer : Setting → Purpose → List ℕ → OfferFault → Type 0
IsBadOffer s purpose file (offer_fault.Suffix fault) = First fault file
IsBadOffer s purpose file (offer_fault.Host fault) = (content : Content) × ContentOfFile file content
    × (first_offer_fault purpose content s.functional s.ids ≡ Some fault)

-- A device with this setting serves uploads: an upload from it has no fault.
abbrev pub ServesUpload : Setting → Type 0
ServesUpload s = first_upload_fault s.functional ≡ None

-- The fault is the first fault of an upload from a device with this setting.
abbrev pub IsBadUpload : Setting → OfferFault → Type 0
IsBadUpload s (offer_fault.Suffix fault) = ⊥
IsBadUpload s (offer_fault.Host fault) = first_upload_fault s.functional ≡ Some fault

-- An event is refused: an offer or an upload while a session is live, and an abort or an action while no session is live. While no session
-- is live, an offer of a file that the device does not accept, and an upload from a device that does not serve uploads, are refused too.
abbrev pub IsRefused : LinkView → Happening → LinkFault → Type 0
IsRefused b (Offers purpose file limits) link_fault.HostBusy = IsLive b.session
IsRefused b (Offers purpose file limits) (link_fault.BadOffer fault) = (b.session ≡ NoLiveSession)
    × IsBadOffer b.device.config purpose file fault
IsRefused b (Uploads limits) link_fault.HostBusy = IsLive b.session
IsRefused b (Uploads limits) (link_fault.BadOffer fault) = (b.session ≡ NoLiveSession) × IsBadUpload b.device.config fault
IsRefused b Aborts link_fault.NoHost = b.session ≡ NoLiveSession
IsRefused b (Goes f harm) link_fault.NoHost = b.session ≡ NoLiveSession
IsRefused b h fault = ⊥
