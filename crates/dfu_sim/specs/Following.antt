-- Events of a link as steps of the session machine.
use Rattle.std.specs.Prelude.{◌≡◌, ℕ, List, Option, Result, Ok, Err}
use Rattle.dfu_wire.specs.declared.ids.Ids.{Ids}
use Rattle.dfu_suffix.specs.Grammar.{IsFile}
use Rattle.dfu_device.specs.Stage.{InAppIdle}
use Rattle.dfu_host.specs.declared.report.Report.{Report}
use Rattle.dfu_sim.specs.declared.fault.LinkFault.{LinkFault}
use Rattle.dfu_sim.specs.Session.{Machine, LoadingPayload, IsInPlaceReport, Kind, OfferKind, UploadKind, AbortKind, TimeKind, RestartKind, RefusalKind, ActionKind, MachineStep}
use Rattle.dfu_sim.specs.Agreement.{AgreesOn}
use Rattle.dfu_sim.specs.Happening.{Happening, Offers, Uploads, Aborts, Goes, Passes, Resets, Cuts, Refuses}
use Rattle.dfu_sim.specs.LinkView.{WorldView}

-- The event has this kind for the session machine. The offer of a file is an offer of its payload.
abbrev pub EventHasKind : Happening → Kind → Type 0
EventHasKind (Offers purpose file limits) kind =
    (payload : List ℕ) × (ids : Ids) × (dfu : ℕ) × (extra : List ℕ) × IsFile payload ids dfu extra file × (kind ≡ OfferKind payload)
EventHasKind (Uploads limits) kind = kind ≡ UploadKind
EventHasKind Aborts kind = kind ≡ AbortKind
EventHasKind (Goes fate harm) kind = kind ≡ ActionKind
EventHasKind (Passes ms) kind = kind ≡ TimeKind
EventHasKind Resets kind = kind ≡ RestartKind
EventHasKind Cuts kind = kind ≡ RestartKind
EventHasKind (Refuses why) kind = kind ≡ RefusalKind

-- The session machine follows an event: it makes one legal step with the report, and then agrees with the link again, so its active image
-- is that of the medium's bytes. If Installed or Verified is reported, the device is in appIDLE, and that image is the payload of the
-- session that was live.
pub record MachineFollows (w : WorldView) (h : Happening) (w' : WorldView) (report : Option Report) (m : Machine) : Type 0 where
  pub kind : Kind
  pub is : EventHasKind h kind
  pub after : Machine
  pub step : MachineStep w.bench.device.config.functional.tolerant w.bench.device.config.functional.transfer kind m report after
  pub agrees : AgreesOn w'.bench w'.up after
  pub in_place : IsInPlaceReport report → (w'.bench.device.stage ≡ InAppIdle) × (m.live ≡ LoadingPayload after.cur)

-- Each session machine that agrees with a world follows an event; a refused event changes nothing.
abbrev pub AllMachinesFollow : WorldView → Happening → WorldView → Result (Option Report) LinkFault → Type 0
AllMachinesFollow w h w' (Ok report) = (m : Machine) → AgreesOn w.bench w.up m → MachineFollows w h w' report m
AllMachinesFollow w h w' (Err fault) = w' ≡ w
