-- Events that a judge observes of a device's history, and the law that each such history conforms to the standard.
use Rattle.std.specs.Prelude.{◌≡◌, ℕ, ◌+◌, ◌*◌, ◌≤◌, Bool, true, false, List, [], ◌∷◌, length, slice_index}
use Rattle.dfu_wire.specs.declared.setups.Setup.{Setup}
use Rattle.dfu_wire.specs.declared.requests.Request.{Request as Asked}
use Rattle.dfu_wire.specs.declared.requests.Request.TheVariants as asked
use Rattle.dfu_wire.specs.declared.codes.Code.TheVariants.{Ok as NoFault}
use Rattle.dfu_wire.specs.Setup.{IsSetup}
use Rattle.dfu_wire.specs.Request.{SetupAsksFor}
use Rattle.dfu_device.specs.declared.answer.Answer.{Answer}
use Rattle.dfu_device.specs.declared.answer.Answer.TheVariants as answer
use Rattle.dfu_device.specs.Setting.{IsAllowedSetting}
use Rattle.dfu_device.specs.Stage.{Profile, Stage, InAppIdle, InAppDetach, InDfuIdle, InDownloadSync, InDownloadSyncWritten, InDownloadBusy, InDownloadIdle, InManifestSync, InManifestSyncComplete, InManifest, InManifestWaitReset, InUploadIdle, InError}
use Rattle.dfu_device.specs.DeviceView.{DeviceView, profile}
use Rattle.dfu_device.specs.Rows.{Cause, Transfer, Passing, BusReset, RefusingClose, Refusing, PowerOn}
use Rattle.dfu_device.specs.History.{HistoryStep, IsHistory}
use Rattle.dfu_conformance.specs.declared.row.StandardState.{StandardState}
use Rattle.dfu_conformance.specs.declared.row.StandardState.TheVariants as place
use Rattle.dfu_conformance.specs.declared.event.Response.{Response as Shows}
use Rattle.dfu_conformance.specs.declared.event.Response.TheVariants as shows
use Rattle.dfu_conformance.specs.declared.event.LogEvent.{LogEvent}
use Rattle.dfu_conformance.specs.Setups.{event_of, reset_event, power_event}
use Rattle.dfu_conformance.specs.declared.verdict.Verdict.TheVariants.{Kept}
use Rattle.dfu_conformance.specs.MayAnswer.{Run}
use Rattle.dfu_conformance.specs.Verdict.{IsVerdict}

-- Number of a bit: 1 if it is set, else 0.
abbrev pub attribute_bit : Bool → ℕ
attribute_bit true = 1
attribute_bit false = 0

-- bmAttributes with these four bits.
abbrev pub attributes : (download upload tolerant will_detach : Bool) → ℕ
attributes d u t w = attribute_bit d + 2 * attribute_bit u + 4 * attribute_bit t + 8 * attribute_bit w

-- bmAttributes of a device with this profile.
abbrev pub attributes_of : Profile → ℕ
attributes_of c = attributes c.can_download c.can_upload c.tolerant c.will_detach

-- State of a device in the table of the judge.
abbrev pub place_of : Stage → StandardState
place_of InAppIdle = place.AppIdle
place_of (InAppDetach timer passed) = place.AppDetach
place_of InDfuIdle = place.DfuIdle
place_of (InDownloadSync before block number) = place.DownloadSync
place_of (InDownloadSyncWritten taken number) = place.DownloadSync
place_of (InDownloadBusy before block number passed) = place.DownloadBusy
place_of (InDownloadIdle taken number) = place.DownloadIdle
place_of (InManifestSync taken) = place.ManifestSync
place_of InManifestSyncComplete = place.ManifestSync
place_of (InManifest taken passed) = place.Manifest
place_of InManifestWaitReset = place.ManifestWaitReset
place_of (InUploadIdle at number) = place.UploadIdle
place_of (InError code) = place.Error

-- Response that a judge observes for an answer and its bytes.
abbrev pub seen : Answer → List ℕ → Shows
seen answer.Ack out = shows.Bytes 0 0 0
seen answer.Stall out = shows.Stall
seen answer.Bytes out = shows.Bytes (length out) (slice_index out 0) (slice_index out 4)

-- `events` is the event of the transfer, followed by `rest`. A transfer that is not a class request for interface 0 adds no event.
abbrev pub TransferAddsEvent : Setup → Asked → List ℕ → Shows → (rest events : List LogEvent) → Type 0
TransferAddsEvent p asked.NotDfu body a rest events = events ≡ rest
TransferAddsEvent p q body a rest events = events ≡ event_of p q (length body) a ∷ rest

-- `events` is the event of the step, followed by `rest`. The passing of time and the refusal of an image after its close add no event,
-- because a judge observes neither the time nor the refusal.
abbrev pub EventsOfStep : Cause → Answer → List ℕ → (rest events : List LogEvent) → Type 0
EventsOfStep (Transfer setup body) a out rest events =
    (p : Setup) × (q : Asked) × IsSetup p setup × SetupAsksFor p q × TransferAddsEvent p q body (seen a out) rest events
EventsOfStep (Passing ms) a out rest events = events ≡ rest
EventsOfStep BusReset a out rest events = events ≡ reset_event ∷ rest
EventsOfStep (RefusingClose setup why) a out rest events =
    (p : Setup) × (q : Asked) × IsSetup p setup × SetupAsksFor p q × TransferAddsEvent p q [] (seen a out) rest events
EventsOfStep (Refusing why) a out rest events = events ≡ rest
EventsOfStep PowerOn a out rest events = events ≡ power_event ∷ rest

-- The events are those that a judge observes of a history.
abbrev pub EventsOfHistory : List HistoryStep → List LogEvent → Type 0
EventsOfHistory [] events = events ≡ []
EventsOfHistory (s ∷ h) events = (rest : List LogEvent) × EventsOfStep s.cause s.answer s.out rest events × EventsOfHistory h rest

-- Invariant of each stage that a device reaches: manifestation is complete in dfuMANIFEST-SYNC only if the device is tolerant, an upload is
-- under way only if the device can upload, and dfuERROR never has the code OK.
abbrev pub StageInvariant : Profile → Stage → Type 0
StageInvariant c InManifestSyncComplete = c.tolerant ≡ true
StageInvariant c (InUploadIdle at number) = c.can_upload ≡ true
StageInvariant c (InError NoFault) = ⊥
StageInvariant c stage = Unit {0}

-- A device that is not manifestation tolerant has a manifestation time of at least 1 ms.
abbrev pub NeedsManifestTime : Profile → Type 0
NeedsManifestTime c = c.tolerant ≡ false → 1 ≤ c.manifest

-- The events that a judge observes of a history are a run of the standard's table without a habit (a tolerated departure from the
-- standard). The invariant must hold for the first stage, and the device must be manifestation tolerant or take time to manifest. The
-- invariant holds for the last stage too.
abbrev pub HistoriesConform : Type 0
HistoriesConform = (h : List HistoryStep) (events : List LogEvent) (w w' : DeviceView) → NeedsManifestTime (profile w)
    → StageInvariant (profile w) w.stage →
    IsHistory w h w'
    → EventsOfHistory h events → Run (attributes_of (profile w)) 0 (place_of w.stage) events (place_of w'.stage)
    × StageInvariant (profile w') w'.stage

-- A device with an allowed setting that begins in appIDLE, as after power on, gives only answers that the standard allows.
abbrev pub DevicesFromStartConform : Type 0
DevicesFromStartConform =
    (h : List HistoryStep) (events : List LogEvent) (w w' : DeviceView) → IsAllowedSetting w.config → w.stage ≡ InAppIdle → IsHistory w h w'
    → EventsOfHistory h events → Run (attributes_of (profile w)) 0 place.AppIdle events (place_of w'.stage) × IsVerdict Kept events
