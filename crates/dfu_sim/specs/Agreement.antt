-- Agreement of a link with a session machine: its image, its pending bytes, its live session and its offers.
use Rattle.std.specs.Prelude.{◌≡◌, ℕ, List, ◌++◌, Option, Some, None}
use Rattle.dfu_slots.specs.Image.{Active}
use Rattle.dfu_device.specs.Stage.{Stage, InAppIdle, InAppDetach, InDfuIdle, InDownloadSync, InDownloadSyncWritten, InDownloadBusy, InDownloadIdle, InManifestSync, InManifestSyncComplete, InManifest, InManifestWaitReset, InUploadIdle, InError}
use Rattle.dfu_host.specs.Phases.{Goal, LoadGoal, FetchGoal, VerifyGoal, CompareGoal}
use Rattle.dfu_sim.specs.Session.{IsOneOf, Machine, LiveSession, NothingLive, LoadingPayload, Fetching}
use Rattle.dfu_sim.specs.LinkView.{Session, NoLiveSession, HostSession, LinkView}

-- Progress of an image that is not active yet: the device has no bytes of it; it has some bytes, and the download is still open; or it has
-- all bytes, and the download is closed.
pub data Intake : Type 0 where
  NoImageTaken : Intake
  Open : (taken : List ℕ) → Intake
  Shut : (taken : List ℕ) → Intake

-- Progress of the image that a device receives, by the device's stage.
abbrev pub intake_of_stage : Stage → Intake
intake_of_stage InAppIdle = NoImageTaken
intake_of_stage (InAppDetach timer passed) = NoImageTaken
intake_of_stage InDfuIdle = NoImageTaken
intake_of_stage (InDownloadSync before block number) = Open (before ++ block)
intake_of_stage (InDownloadSyncWritten taken number) = Open taken
intake_of_stage (InDownloadBusy before block number passed) = Open (before ++ block)
intake_of_stage (InDownloadIdle taken number) = Open taken
intake_of_stage (InManifestSync taken) = Shut taken
intake_of_stage InManifestSyncComplete = NoImageTaken
intake_of_stage (InManifest taken passed) = Shut taken
intake_of_stage InManifestWaitReset = NoImageTaken
intake_of_stage (InUploadIdle place number) = NoImageTaken
intake_of_stage (InError code) = NoImageTaken

-- Bytes of the image in progress that the device has so far; None if no image is in progress.
abbrev pub pending_bytes_in : Intake → Option (List ℕ)
pending_bytes_in NoImageTaken = None
pending_bytes_in (Open taken) = Some taken
pending_bytes_in (Shut taken) = Some taken

-- Live session of a machine, by the goal of the link's session.
abbrev pub live_session_of_goal : Goal → LiveSession
live_session_of_goal (LoadGoal payload) = LoadingPayload payload
live_session_of_goal FetchGoal = Fetching
live_session_of_goal (VerifyGoal payload) = LoadingPayload payload
live_session_of_goal (CompareGoal payload) = LoadingPayload payload

-- Live session of a machine, by the link's session.
abbrev pub live_session_of : Session → LiveSession
live_session_of NoLiveSession = NothingLive
live_session_of (HostSession h) = live_session_of_goal h.task.goal

-- If the download is closed, its bytes are one of the offers.
abbrev pub IsClosedOffer : List (List ℕ) → Intake → Type 0
IsClosedOffer offers NoImageTaken = Unit {0}
IsClosedOffer offers (Open taken) = Unit {0}
IsClosedOffer offers (Shut taken) = IsOneOf taken offers

-- The payload of the live session, if it has one, is one of the offers.
abbrev pub IsLiveOffer : List (List ℕ) → LiveSession → Type 0
IsLiveOffer offers NothingLive = Unit {0}
IsLiveOffer offers (LoadingPayload payload) = IsOneOf payload offers
IsLiveOffer offers Fetching = Unit {0}

-- A bench, with the bytes of the last upload, agrees with a session machine. The machine's active image is the active image of the medium's
-- bytes, and its pending bytes, live session and last upload are those of the bench. Its offers contain the bytes of a closed download and
-- the payload of the live session. The bench therefore determines the machine, except for its offers.
pub record AgreesOn (b : LinkView) (up : List ℕ) (m : Machine) : Type 0 where
  pub active : Active b.device.slots.medium m.cur
  pub pending : m.pending ≡ pending_bytes_in (intake_of_stage b.device.stage)
  pub live : m.live ≡ live_session_of b.session
  pub up_is : m.up ≡ up
  pub sound : IsClosedOffer m.offers (intake_of_stage b.device.stage)
  pub offered : IsLiveOffer m.offers (live_session_of b.session)
