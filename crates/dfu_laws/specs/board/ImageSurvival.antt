-- Active image of a board after any steps: the image at power on, or all bytes of a download that was closed since.
use Rattle.std.specs.Prelude.{◌≡◌, ◌≢◌, ◌⊎◌, ℕ, Bool, true, false, List, [], ◌∷◌, ◌++◌}
use Rattle.dfu_wire.specs.declared.states.State.{State}
use Rattle.dfu_wire.specs.declared.states.State.TheVariants.{DfuIdle, ManifestSync, Manifest, ManifestWaitReset}
use Rattle.dfu_slots.specs.Image.{Active}
use Rattle.dfu_device.specs.declared.answer.Answer.TheVariants as answer
use Rattle.dfu_device.specs.Rows.{Transfer}
use Rattle.dfu_device.specs.AcceptedBytes.{accepted_in_state, is_dnload, acknowledged_bytes}
use Rattle.dfu_laws.specs.board.Board.{Board, medium_on, state_on, Event, Handle, Restart, BoardReply, Answers, BoardStep}
use Rattle.dfu_laws.specs.board.Happens.{IsPoweredOn, IsRun}

-- Bytes that a step adds to a download: the body of an acknowledged DNLOAD, and none for any other event.
abbrev pub acknowledged_body : Event → BoardReply → List ℕ
acknowledged_body (Handle setup body) (Answers a out) = acknowledged_bytes (Transfer setup body) a
acknowledged_body event says = []

-- Bytes of the download under way after the steps. `taken` are its bytes before the steps. Each step adds the block that it acknowledged,
-- and a step into a state with no download under way drops all bytes.
abbrev pub accepted_bytes_of : List ℕ → List BoardStep → List ℕ
accepted_bytes_of taken [] = taken
accepted_bytes_of taken (s ∷ rest) = accepted_bytes_of (accepted_in_state (state_on s.after) (taken ++ acknowledged_body s.event s.says)) rest

-- A step acknowledged a DNLOAD of length 0, which closes a download.
pub record IsAcknowledgedClose (s : BoardStep) : Type 0 where
  -- Setup packet of the DNLOAD.
  pub setup : List ℕ
  -- The event is a call with this setup and no bytes.
  pub event : s.event ≡ Handle setup []
  -- The setup packet is one of a DNLOAD.
  pub dnload : is_dnload setup ≡ true
  -- The call is acknowledged.
  pub says : s.says ≡ Answers answer.Ack []

-- One of the steps, which follow the old steps, closed a download, and the image is all bytes of that download.
pub record DownloadOfImageClosed (old steps : List BoardStep) (image : List ℕ) : Type 0 where
  -- Steps before the close.
  pub first : List BoardStep
  -- Step that closes the download.
  pub close : BoardStep
  pub rest : List BoardStep
  pub steps_are : steps ≡ first ++ close ∷ rest
  pub is : IsAcknowledgedClose close
  -- The image is all bytes that the board acknowledged before the close.
  pub image_is : image ≡ accepted_bytes_of [] (old ++ first)

-- The active image of a board's flash is the given one, or all bytes of a download that one of the steps closed.
pub record ImageKeptOrClosed (image : List ℕ) (old steps : List BoardStep) (b : Board) : Type 0 where
  pub now : List ℕ
  pub active : Active (medium_on b) now
  -- The active image is the given one, or all bytes of a closed download.
  pub whence : (now ≡ image) ⊎ DownloadOfImageClosed old steps now

-- After any steps of a board from power on, its active image is the one at power on, or all bytes of a download closed since.
abbrev pub RunsKeepImage : Type 0
RunsKeepImage = (b b' : Board) (steps : List BoardStep) (image : List ℕ) → IsPoweredOn b → Active (medium_on b) image → IsRun b steps b'
    → ImageKeptOrClosed image [] steps b'

-- True for a state in which a complete image may be pending.
abbrev pub is_manifesting : State → Bool
is_manifesting ManifestSync = true
is_manifesting Manifest = true
is_manifesting state = false

-- After any time since power on at which no image is pending, the active image is the one of that time, or all bytes of a download closed
-- since then. No image of a download that was closed before that time becomes active.
abbrev pub ImageStaysInRun : Type 0
ImageStaysInRun = (b mid b' : Board) (old steps : List BoardStep) (image : List ℕ) → IsPoweredOn b → IsRun b old mid
    → is_manifesting (state_on mid) ≡ false → Active (medium_on mid) image → IsRun mid steps b' → ImageKeptOrClosed image old steps b'

-- True for a state after a manifestation that ended without a fault.
abbrev pub has_manifested : State → Bool
has_manifested DfuIdle = true
has_manifested ManifestWaitReset = true
has_manifested state = false

-- After a step that leads out of manifestation without a fault, all bytes of the download are the active image. A restart into dfuIDLE is
-- excluded, because it leads to dfuIDLE from any state.
abbrev pub ManifestationInstalls : Type 0
ManifestationInstalls = (b mid b' : Board) (steps : List BoardStep) (last : BoardStep) → IsPoweredOn b → IsRun b steps mid
    → is_manifesting (state_on mid) ≡ true → IsRun mid (last ∷ []) b' → last.event ≢ Restart true → has_manifested (state_on b') ≡ true
    → Active (medium_on b') (accepted_bytes_of [] steps)
