-- The pieces of a complete upload form the active image.
use Rattle.std.specs.Prelude.{◌≡◌, ℕ, List, [], ◌++◌}
use Rattle.dfu_slots.specs.StoreView.{image_of}
use Rattle.dfu_device.specs.DeviceView.{DeviceView, situation}
use Rattle.dfu_device.specs.History.{HistoryStep, IsTableRow, IsHistory}
use Rattle.dfu_device.specs.Sent.{sent_of, SentBytes, IsLastUploadStep}

-- The bytes sent before the last step of an upload, followed by those of that step, are the active image.
abbrev pub UploadIsImage : Type 0
UploadIsImage = (s : HistoryStep) → IsTableRow s → IsLastUploadStep s → sent_of (situation s.before) ++ s.out ≡ image_of s.after.slots

-- If a device that had sent nothing completes an upload, the bytes that its history sent, followed by those of the last step, are the
-- active image.
abbrev pub UploadsAreImages : Type 0
UploadsAreImages = (h : List HistoryStep) (s : HistoryStep) (w : DeviceView) → sent_of (situation w) ≡ [] → IsHistory w h s.before
    → IsTableRow s →
    IsLastUploadStep s
    → (sent : List ℕ) × SentBytes h sent × (sent ++ s.out ≡ image_of s.after.slots)
