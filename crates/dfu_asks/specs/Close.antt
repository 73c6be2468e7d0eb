-- Verdict, before a setup is handled, on whether the setup closes a download.
use Rattle.std.specs.Prelude.{◌≡◌, ◌↔◌, ℕ, Bool, IsTrue, List, Some}
use Rattle.dfu_device.specs.declared.answer.Answer.{Answer}
use Rattle.dfu_device.specs.declared.answer.Answer.TheVariants as answer
use Rattle.dfu_device.specs.Candidate.{candidate_in}
use Rattle.dfu_device.specs.DeviceView.{DeviceView}
use Rattle.dfu_device.specs.Rows.{ClosesDownload, Handles}
use Rattle.dfu_device.specs.Stage.{InManifestSync}
use Rattle.dfu_asks.specs.Verdict.{IsBodyOf}

-- The device has closed its download: it acknowledged the request, and the image of all downloaded bytes is pending.
pub record DownloadWasClosed (d : DeviceView) (x : Answer) (d' : DeviceView) : Type 0 where
  pub close_acknowledged : x ≡ answer.Ack
  pub taken : List ℕ
  pub had : candidate_in d.stage ≡ Some taken
  pub waits : d'.stage ≡ InManifestSync taken

-- The verdict is true exactly if the setup closes the download of this device. If true, handling the setup acknowledges the request and
-- closes the download; if false, it closes no download.
pub record IsCloseVerdict (said : Bool) (setup : List ℕ) (d : DeviceView) : Type 0 where
  pub closes : IsTrue said ↔ ClosesDownload setup d
  pub closed : (body : List ℕ) → IsBodyOf setup body → (x : Answer) (sent : List ℕ) (d' : DeviceView) → Handles setup body d x sent d'
      → IsTrue said ↔ DownloadWasClosed d x d'
