-- Bytes that an event uploads.
use Rattle.std.specs.Prelude.{◌≡◌, ◌*◌, ◌<◌, length, Option, Some, Result, Ok}
use Rattle.dfu_slots.specs.Medium.Fuse.{Whole}
use Rattle.dfu_device.specs.DeviceView.{DeviceView}
use Rattle.dfu_host.specs.declared.report.Report.{Report}
use Rattle.dfu_host.specs.declared.report.Report.TheVariants.{Uploaded}
use Rattle.dfu_sim.specs.declared.fault.LinkFault.{LinkFault}
use Rattle.dfu_sim.specs.LinkView.{NoLiveSession, LinkView, WorldView}
use Rattle.dfu_sim.specs.Play.{Answered}
use Rattle.dfu_sim.specs.Bytes.{link_of_bench}
use Rattle.dfu_sim.specs.Happening.{Happening}
use Rattle.dfu_sim.specs.EventResults.{EventResult}
use Rattle.dfu_sim.specs.LinkInvariant.{IsSteadyLink}

-- The uploaded bytes are the active image of the device, and fewer than 65,535 times its transfer size.
pub record UploadIsActive (w : WorldView) : Type 0 where
  pub image : w.up ≡ (link_of_bench w.bench).device.image
  pub short : length w.up < 65535 * w.bench.device.config.functional.transfer

-- If the report is Uploaded, the uploaded bytes are the active image; otherwise the bytes of the last upload remain.
abbrev pub UploadOrUnchanged : WorldView → WorldView → Result (Option Report) LinkFault → Type 0
UploadOrUnchanged w w' (Ok (Some Uploaded)) = UploadIsActive w'
UploadOrUnchanged w w' result = w'.up ≡ w.up

-- After an event a steady link is steady again, and an event that reports Uploaded returns the bytes of the active image.
abbrev pub UploadsAreActive : Type 0
UploadsAreActive = (b b' : LinkView) (h : Happening) (answer : Answered) → IsSteadyLink b → EventResult b h b' (Ok answer)
    → IsSteadyLink b' × (answer.report ≡ Some Uploaded → answer.gave ≡ Some (link_of_bench b').device.image)

-- A link to an unarmed device with no session is steady.
abbrev pub RestIsSteady : Type 0
RestIsSteady = (device : DeviceView) → device.slots.medium.fuse ≡ Whole → IsSteadyLink (record { device = device; session = NoLiveSession })
